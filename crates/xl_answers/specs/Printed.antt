-- Which replies are printed.
use Rattle.xl_calls.specs.declared.reply.Reply.{Reply}
use Rattle.xl_calls.specs.declared.reply.Reply.TheVariants.{Changed, Refused, Moved, NothingToUndo, NothingToRedo, NotTop, Tile}
use Rattle.xl_calls.specs.declared.reply.Reply.TheVariants.{Stale, NoStack, OutsideTile, Top, Saved, SaveFault, SaveMemory, HistoryFull}

-- neither a save without memory nor a full history
abbrev pub HasText : Reply → Type 0
HasText (Changed version group next) = Unit {0}
HasText (Refused index cause) = Unit {0}
HasText (Moved now) = Unit {0}
HasText NothingToUndo = Unit {0}
HasText NothingToRedo = Unit {0}
HasText (NotTop top) = Unit {0}
HasText (Tile version) = Unit {0}
HasText (Stale have seen) = Unit {0}
HasText (NoStack node) = Unit {0}
HasText OutsideTile = Unit {0}
HasText (Top group version) = Unit {0}
HasText (Saved version) = Unit {0}
HasText (SaveFault version) = Unit {0}
HasText (SaveMemory version) = ⊥
HasText HistoryFull = ⊥
