-- What the replies of the code mean.
use Rattle.spec_history.specs.Machine as machine
use Rattle.xl_calls.specs.declared.reply.Reply.{Reply}
use Rattle.xl_calls.specs.declared.reply.Reply.TheVariants.{Changed, Refused, Moved, NothingToUndo, NothingToRedo}
use Rattle.xl_calls.specs.declared.reply.Reply.TheVariants.{NotTop, Tile, Stale, NoStack, OutsideTile, Top, Saved}
use Rattle.xl_calls.specs.declared.reply.Reply.TheVariants.{SaveFault, SaveMemory, HistoryFull}

abbrev pub reply_of : Reply → machine.Reply
reply_of (Changed version group next) = machine.changed version group next
reply_of (Refused index cause) = machine.refused index cause
reply_of (Moved now) = machine.moved now
reply_of NothingToUndo = machine.nothing_to_undo
reply_of NothingToRedo = machine.nothing_to_redo
reply_of (NotTop top) = machine.not_top top
reply_of (Tile version) = machine.tile_of version
reply_of (Stale have seen) = machine.stale have seen
reply_of (NoStack node) = machine.no_stack node
reply_of OutsideTile = machine.outside_tile
reply_of (Top group version) = machine.top_is group version
reply_of (Saved version) = machine.saved version
reply_of (SaveFault version) = machine.save_fault version
reply_of (SaveMemory version) = machine.save_memory version
reply_of HistoryFull = machine.history_full
