-- The phrases of the code's table.
use Rattle.spec_history.specs.Machine as machine
use Rattle.spec_audit.specs.Reading.{Rest, changed_rest, refused_rest, one_number, nothing_more, tile_rest, optional_rest}
use Rattle.xl_printed.specs.declared.replies.Phrase.{Phrase}
use Rattle.xl_printed.specs.declared.replies.Phrase.TheVariants.{Changed, Refused, Moved, NothingToUndo, NothingToRedo, NotTop, Tile}
use Rattle.xl_printed.specs.declared.replies.Phrase.TheVariants.{Stale, NoStack, OutsideTile, Top, Saved, SaveFault}

abbrev pub rest_of : Phrase → Rest
rest_of Changed = changed_rest
rest_of Refused = refused_rest
rest_of Moved = one_number machine.moved
rest_of NothingToUndo = nothing_more machine.nothing_to_undo
rest_of NothingToRedo = nothing_more machine.nothing_to_redo
rest_of NotTop = one_number machine.not_top
rest_of Tile = tile_rest
rest_of Stale = optional_rest machine.stale
rest_of NoStack = one_number machine.no_stack
rest_of OutsideTile = nothing_more machine.outside_tile
rest_of Top = optional_rest machine.top_is
rest_of Saved = one_number machine.saved
rest_of SaveFault = one_number machine.save_fault
