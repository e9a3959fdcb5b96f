-- Calls within their types have edits within their types, in groups that are not too large.
use Rattle.std.proofs.Common.{◌≤◌, List, [], ◌∷◌, length, arith}
use Rattle.spec_history.specs.Machine.{edit, undo, redo, tile, peek, top}
use Rattle.spec_history.specs.History.{Entry, Kind, asked, starts, ends}
use Rattle.spec_history.specs.declared.TheConstants.{MAX_EDITS}
use Rattle.spec_history.specs.Limited.{AsksEdits, AreEdits, edits_in, AreGroupsUpTo, AsksCall, AreCalls}

call_has_edits : (kind : Kind) → AsksCall kind → AsksEdits kind
call_has_edits (asked (edit guard edits) tables) is = (is.0.each, is.1)
call_has_edits (asked (undo named) tables) is = tt
call_has_edits (asked redo tables) is = tt
call_has_edits (asked (tile stack at) tables) is = tt
call_has_edits (asked (peek stack at) tables) is = tt
call_has_edits (asked top tables) is = tt
call_has_edits starts is = tt
call_has_edits ends is = tt

call_is_short : (kind : Kind) → AsksCall kind → length (edits_in kind) ≤ MAX_EDITS
call_is_short (asked (edit guard edits) tables) is = is.0.few
call_is_short (asked (undo named) tables) is = omega arith
call_is_short (asked redo tables) is = omega arith
call_is_short (asked (tile stack at) tables) is = omega arith
call_is_short (asked (peek stack at) tables) is = omega arith
call_is_short (asked top tables) is = omega arith
call_is_short starts is = omega arith
call_is_short ends is = omega arith

pub calls_have_edits : (es : List Entry) → AreCalls es → AreEdits es
calls_have_edits [] are = tt
calls_have_edits (e ∷ es) are = (call_has_edits e.kind are.0, calls_have_edits es are.1)

pub calls_are_short : (es : List Entry) → AreCalls es → AreGroupsUpTo MAX_EDITS es
calls_are_short [] are = tt
calls_are_short (e ∷ es) are = (call_is_short e.kind are.0, calls_are_short es are.1)
