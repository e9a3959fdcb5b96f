-- Bytes that are 1 to 256 colours.
use Rattle.std.proofs.Common.{◌≡◌, ℕ, true, ◌&&◌, ◌==◌, nat_le, List, length, arith}
use Rattle.std.specs.Prelude.{◌/◌, ◌%◌}
use Rattle.std.proofs.lemmas.Bool.{and_parts, leb-true, eqb-true}
use Rattle.std.proofs.lemmas.Nat.{div-add-mod'}
use Rattle.spec_document.specs.Limits.{AreBytes}
use Rattle.spec_edit.specs.Edit as edits
use Rattle.spec_edit.specs.Edit.{IsEdit}
use Rattle.spec_script.specs.Commands.{are_colours}

pub colours_are : (bytes : List ℕ) → AreBytes bytes → are_colours bytes ≡ true → IsEdit (edits.set_colours bytes)
colours_are bytes all e =
    let first = and_parts (nat_le 3 (length bytes)) (nat_le (length bytes) 768 && length bytes % 3 == 0) e in
    let second = and_parts (nat_le (length bytes) 768) (length bytes % 3 == 0) first.1 in
    let least = leb-true 3 (length bytes) first.0 in
    let most = leb-true (length bytes) 768 second.0 in
    let rest = eqb-true (length bytes % 3) 0 second.1 in
    let whole = div-add-mod' (length bytes) 3 in
    (all, (length bytes / 3, omega arith, omega arith, omega arith))
