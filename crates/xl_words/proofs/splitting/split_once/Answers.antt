use Rattle.std.proofs.Common.{◌≡◌, ◌+◌, ◌-◌, length, take, drop, take_all, arith, length-drop, Some, None, refl, sym}
use Rattle.xl_words.proofs.Splits.{split_by}
use Rattle.xl_words.proofs.splitting.split_once.Goals as goal

pub returns-in-Some-clause-pieces : goal.returns-in-Some-clause-pieces
returns-in-Some-clause-pieces c =
    let bytes = c.args.bytes.now in
    let after = c.in-Some.place + 1 in
    let whole : take (length bytes - after) (drop after bytes) ≡ drop after bytes =
    take_all _ _ (omega (arith, length-drop after bytes)) in
    rw whole (split_by c.args.separator bytes (Some c.in-Some.place) c.in-Some.ensures)

pub returns-in-Some-clause-place : goal.returns-in-Some-clause-place
returns-in-Some-clause-place c =
    let bytes = c.args.bytes.now in
    let after = c.in-Some.place + 1 in
    let whole : take (length bytes - after) (drop after bytes) ≡ drop after bytes =
    take_all _ _ (omega (arith, length-drop after bytes)) in
    (c.in-Some.place, sym c.in-Some.ensures, refl, whole)

pub returns-in-None-clause-pieces : goal.returns-in-None-clause-pieces
returns-in-None-clause-pieces c = split_by c.args.separator c.args.bytes.now None c.in-None.ensures
