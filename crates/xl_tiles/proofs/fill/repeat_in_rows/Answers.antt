use Rattle.std.proofs.Common.{◌≡◌, ◌*◌, ◌≤◌, length, arith, ap, ◌∙◌}
use Rattle.std.proofs.lemmas.Nat.{mul-le}
use Rattle.std.proofs.lemmas.Result.{IfOk-weaker}
use Rattle.xl_tiles.proofs.UniformTiles.{repeated_rows}
use Rattle.xl_tiles.proofs.fill.repeat_in_rows.Goals as goal

pub repeat-requires : goal.repeat-requires
repeat-requires c =
    let n = length c.args.piece.now in
    let one : c.args.across * 1 ≤ c.args.across * c.args.rows =
    mul-le c.args.across 1 c.args.across c.args.rows (omega arith) (omega (arith, c.if-rows-eq0.false)) in
    omega (arith, c.requires, mul-le (c.args.across * 1) n (c.args.across * c.args.rows) n one (omega arith))

pub repeat-requires-2 : goal.repeat-requires-2
repeat-requires-2 c =
    let size : length c.deref.result.now ≡ c.args.across * length c.args.piece.now =
    ap length c.deref.ensures.value ∙ c.in_ok-row.ensures.size in
    let same : c.args.rows * length c.deref.result.now ≡ c.args.rows * (c.args.across * length c.args.piece.now) =
    ap (λ n. c.args.rows * n) size in
    omega (arith, same, c.requires)

pub returns : goal.returns
returns c =
    IfOk-weaker c.repeat-2.result _ _
    (λ v rows. repeated_rows c.args.piece.now c.args.across c.args.rows c.in_ok-row.row.items v.items c.in_ok-row.ensures
    (rw c.deref.ensures.value at rows))
    c.repeat-2.ensures
