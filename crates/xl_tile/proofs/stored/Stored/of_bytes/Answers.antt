use Rattle.std.proofs.Common.{arith, take_all, ◌∙◌}
use Rattle.xl_tile.proofs.PackedTiles.{own_packed, own_bytes}
use Rattle.xl_tile.proofs.stored.Stored.of_bytes.Goals as goal

pub invariant_of-result : goal.invariant_of-result
invariant_of-result c =
    let all = rw c.deref.ensures.value at c.know_bytes.ensures in
    rw c.in_ok-new.ensures.ok (own_packed _ _ _ all c.requires.some c.requires.few c.requires.some_bytes c.requires.few_bytes
    (omega (arith, c.args.bytes.ok.0, c.requires.full)))

pub returns-clause-value : goal.returns-clause-value
returns-clause-value c =
    let all = rw c.deref.ensures.value at c.know_bytes.ensures in
    rw c.in_ok-new.ensures.ok
    (own_bytes _ _ _ (own_packed _ _ _ all c.requires.some c.requires.few c.requires.some_bytes c.requires.few_bytes
    (omega (arith, c.args.bytes.ok.0, c.requires.full)))
    ∙ take_all _ _ (omega (arith, c.args.bytes.ok.0, c.requires.full)))

pub returns-clause-bytes : goal.returns-clause-bytes
returns-clause-bytes c =
    let all = rw c.deref.ensures.value at c.know_bytes.ensures in
    rw c.in_ok-new.ensures.ok (own_packed _ _ _ all c.requires.some c.requires.few c.requires.some_bytes c.requires.few_bytes
    (omega (arith, c.args.bytes.ok.0, c.requires.full))).bytes
