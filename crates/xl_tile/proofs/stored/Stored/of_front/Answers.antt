use Rattle.xl_tile.proofs.PackedTiles.{own_packed, own_bytes}
use Rattle.xl_tile.proofs.stored.Stored.of_front.Goals as goal

pub invariant_of-result : goal.invariant_of-result
invariant_of-result c =
    let all = rw (c.as_slice.ensures.value, c.deref.ensures) at c.know_bytes.ensures in
    rw c.in_ok-try_clone.ensures (own_packed _ _ _ all c.requires.some c.requires.few c.requires.some_bytes c.requires.few_bytes
    c.requires.full)

pub returns-clause-value : goal.returns-clause-value
returns-clause-value c =
    let all = rw (c.as_slice.ensures.value, c.deref.ensures) at c.know_bytes.ensures in
    rw c.in_ok-try_clone.ensures (own_bytes _ _ _
    (own_packed _ _ _ all c.requires.some c.requires.few c.requires.some_bytes c.requires.few_bytes c.requires.full))

pub returns-clause-bytes : goal.returns-clause-bytes
returns-clause-bytes c =
    let all = rw (c.as_slice.ensures.value, c.deref.ensures) at c.know_bytes.ensures in
    rw c.in_ok-try_clone.ensures (own_packed _ _ _ all c.requires.some c.requires.few c.requires.some_bytes c.requires.few_bytes
    c.requires.full).bytes
