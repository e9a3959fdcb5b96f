use Rattle.xl_tile.proofs.PackedTiles.{packed_is}
use Rattle.xl_tile.proofs.stored.Stored.of_file.Goals as goal

pub invariant_of-result : goal.invariant_of-result
invariant_of-result c =
    rw (c.in_ok-try_clone.ensures, ← c.deref.ensures, ← c.as_slice-bytes.ensures.value)
    (packed_is _ _ _ _ _ c.know_bytes.ensures c.requires.some c.requires.few c.requires.some_bytes c.requires.few_bytes
    c.requires.compression c.in_ok-check_tile.ensures)

pub returns-clause-value : goal.returns-clause-value
returns-clause-value c =
    let h =
    packed_is _ _ _ _ _ c.know_bytes.ensures c.requires.some c.requires.few c.requires.some_bytes c.requires.few_bytes
    c.requires.compression c.in_ok-check_tile.ensures in
    rw (c.in_ok-try_clone.ensures, ← c.deref.ensures, ← c.as_slice-bytes.ensures.value) h.reads

pub returns-clause-size : goal.returns-clause-size
returns-clause-size c =
    let h =
    packed_is _ _ _ _ _ c.know_bytes.ensures c.requires.some c.requires.few c.requires.some_bytes c.requires.few_bytes
    c.requires.compression c.in_ok-check_tile.ensures in
    rw (c.in_ok-try_clone.ensures, ← c.deref.ensures, ← c.as_slice-bytes.ensures.value) h.size

pub returns-clause-bytes : goal.returns-clause-bytes
returns-clause-bytes c =
    let h =
    packed_is _ _ _ _ _ c.know_bytes.ensures c.requires.some c.requires.few c.requires.some_bytes c.requires.few_bytes
    c.requires.compression c.in_ok-check_tile.ensures in
    rw (c.in_ok-try_clone.ensures, ← c.deref.ensures, ← c.as_slice-bytes.ensures.value) h.bytes
