use Rattle.std.proofs.Common.{◌≡◌, ◌*◌, take}
use Rattle.xl_compose.specs.Rows.{row_bytes}
use Rattle.xl_compose.proofs.bytes.write_row.Given as goal

-- the pixels so far are written
abbrev pub invariant-loop-k : goal.invariant-loop-k
invariant-loop-k l = take (4 * l.k) l.out ≡ row_bytes (take l.k l.row)
