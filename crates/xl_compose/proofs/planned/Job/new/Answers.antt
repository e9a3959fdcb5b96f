use Rattle.std.proofs.Common.{◌≡◌, ◌*◌, arith}
use Rattle.xl_compose.proofs.planned.Job.new.Goals as goal

pub invariant_of-result : goal.invariant_of-result
invariant_of-result c = record {
  tile = c.requires.tile;
  some = c.requires.some;
  deep = c.requires.deep;
  fit = c.requires.fit;
  scratch_taken = c.in_ok-scratch.ensures;
  source_taken = omega (arith, c.in_ok-source.ensures);
  bytes_taken = c.in_ok-bytes.ensures;
}
