use Rattle.std.proofs.Common.{◌≡◌, drop}
use Rattle.spec_audit.specs.Reading.{strip}
use Rattle.xl_printed.proofs.pieces.strip.Given as goal

abbrev pub invariant-loop-b : goal.invariant-loop-b
invariant-loop-b l = strip (drop l.b-index l.front) l.rest ≡ strip l.front l.fn.text
