-- What becomes of a sink where a report was written.
use Rattle.std.proofs.Common.{◌≡◌, ℕ, true, false, List}
use Rattle.std.specs.Prelude.{Option, Result, Ok, Err, is_err}
use Rattle.xl_ports.specs.Sink.{WritesAll, WritesPart, Writes}

module _ {K E : Type 0} (held : K → Option (List ℕ)) (faults : K → ℕ) (old new : K) (bytes : List ℕ) where
  -- a fault came
  pub wrote_part : (r : Result (Unit {0}) E) → is_err r ≡ true → Writes held faults old new bytes r
      → WritesPart held faults old new bytes
  wrote_part (Ok x) failed writes = cc
  wrote_part (Err e) failed writes = writes

  -- none came
  pub wrote_all : (r : Result (Unit {0}) E) → is_err r ≡ false → Writes held faults old new bytes r
      → WritesAll held faults old new bytes
  wrote_all (Ok x) failed writes = writes
  wrote_all (Err e) failed writes = cc
