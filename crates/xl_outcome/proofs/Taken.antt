-- A source that was not read.
use Rattle.std.proofs.Common.{◌≡◌, ℕ, List, [], Option, Some, None, inl, refl, arith}
use Rattle.spec_command.specs.Arguments.{Asked, edit, render, info, make, pack, flatten, view, audit}
use Rattle.xl_ports.specs.Source.{led_by}
use Rattle.xl_ports.specs.State.{ShelfState}
use Rattle.xl_ports.proofs.Moments.{still}
use Rattle.xl_outcome.specs.Outcome.{Given, Takes, IsUntouched, MaySave}

pub led_by_nothing : (left : Option (List ℕ)) → left ≡ led_by [] left
led_by_nothing None = refl
led_by_nothing (Some more) = refl

-- whatever was asked for
pub nothing_taken : {S : Type 0} (left : S → Option (List ℕ)) (faults reads : S → ℕ) (s : S) (asked : Option Asked)
    → Takes left faults reads s s asked
nothing_taken left faults reads s None = (refl, refl, refl)
nothing_taken left faults reads s (Some (edit name workers)) = (([], led_by_nothing (left s), omega arith), omega arith)
nothing_taken left faults reads s (Some (render name)) = (refl, refl, refl)
nothing_taken left faults reads s (Some (info name with_all)) = (refl, refl, refl)
nothing_taken left faults reads s (Some (make name seed)) = (refl, refl, refl)
nothing_taken left faults reads s (Some (pack name with_plans)) = (refl, refl, refl)
nothing_taken left faults reads s (Some (flatten name)) = (refl, refl, refl)
nothing_taken left faults reads s (Some (view name cols rows)) = (([], led_by_nothing (left s), omega arith), omega arith)
nothing_taken left faults reads s (Some (audit name)) = (([], led_by_nothing (left s), omega arith), omega arith)

pub untouched : (s : ShelfState) → IsUntouched s s
untouched s = record { contents = refl; quiet = still s.disk; saving = refl }

-- nothing was saved
pub nothing_saved : (given : Given) (s : ShelfState) (command : Option Asked) → MaySave given s s command
nothing_saved given s None = untouched s
nothing_saved given s (Some (render name)) = untouched s
nothing_saved given s (Some (info name with_all)) = untouched s
nothing_saved given s (Some (make name seed)) = inl (untouched s)
nothing_saved given s (Some (edit name workers)) = inl (untouched s)
nothing_saved given s (Some (pack name with_plans)) = untouched s
nothing_saved given s (Some (flatten name)) = untouched s
nothing_saved given s (Some (view name cols rows)) = untouched s
nothing_saved given s (Some (audit name)) = untouched s
