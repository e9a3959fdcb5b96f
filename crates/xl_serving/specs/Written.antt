-- How the text of a talk that has ended is written, by the status.
use Rattle.std.specs.Prelude.{◌≡◌, ◌⊎◌, ℕ, Bool, true, false, List, ◌++◌, Option, if◌then◌else◌}
use Rattle.spec_history.specs.History.{Entry}
use Rattle.xl_ports.specs.Sink.{WritesAll, WritesPart}
use Rattle.xl_commands.specs.Lines.{WritesLine}
use Rattle.xl_serve.specs.Talked.{closing}
use Rattle.xl_serve.specs.declared.ends.TalkEnd.{TalkEnd}
use Rattle.xl_serve.specs.declared.ends.TalkEnd.TheVariants.{Ended, TooLong, SourceFault, SinkFault, Memory, NotBegun}

-- something stands behind what was said
abbrev pub is_closed : TalkEnd → Bool
is_closed Ended = true
is_closed (TooLong number) = true
is_closed SourceFault = true
is_closed SinkFault = false
is_closed Memory = false
is_closed NotBegun = false

-- the sink failed in the talk
abbrev pub is_cut : TalkEnd → Bool
is_cut Ended = false
is_cut (TooLong number) = false
is_cut SourceFault = false
is_cut SinkFault = true
is_cut Memory = false
is_cut NotBegun = false

-- the status where all was written, by whether a save failed
abbrev pub closed_status : (failed : Bool) → TalkEnd → ℕ
closed_status failed Ended = if failed then 6 else 0
closed_status failed (TooLong number) = 3
closed_status failed SourceFault = 5
closed_status failed SinkFault = 7
closed_status failed Memory = 8
closed_status failed NotBegun = 8

module _ {K : Type 0} (held : K → Option (List ℕ)) (faults : K → ℕ) where
  -- a text and this status, or a front of it and that of a fault
  abbrev pub WritesOr : (old new : K) → (text : List ℕ) → (all status : ℕ) → Type 0
  WritesOr old new text all status =
      ((status ≡ all) × WritesAll held faults old new text) ⊎ ((status ≡ 7) × WritesPart held faults old new text)

  -- all that was said and what stands behind it, or a front of it; or, without memory, what was said, as far as it goes
  abbrev pub IsWritten : (old new : K) → (told : List ℕ) → List Entry → TalkEnd → (failed : Bool) → (status : ℕ) → Type 0
  IsWritten old new told es end failed status =
      ((is_closed end ≡ true) × (status ≡ closed_status failed end) × WritesAll held faults old new (told ++ closing es end))
      ⊎ ((status ≡ 7) × WritesPart held faults old new (told ++ closing es end))
      ⊎ ((status ≡ 8) × WritesLine held faults old new told)
