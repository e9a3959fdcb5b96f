-- When the source's faults rise along a talk.
use Rattle.std.specs.Prelude.{◌≡◌, ℕ, Result, Ok, Err}
use Rattle.xl_ports.specs.Faults.{Rose}
use Rattle.xl_serve.specs.declared.ends.TalkEnd.{TalkEnd}
use Rattle.xl_serve.specs.declared.ends.TalkEnd.TheVariants.{Ended, TooLong, SourceFault, SinkFault, Memory, NotBegun}

-- just where one of them ends the talk
abbrev pub HasEndCause : (before after : ℕ) → TalkEnd → Type 0
HasEndCause before after Ended = after ≡ before
HasEndCause before after (TooLong number) = after ≡ before
HasEndCause before after SourceFault = Rose before after
HasEndCause before after SinkFault = after ≡ before
HasEndCause before after Memory = after ≡ before
HasEndCause before after NotBegun = after ≡ before

-- and not in a turn that goes well
abbrev pub HasTurnCause : {A : Type 0} → (before after : ℕ) → Result A TalkEnd → Type 0
HasTurnCause before after (Ok x) = after ≡ before
HasTurnCause before after (Err end) = HasEndCause before after end
