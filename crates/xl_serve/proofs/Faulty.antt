-- Faults of the source along a talk.
use Rattle.std.proofs.Common.{◌≡◌, ℕ, refl, sym, subst}
use Rattle.std.specs.Prelude.{Result, Ok, Err, IfErr}
use Rattle.xl_serve.specs.Causes.{HasEndCause, HasTurnCause}
use Rattle.xl_serve.specs.declared.ends.TalkEnd.{TalkEnd}
use Rattle.xl_serve.specs.declared.ends.TalkEnd.TheVariants.{SinkFault, Memory}

-- a line that is answered raises none
pub answer_cause : {A : Type 0} (before after : ℕ) (result : Result A TalkEnd) → after ≡ before → IfErr result (λ end. end ≡ Memory)
    → HasTurnCause before after result
answer_cause before after (Ok x) same memory = same
answer_cause before after (Err end) same memory = subst (HasEndCause before after) (sym memory) same

-- and no more does what is written
pub sink_cause : (n : ℕ) (end : TalkEnd) → end ≡ SinkFault → HasEndCause n n end
sink_cause n end is = subst (HasEndCause n n) (sym is) refl

-- behind turns that went well
pub end_cause : (first before after : ℕ) (end : TalkEnd) → before ≡ first → HasEndCause before after end → HasEndCause first after end
end_cause first before after end same cause = subst (λ (n : ℕ). HasEndCause n after end) same cause
