-- What is said of the history that was entered is said of the history that the seat knows then, but for the entry of its call.
use Rattle.std.proofs.Common.{◌≡◌, ℕ, ◌+◌, ◌-◌, ◌≤◌, Bool, true, false, List, [], ◌∷◌, ◌++◌, length, take, Option, None, refl}
use Rattle.std.proofs.Common.{sym, ap, ◌∙◌, subst, arith, length-append}
use Rattle.std.specs.Prelude.{MatchBool, Result, Ok, Err, IfOk, OnErr}
use Rattle.std.proofs.lemmas.Result.{IfOk-weaker}
use Rattle.std.proofs.Math.Seq.{take-append_seam}
use Rattle.spec_document.specs.Document.{Document}
use Rattle.spec_history.specs.Machine.{Call, Reply, history_full}
use Rattle.spec_history.specs.History.{Entry, asked}
use Rattle.spec_filters.specs.declared.FilterState.{FilterState}
use Rattle.spec_tables.specs.Agrees.{IsPartAfter}
use Rattle.spec_tables.specs.Tables.{expected_tables}
use Rattle.spec_tables.proofs.Chests.{some_list}
use Rattle.xl_history.specs.History.{History, document, is_full, is_accepted, NeedsNoStep}
use Rattle.xl_history.specs.Needs.{most_cost}
use Rattle.xl_history.proofs.Costs.{steps_most}
use Rattle.xl_history.specs.Answering.{AnswersCall}
use Rattle.xl_history.specs.Editing.{Editing}
use Rattle.xl_studio.specs.declared.moment.Moment.{Moment}
use Rattle.xl_studio.specs.declared.moment.Moment.TheVariants.{Made}
use Rattle.xl_studio.specs.Moments.{entries_in}
use Rattle.xl_studio.specs.State.{moments_of}
use Rattle.xl_studio.specs.Calling.{called_entry, Adds, before_last}
use Rattle.xl_studio.specs.Seats.{history_of}
use Rattle.xl_studio.proofs.Called.{adds_after, failed_after}
use Rattle.xl_studio.proofs.Seated.{back}

module _ {K : Type 0} where
  before-snoc : (ms : List (Moment K)) (m : Moment K) → before_last (ms ++ m ∷ []) ≡ ms
  before-snoc ms m =
      let n : length (ms ++ m ∷ []) - 1 ≡ length ms = omega (arith, length-append ms (m ∷ [])) in
      ap (λ k. take k (ms ++ m ∷ [])) n ∙ take-append_seam ms (m ∷ [])

  said_where : (full : Bool) (P : Type 0) (Said : History → Type 0) (base : Document) (held : Editing K)
      (left front : List (Moment K)) (m : Moment K) → base ≡ held.history.base → front ≡ left
      → MatchBool full (P × (left ≡ moments_of held)) (left ≡ moments_of held ++ m ∷ []) → Said held.history
      → (full ≡ true → (h : History) → Said h)
      → Said (history_of base (before_last front))
  said_where true P Said base held left front m same is adds said any = any refl (history_of base (before_last front))
  said_where false P Said base held left front m same is adds said any =
      let ms : before_last front ≡ moments_of held = ap before_last (is ∙ adds) ∙ before-snoc (moments_of held) m in
      let es : entries_in (before_last front) ≡ held.history.entries = ap entries_in ms ∙ back held in
      subst Said (λ i. record { base = sym same i; entries = sym es i }) said

  said_entered : (Said : History → Type 0) (base : Document) (session : ℕ) (call : Call) (tables : List (List ℕ)) (reply : Reply)
      (held : Editing K) (left front : List (Moment K)) → base ≡ held.history.base → front ≡ left
      → Adds held.history.base (moments_of held) session call tables reply left → Said held.history
      → (is_full held.history ≡ true → (h : History) → Said h)
      → Said (history_of base (before_last front))
  said_entered Said base session call tables reply held left front same is adds said full =
      let whole : is_full (history_of held.history.base (moments_of held)) ≡ is_full held.history =
      ap (λ (es : List Entry). is_full (record { base = held.history.base; entries = es })) (back held) in
      said_where (is_full (history_of held.history.base (moments_of held))) (reply ≡ history_full) Said base held left front
      (Made (called_entry (entries_in (moments_of held)) session call tables reply) None) same is adds.is said
      (λ e. full (sym whole ∙ e))

  -- out of memory no entry was made, so the front is the history that was entered
  said_failed : {R E : Type 0} (r : Result R E) (Said : History → Type 0) (base : Document) (held : Editing K)
      (left front : List (Moment K)) → base ≡ held.history.base → front ≡ left
      → OnErr r (left ≡ moments_of held) → OnErr r (Said held.history)
      → OnErr r (Said (history_of base front))
  said_failed (Ok reply) Said base held left front same is as_before said = tt
  said_failed (Err e) Said base held left front same is as_before said =
      let es : entries_in front ≡ held.history.entries = ap entries_in (is ∙ as_before) ∙ back held in
      subst Said (λ i. record { base = sym same i; entries = sym es i }) said

-- the seat's front is the history as the call left it
module _ {K R E : Type 0} {reply_of : R → Reply} {session : ℕ} {call : Call} {seen : ℕ} {r : Result R E} {held left : Editing K}
    {before after : List (Option FilterState)} {bytes_before bytes_after : List ℕ} {steps_before steps_after : ℕ}
    (told : AnswersCall reply_of session call seen r held left before after bytes_before bytes_after steps_before steps_after)
    (base : Document) (front : List (Moment K)) (same : base ≡ held.history.base) (is : front ≡ moments_of left) where
  -- what is said of the history that was entered, and of any where that was full
  said_after : (Said : History → Type 0) → Said held.history → (is_full held.history ≡ true → (h : History) → Said h)
      → IfOk r (λ _. Said (history_of base (before_last front)))
  said_after Said said full =
      let some = some_list before in
      IfOk-weaker r _ _ (λ (reply : R) adds.
      said_entered Said base session call (expected_tables some.0 (asked call []) (reply_of reply)) (reply_of reply) held
      (moments_of left) front same is adds said full) (adds_after told some.0 some.1)

  -- a call that needs no step takes none
  pub stepless_after : IfOk r (λ _. NeedsNoStep (history_of base (before_last front)) call → steps_after ≡ steps_before)
  stepless_after = said_after (λ h. NeedsNoStep h call → steps_after ≡ steps_before) told.no_step (λ e h needs. told.full e)

  -- only the filters of a group that is accepted are asked
  pub part_failed : OnErr r (IsPartAfter (is_accepted (history_of base front) call) before after call)
  part_failed =
      said_failed r (λ h. IsPartAfter (is_accepted h call) before after call) base held (moments_of left) front same is
      (failed_after told) told.part

  -- a tile is composed once
  pub cost_after : IfOk r (λ _. steps_after ≤ steps_before + most_cost (document (history_of base (before_last front))) call)
  cost_after =
      said_after (λ h. steps_after ≤ steps_before + most_cost (document h) call)
      (steps_most held.cache (document held.history) call steps_before steps_after told.cost)
      (λ e h. let stays = told.full e in omega (arith, stays))
