-- A history that goes on from the one that a viewer has seen.
use Rattle.std.proofs.Common.{◌≡◌, ℕ, Bool, true, false, cond, ◌==◌, List, [], ◌∷◌, ◌++◌, refl, sym, ◌∙◌, ap, subst}
use Rattle.std.proofs.Common.{append-nil, append_assoc}
use Rattle.std.specs.Prelude.{Option, Some, None, Result, Ok, Err, IfOk, OnErr}
use Rattle.spec_history.specs.Machine.{Call, Reply, history_full}
use Rattle.spec_history.specs.History.{asked, next_index}
use Rattle.spec_world.specs.World.{World, free_entries}
use Rattle.spec_world.specs.Events as events
use Rattle.spec_world.specs.Events.{Outcome}
use Rattle.spec_document.specs.declared.TileAt.{TileAt}
use Rattle.xl_core.specs.Editing.{Editing, world, IsSubmitted, IsAsBefore}
use Rattle.xl_core.specs.History.{History}
use Rattle.xl_window.specs.declared.refused.WindowRefusedOrMemory.TheVariants.{Refused}
use Rattle.spec_window.specs.declared.WindowRefused.{WindowRefused}
use Rattle.xl_window.specs.Viewing.{Viewing, GoesOn, IsAnswered}

pub goes_same : (old new : History) → new ≡ old → GoesOn (Some old) new
goes_same old new same = (ap (λ h. h.base) same, ([], append-nil old.entries ∙ sym (ap (λ h. h.entries) same)))

pub goes_further : (seen : Option History) (old new : History) → GoesOn seen old → GoesOn (Some old) new → GoesOn seen new
goes_further None old new first then = tt
goes_further (Some past) old new first then = (
  then.0 ∙ first.0,
  (
    first.1.0 ++ then.1.0,
    sym (append_assoc past.entries first.1.0 then.1.0) ∙ (ap (λ es. es ++ then.1.0) first.1.1 ∙ then.1.1),
  ),
)

-- ---- after a call

pub goes_submitted : {K : Type 0} (old new : Editing K) (session : ℕ) (call : Call) (seen : ℕ) (tables : List (List ℕ)) (reply : Reply)
    → IsSubmitted old session call seen tables reply new → GoesOn (Some old.history) new.history
goes_submitted old new session call seen tables reply is = go (free_entries w == 0) is.2
  where
    w : World
    w = world old

    stays : Outcome
    stays = record { reply = history_full; world = w }

    said : Reply
    said = events.reply_to old.history.base w call seen tables

    made : Outcome
    made = record { reply = said; world = events.with_call old.history.base w session call tables said }

    go : (b : Bool) → world new ≡ (cond b stays made).world → GoesOn (Some old.history) new.history
    go true same = (is.0, ([], append-nil old.history.entries ∙ sym (ap (λ x. x.entries) same)))
    go false same = (
      is.0,
      (
        record { session = session; index = next_index old.history.entries session; kind = asked call tables; reply = said } ∷ [],
        sym (ap (λ x. x.entries) same),
      ),
    )

-- whether it was answered or memory ran out
pub goes_asked : {K E X : Type 0} (old new : Editing K) (r : Result X E) (session : ℕ) (call : Call) (seen : ℕ)
    (tables : X → List (List ℕ)) (reply : X → Reply)
    → IfOk r (λ x. IsSubmitted old session call seen (tables x) (reply x) new) → OnErr r (IsAsBefore old new)
    → GoesOn (Some old.history) new.history
goes_asked old new (Ok x) session call seen tables reply is before = goes_submitted old new session call seen (tables x) (reply x) is
goes_asked old new (Err e) session call seen tables reply is before = goes_same old.history new.history before.history

-- ---- after a window

pub shown_goes_on : (h : History) (stack : ℕ) (at : TileAt) (cols rows : ℕ) (old new : Viewing) (before out : List ℕ) (version : ℕ)
    → IsAnswered h stack at cols rows old new before out (Ok version) → GoesOn new.seen h
shown_goes_on h stack at cols rows old new before out version is = subst (λ s. GoesOn s h) (sym is.4) (goes_same h h refl)

pub refused_goes_on : (h : History) (stack : ℕ) (at : TileAt) (cols rows : ℕ) (old new : Viewing) (before out : List ℕ)
    (cause : WindowRefused) → GoesOn old.seen h
    → IsAnswered h stack at cols rows old new before out (Err (Refused cause)) → GoesOn new.seen h
refused_goes_on h stack at cols rows old new before out cause goes is = subst (λ v. GoesOn v.seen h) (sym is.1) goes
