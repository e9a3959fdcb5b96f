-- What the start of a save and its end make of the list under the lock.
use Rattle.std.proofs.Common.{◌≡◌, ℕ, ◌+◌, ◌≤◌, cond, List, [], ◌∷◌, ◌++◌, length, Some, None, refl, sym, ap, ◌∙◌}
use Rattle.std.proofs.Common.{subst, arith, add-zero}
use Rattle.std.specs.Prelude.{slice_get, Result, Ok, Err, IfOk, IsSome}
use Rattle.std.proofs.lemmas.List.Sums.{sum_by-cons}
use Rattle.spec_document.specs.Document.{Document}
use Rattle.spec_history.specs.Machine.{Reply, State}
use Rattle.spec_history.specs.History.{Entry, Kind, asked, starts, ends}
use Rattle.spec_history.specs.declared.TheConstants.{MAX_ENTRIES}
use Rattle.spec_history.proofs.Causes.{slice_get-front, slice_get-last}
use Rattle.spec_history.proofs.Growing.{replay-snoc}
use Rattle.spec_world.specs.declared.SaveEnd.{SaveEnd}
use Rattle.spec_world.specs.Events.{end_reply}
use Rattle.spec_world.specs.Right.{IsRight}
use Rattle.spec_saves.proofs.Staying.{saves_started-snoc}
use Rattle.spec_saves.specs.Names.{saves_started, is_start, version_out}
use Rattle.xl_history.specs.Editing.{Editing, world, Begins, Ends, start_of, end_of, out_of}
use Rattle.xl_history.specs.declared.saving.Begun.{Begun}
use Rattle.xl_history.specs.declared.saving.Begun.TheVariants.{Snapshot, Out, Full}
use Rattle.xl_studio.specs.declared.moment.Moment.TheVariants.{Opened, Made}
use Rattle.xl_studio.specs.Moments.{handed_at, starts_with, made_from, moments, entries_in}
use Rattle.xl_studio.specs.State.{moments_of, IsKept}
use Rattle.xl_studio.specs.UnderWay.{AddsStart, AddsEnd}
use Rattle.xl_studio.proofs.Grown.{starts_after, made-snoc, entries-moments}
use Rattle.xl_studio.proofs.Called.{same_after}

pub saves_started-cons : (e : Entry) (es : List Entry) → saves_started (e ∷ es) ≡ cond (is_start e.kind) 1 0 + saves_started es
saves_started-cons e es = sum_by-cons (λ (x : Entry). cond (is_start x.kind) 1 0) e es

counted_with : (n s : ℕ) (k : Kind) → starts_with n k + s ≡ n + (cond (is_start k) 1 0 + s)
counted_with n s (asked call tables) = omega arith
counted_with n s starts = omega arith
counted_with n s ends = omega arith

starts_counted : (n : ℕ) (es : List Entry) → starts_after n es ≡ n + saves_started es
starts_counted n [] = omega arith
starts_counted n (e ∷ es) =
    starts_counted (starts_with n e.kind) es
    ∙ (counted_with n (saves_started es) e.kind ∙ ap (λ m. n + m) (sym (saves_started-cons e es)))

module _ {K : Type 0} where
  handed_same : (handed : List K) (k : K) (n : ℕ) (kind : Kind) → n + cond (is_start kind) 1 0 ≤ length handed
      → handed_at (handed ++ k ∷ []) n kind ≡ handed_at handed n kind
  handed_same handed k n (asked call tables) le = refl
  handed_same handed k n starts le = slice_get-front handed (k ∷ []) n (omega arith)
  handed_same handed k n ends le = refl

  -- one shelf more is not handed out by the starts that were there
  made_before : (handed : List K) (k : K) (n : ℕ) (es : List Entry) → n + saves_started es ≤ length handed
      → made_from (handed ++ k ∷ []) n es ≡ made_from handed n es
  made_before handed k n [] le = refl
  made_before handed k n (e ∷ es) le =
      let more = saves_started-cons e es in
      let c = counted_with n (saves_started es) e.kind in
      ap (λ h. Made e h ∷ made_from (handed ++ k ∷ []) (starts_with n e.kind) es) (handed_same handed k n e.kind (omega arith))
      ∙ ap (λ ms. Made e (handed_at handed n e.kind) ∷ ms) (made_before handed k (starts_with n e.kind) es (omega arith))

  moments-start : (base : Document) (opening : K) (handed : List K) (k : K) (es : List Entry) (e : Entry) → e.kind ≡ starts
      → length handed ≡ saves_started es
      → moments base opening (handed ++ k ∷ []) (es ++ e ∷ []) ≡ moments base opening handed es ++ Made e (Some k) ∷ []
  moments-start base opening handed k es e is each =
      let place : starts_after 0 es ≡ length handed = let c = starts_counted 0 es in omega arith in
      let shelf : handed_at (handed ++ k ∷ []) (starts_after 0 es) e.kind ≡ Some k =
      ap (handed_at (handed ++ k ∷ []) (starts_after 0 es)) is
      ∙ (ap (λ n. slice_get (handed ++ k ∷ []) n) place ∙ slice_get-last handed k) in
      ap (λ ms. Opened base opening ∷ ms)
      (made-snoc (handed ++ k ∷ []) 0 es e
      ∙ (ap (λ ms. ms ++ Made e (handed_at (handed ++ k ∷ []) (starts_after 0 es) e.kind) ∷ [])
      (made_before handed k 0 es (omega arith))
      ∙ ap (λ h. made_from handed 0 es ++ Made e h ∷ []) shelf))

  moments-end : (base : Document) (opening : K) (handed : List K) (es : List Entry) (e : Entry) → e.kind ≡ ends
      → moments base opening handed (es ++ e ∷ []) ≡ moments base opening handed es ++ Made e None ∷ []
  moments-end base opening handed es e is =
      ap (λ ms. Opened base opening ∷ ms)
      (made-snoc handed 0 es e ∙ ap (λ k. made_from handed 0 es ++ Made e (handed_at handed (starts_after 0 es) k) ∷ []) is)

  back : (c : Editing K) → entries_in (moments_of c) ≡ c.history.entries
  back c = entries-moments c.history.base c.opening c.handed c.history.entries

  adds_start : (old new : Editing K) (session : ℕ) (b : Begun K) → length old.handed ≡ saves_started old.history.entries
      → (IsSome old.shelf → out_of old.history ≡ None) → Begins old session b new
      → AddsStart old.history.base (moments_of old) session b (moments_of new)
  adds_start old new session (Snapshot v d k) each none begins = (
    ap moments_of begins.4
        ∙ (moments-start old.history.base old.opening old.handed k old.history.entries (start_of old.history session) refl each
        ∙ ap (λ (es : List Entry). moments_of old
        ++ Made (start_of (record { base = old.history.base; entries = es }) session) (Some k) ∷ []) (sym (back old))),
    let l = ap length (back old) in let m = begins.3 in omega arith,
  )
  adds_start old new session Out each none begins = same_after old new begins.1
  adds_start old new session Full each none begins = (
    same_after old new begins.2,
    let l = ap length (back old) in let m = begins.1 in omega arith,
    ap (λ (es : List Entry). out_of (record { base = old.history.base; entries = es })) (back old) ∙ none begins.0,
  )

  pub begun_after : {E : Type 0} (r : Result (Begun K) E) (old was new : Editing K) (session : ℕ) → old ≡ was
      → length old.handed ≡ saves_started old.history.entries
      → (IsSome old.shelf → out_of old.history ≡ None) → IfOk r (λ b. Begins old session b new)
      → IfOk r (λ b. AddsStart was.history.base (moments_of was) session b (moments_of new))
  begun_after (Ok b) old was new session same each none begins =
      subst (λ (c : Editing K). AddsStart c.history.base (moments_of c) session b (moments_of new)) same
      (adds_start old new session b each none begins)
  begun_after (Err e) old was new session same each none begins = tt

  adds_end : (old new : Editing K) (session : ℕ) (how : SaveEnd) (k : K) (reply : Reply) → Ends old session how k reply new
      → AddsEnd old.history.base (moments_of old) session how reply (moments_of new)
  adds_end old new session how k reply ended = record {
    reply_is = ended.0 ∙ ap (λ (es : List Entry).
        end_reply how (version_out (out_of (record { base = old.history.base; entries = es })))) (sym (back old));
    left_is = ap moments_of ended.1
        ∙ (moments-end old.history.base old.opening old.handed old.history.entries (end_of old.history session reply) refl
        ∙ ap (λ (es : List Entry). moments_of old
        ++ Made (end_of (record { base = old.history.base; entries = es }) session reply) None ∷ []) (sym (back old)));
  }

  pub ended_after : (old was new : Editing K) (session : ℕ) (how : SaveEnd) (k : K) (reply : Reply) → old ≡ was
      → Ends old session how k reply new
      → AddsEnd was.history.base (moments_of was) session how reply (moments_of new)
  ended_after old was new session how k reply same ended =
      subst (λ (c : Editing K). AddsEnd c.history.base (moments_of c) session how reply (moments_of new)) same
      (adds_end old new session how k reply ended)

  pub kept_after_end : (old new : Editing K) (session : ℕ) (how : SaveEnd) (k : K) (reply : Reply) → IsKept old
      → IsRight new.history.base (world new) → length new.history.entries ≤ MAX_ENTRIES
      → Ends old session how k reply new → IsKept new
  kept_after_end old new session how k reply kept right few ended = record {
    right = right;
    few = few;
    each_start = ap (λ (c : Editing K). length c.handed) ended.1
        ∙ (kept.each_start
        ∙ sym (ap (λ (c : Editing K). saves_started c.history.entries) ended.1
        ∙ (saves_started-snoc old.history.entries (end_of old.history session reply)
        ∙ add-zero (saves_started old.history.entries))));
    shelf_in = λ is.
        ap (λ (c : Editing K). out_of c.history) ended.1
        ∙ ap (λ (s : State). s.out) (replay-snoc old.history.base old.history.entries (end_of old.history session reply));
  }
