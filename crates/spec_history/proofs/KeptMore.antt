-- What one entry more makes of what is kept of a tile.
use Rattle.std.proofs.Common.{◌≡◌, ℕ, zero, suc, ◌+◌, ◌-◌, ◌<◌, ◌≤◌, Bool, true, false, cond, List, [], ◌∷◌, ◌++◌, inl}
use Rattle.std.proofs.Common.{inr, length, refl, sym, ◌∙◌, ap, subst, arith, length-append, eq-eqb, ne_eqb, true≢false}
use Rattle.std.specs.Prelude.{not, ◌&&◌, ◌==◌, find, Option, Some, None, option_map, unwrap_or, slice_get}
use Rattle.std.specs.List.{list_all}
use Rattle.spec_document.specs.declared.TileAt.{TileAt}
use Rattle.spec_document.specs.Rect.{count_from}
use Rattle.spec_document.specs.Document.{Document}
use Rattle.spec_history.specs.Machine.{State, latest, document_at, has_stack}
use Rattle.spec_history.specs.History.{Entry, after_entry, replay, IsStep, Run, is_changed}
use Rattle.spec_history.specs.Kept.{shown_version, or_earlier, last_tile, cause_meets, damaged_at, kept_from, kept_in, kept}
use Rattle.spec_history.specs.KeptNext.{kept_next, kept_after}
use Rattle.spec_history.proofs.Growing.{cond_both, Grows, grows_by, document_at-grows, replay-snoc}
use Rattle.spec_history.proofs.Versions.{IsSound}
use Rattle.spec_history.proofs.Stacks.{sound-replay, chained-replay}
use Rattle.spec_history.proofs.Moves.{AsBefore, OneMore, MovesBy, moves_by-step}
use Rattle.spec_history.proofs.Numbers.{all_more, find_more, all_same, find_same, found}
use Rattle.spec_history.proofs.Bounds.{last_tile-snoc}
use Rattle.spec_history.proofs.LastTile.{shown-step, shown-unchanged, last-run}

-- the version before the next one that damages the tile, or the last one, where the stack was always there
abbrev kept_up_to : (now : ℕ) → (always : Bool) → (next : Option ℕ) → Option ℕ
kept_up_to now always next = cond always (Some (unwrap_or (option_map (λ w. w - 1) next) now)) None

next_up : (now then_is : ℕ) (always there damaged : Bool) (next : Option ℕ) → then_is ≡ now + 1
    → ((w : ℕ) → next ≡ Some w → (1 ≤ w) × (w ≤ now))
    → kept_up_to then_is (always && there) (or_earlier next (cond damaged (Some then_is) None))
    ≡ kept_next then_is there damaged (kept_up_to now always next)
next_up now then_is false there damaged next e bound = refl
next_up now then_is true false damaged next e bound = refl
next_up now then_is true true damaged (Some w) e bound =
    let b = bound w refl in
    let low = b.0 in
    let high = b.1 in
    let apart : (w - 1 + 1 == then_is) ≡ false = ne_eqb (w - 1 + 1) then_is (λ is. omega (arith, is, low, high, e)) in
    ap (λ (same : Bool). cond (same && not damaged) (Some then_is) (Some (w - 1))) (sym apart)
next_up now then_is true true true None e bound =
    let last : then_is - 1 ≡ now = omega (arith, e) in
    ap Some last ∙ both (now + 1 == then_is) where
      both : (b : Bool) → Some now ≡ cond (b && false) (Some then_is) (Some now)
      both true = refl
      both false = refl
next_up now then_is true true false None e bound =
    let same : (now + 1 == then_is) ≡ true = eq-eqb (now + 1) then_is (sym e) in
    ap (λ (is : Bool). cond (is && true) (Some then_is) (Some now)) (sym same)

-- ---- versions that were there before

slice-before : {A : Type 0} (xs ys : List A) (i : ℕ) → i < length xs → slice_get (xs ++ ys) i ≡ slice_get xs i
slice-before [] ys i less = absurd (omega (arith, less))
slice-before (x ∷ xs) ys zero less = refl
slice-before (x ∷ xs) ys (suc i) less = slice-before xs ys i (omega (arith, less))

pub record StaysBefore (base : Document) (s t : State) : Type 0 where
  pub version : latest t ≡ latest s + 1
  pub documents : (v : ℕ) → v ≤ latest s → document_at base t v ≡ document_at base s v
  pub damage : (stack : ℕ) (at : TileAt) (w : ℕ) → 1 ≤ w → w ≤ latest s
      → damaged_at base t stack at w ≡ damaged_at base s stack at w

pub stays-before : (base : Document) (s t : State) → IsSound s → length s.causes ≡ latest s → OneMore s t → StaysBefore base s t
stays-before base s t sound count m =
    let some = sound.some in
    let documents = m.documents in
    let grows : Grows s.documents t.documents = grows_by s.documents t.documents (m.new ∷ []) documents in
    record {
      version = rw (documents, length-append) (omega arith);
      documents = λ v within. document_at-grows base s t v grows (omega (arith, within, some));
      damage = λ stack at w low high.
          ap (cause_meets stack base.width base.height at)
          (ap (λ cs. slice_get cs (w - 1)) m.causes
          ∙ slice-before s.causes (m.cause ∷ []) (w - 1) (omega (arith, low, high, count)));
    }

-- ---- a version more, or none

kept-one : (base : Document) (s t : State) (stack : ℕ) (at : TileAt) (a : ℕ) → StaysBefore base s t → a ≤ latest s
    → kept_from base t stack at a ≡ kept_next (latest t) (has_stack (document_at base t (latest t)) stack)
    (damaged_at base t stack at (latest t)) (kept_from base s stack at a)
kept-one base s t stack at a stays le =
    let version = stays.version in
    let P : ℕ → Bool = λ v. has_stack (document_at base t v) stack in
    let P0 : ℕ → Bool = λ v. has_stack (document_at base s v) stack in
    let D : ℕ → Bool = damaged_at base t stack at in
    let D0 : ℕ → Bool = damaged_at base s stack at in
    let n = latest s + 1 - a in
    let m = latest s - a in
    let long : latest t + 1 - a ≡ suc n = omega (arith, version, le) in
    let short : latest t - a ≡ suc m = omega (arith, version, le) in
    let here : a + n ≡ latest t = omega (arith, version, le) in
    let there : a + 1 + m ≡ latest t = omega (arith, version, le) in
    let always : list_all P (count_from a (latest t + 1 - a)) ≡ list_all P0 (count_from a n) && P (latest t) =
    ap (λ k. list_all P (count_from a k)) long
    ∙ (all_more P a n
    ∙ (λ i. all_same P P0 a n (λ v low high. ap (λ d. has_stack d stack) (stays.documents v (omega (arith, high, le)))) i
    && P (here i))) in
    let next : find D (count_from (a + 1) (latest t - a))
    ≡ or_earlier (find D0 (count_from (a + 1) m)) (cond (D (latest t)) (Some (latest t)) None) =
    ap (λ k. find D (count_from (a + 1) k)) short
    ∙ (find_more D (a + 1) m
    ∙ (λ i. or_earlier (find_same D D0 (a + 1) m
    (λ w low high. stays.damage stack at w (omega (arith, low)) (omega (arith, high, le))) i)
    (cond (D (there i)) (Some (there i)) None))) in
    (λ i. kept_up_to (latest t) (always i) (next i))
    ∙ next_up (latest s) (latest t) (list_all P0 (count_from a n)) (P (latest t)) (D (latest t))
    (find D0 (count_from (a + 1) m)) version
    (λ w e. let f = found D0 (a + 1) m w e in let low = f.low in let high = f.high in (omega arith, omega (arith, le, high)))

kept_from-same : (base : Document) (s t : State) (stack : ℕ) (at : TileAt) (a : ℕ) → AsBefore s t
    → kept_from base t stack at a ≡ kept_from base s stack at a
kept_from-same base s t stack at a same =
    λ i. kept_from base (record s { documents = same.documents i; causes = same.causes i }) stack at a

-- an entry that is no tile call of this tile
kept_in-step : (base : Document) (s t : State) (stack : ℕ) (at : TileAt) (change : Bool) (last : Option ℕ) → IsSound s
    → length s.causes ≡ latest s → MovesBy s t change
    → ((a : ℕ) → last ≡ Some a → a ≤ latest s)
    → kept_in base t stack at last
    ≡ cond change (kept_next (latest t) (has_stack (document_at base t (latest t)) stack) (damaged_at base t stack at (latest t))
    (kept_in base s stack at last)) (kept_in base s stack at last)
kept_in-step base s t stack at change None sound count moves_by within =
    cond_both (λ o. None ≡ o) change
    (kept_next (latest t) (has_stack (document_at base t (latest t)) stack) (damaged_at base t stack at (latest t)) None) None
    refl refl
kept_in-step base s t stack at change (Some a) sound count (inl (e, same)) within =
    kept_from-same base s t stack at a same
    ∙ ap (λ b. cond b (kept_next (latest t) (has_stack (document_at base t (latest t)) stack)
    (damaged_at base t stack at (latest t)) (kept_from base s stack at a)) (kept_from base s stack at a)) (sym e)
kept_in-step base s t stack at change (Some a) sound count (inr (e, one)) within =
    kept-one base s t stack at a (stays-before base s t sound count one) (within a refl)
    ∙ ap (λ b. cond b (kept_next (latest t) (has_stack (document_at base t (latest t)) stack)
    (damaged_at base t stack at (latest t)) (kept_from base s stack at a)) (kept_from base s stack at a)) (sym e)

-- ---- a tile call

kept_from-latest : (base : Document) (s : State) (stack : ℕ) (at : TileAt)
    → has_stack (document_at base s (latest s)) stack ≡ true → kept_from base s stack at (latest s) ≡ Some (latest s)
kept_from-latest base s stack at there =
    let one : latest s + 1 - latest s ≡ suc zero = omega arith in
    let zero_is : latest s - latest s ≡ zero = omega arith in
    let always : list_all (λ v. has_stack (document_at base s v) stack) (count_from (latest s) (latest s + 1 - latest s)) ≡ true =
    ap (λ n. list_all (λ v. has_stack (document_at base s v) stack) (count_from (latest s) n)) one ∙ ap (λ b. b && true) there in
    let next : find (damaged_at base s stack at) (count_from (latest s + 1) (latest s - latest s)) ≡ None =
    ap (λ n. find (damaged_at base s stack at) (count_from (latest s + 1) n)) zero_is in
    λ i. kept_up_to (latest s) (always i) (next i)

after_shown : (base : Document) (es : List Entry) (e : Entry) (stack : ℕ) (at : TileAt) (v : ℕ)
    → IsStep base (replay base es) es e → shown_version e.kind e.reply stack at ≡ Some v
    → kept_from base (after_entry base (replay base es) e) stack at v ≡ Some v
after_shown base es e stack at v step is =
    go (moves_by-step base (replay base es) es e (sound-replay base es) (chained-replay base es) step) where
      go : MovesBy (replay base es) (after_entry base (replay base es) e) (is_changed e.reply)
          → kept_from base (after_entry base (replay base es) e) stack at v ≡ Some v
      go (inl (same, as_was)) =
          let s = replay base es in
          let shown = shown-step base s es e stack at v step is in
          kept_from-same base s (after_entry base s e) stack at v as_was
          ∙ (ap (kept_from base s stack at) shown.version_is
          ∙ (kept_from-latest base s stack at shown.there
          ∙ ap Some (sym shown.version_is)))
      go (inr (changed, one)) = absurd (true≢false (sym changed ∙ shown-unchanged e.kind e.reply stack at v is))

kept-after : (base : Document) (es : List Entry) (e : Entry) (stack : ℕ) (at : TileAt) (o : Option ℕ) → Run base es
    → IsStep base (replay base es) es e → shown_version e.kind e.reply stack at ≡ o
    → kept_in base (after_entry base (replay base es) e) stack at (or_earlier o (last_tile stack at es))
    ≡ or_earlier o (kept_after base (after_entry base (replay base es) e) stack at e.reply (kept base es stack at))
kept-after base es e stack at (Some v) run step is = after_shown base es e stack at v step is
kept-after base es e stack at None run step is =
    let s = replay base es in
    kept_in-step base s (after_entry base s e) stack at (is_changed e.reply) (last_tile stack at es) (sound-replay base es)
    (chained-replay base es).causes
    (moves_by-step base s es e (sound-replay base es) (chained-replay base es) step)
    (λ a last. last-run base es stack at a run last)

pub kept-snoc : (base : Document) (es : List Entry) (e : Entry) (stack : ℕ) (at : TileAt) → Run base es
    → IsStep base (replay base es) es e
    → kept base (es ++ e ∷ []) stack at
    ≡ or_earlier (shown_version e.kind e.reply stack at)
    (kept_after base (replay base (es ++ e ∷ [])) stack at e.reply (kept base es stack at))
kept-snoc base es e stack at run step =
    let P : State → Type 0 = λ t. kept_in base t stack at (last_tile stack at (es ++ e ∷ []))
    ≡ or_earlier (shown_version e.kind e.reply stack at) (kept_after base t stack at e.reply (kept base es stack at)) in
    let t = after_entry base (replay base es) e in
    subst P (sym (replay-snoc base es e))
    (ap (kept_in base t stack at) (last_tile-snoc stack at es e)
    ∙ kept-after base es e stack at (shown_version e.kind e.reply stack at) run step refl)
