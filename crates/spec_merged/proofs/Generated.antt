-- The sessions that are made from a seed fill layers of their own, and end with a save.
use Rattle.std.proofs.Common.{◌≡◌, ℕ, zero, suc, ◌+◌, ◌-◌, ◌<◌, List, [], ◌∷◌, ◌++◌, length, refl, ap, sym, arith, subst, flat_map}
use Rattle.std.specs.Prelude.{nat_le, if◌then◌else◌}
use Rattle.std.specs.List.{AllByRecursion}
use Rattle.std.proofs.lemmas.List.Concat.{flat_map-cons}
use Rattle.spec_filters.specs.declared.FilterState.{FilterState}
use Rattle.spec_document.specs.Rect.{count_from}
use Rattle.spec_history.specs.History.{Entry, document_of, latest_of}
use Rattle.spec_script.specs.Script.{Line, save}
use Rattle.spec_text.specs.Text.{IsTextOf}
use Rattle.spec_generated.specs.Draws.{Draws, times, for_each}
use Rattle.spec_generated.specs.Generated.{look, fill, tile, fills_and_tile, layer_of_session, session_lines, document, script}
use Rattle.spec_generated.specs.Summary.{outcome}
use Rattle.spec_merged.specs.Fills.{IsOwnLine, AreOwn}
use Rattle.spec_merged.proofs.Merged.{last_is_outcome}

-- the session that fills a layer
abbrev owner : ℕ → ℕ
owner id = if nat_le id 5 then id - 2 else id - 3

all_times : {A : Type 0} (P : A → Type 0) (draws : Draws A) → ((s : ℕ) → P (draws s).what) → (n s : ℕ)
    → AllByRecursion P (times n draws s).what
all_times P draws each zero s = tt
all_times P draws each (suc n) s = (each s, all_times P draws each n (draws s).state)

all_behind : {A : Type 0} (P : A → Type 0) (xs ys : List A) → AllByRecursion P xs → AllByRecursion P ys
    → AllByRecursion P (xs ++ ys)
all_behind P [] ys front back = back
all_behind P (x ∷ xs) ys front back = (front.0, all_behind P xs ys front.1 back)

module _ (session : ℕ) (own : owner (layer_of_session session) ≡ session) where
  own_fill : (s : ℕ) → IsOwnLine owner session (fill (layer_of_session session) s).what
  own_fill s = record { id = layer_of_session session; rect = _; pixel = _; unguarded = refl; alone = refl; own = own }

  own_part : (s : ℕ) → AllByRecursion (IsOwnLine owner session) (fills_and_tile (layer_of_session session) s).what
  own_part s =
      let layer = layer_of_session session in
      let fills = (times 32 (fill layer) s).what in
      let next = (times 32 (fill layer) s).state in
      all_behind (IsOwnLine owner session) fills ((tile next).what ∷ [])
      (all_times (IsOwnLine owner session) (fill layer) own_fill 32 s) (tt, tt)

  own_parts : (parts : List (List Line)) → AllByRecursion (AllByRecursion (IsOwnLine owner session)) parts
      → AllByRecursion (IsOwnLine owner session) (flat_map (λ (p : List Line). p) parts)
  own_parts [] each = tt
  own_parts (p ∷ ps) each =
      subst (AllByRecursion (IsOwnLine owner session)) (sym (flat_map-cons (λ (x : List Line). x) p ps))
      (all_behind (IsOwnLine owner session) p (flat_map (λ (x : List Line). x) ps) each.0 (own_parts ps each.1))

  own_session : (s : ℕ) → AllByRecursion (IsOwnLine owner session) (session_lines session s).what
  own_session s =
      let parts = (times 3 (fills_and_tile (layer_of_session session)) s).what in
      all_behind (IsOwnLine owner session) (flat_map (λ (p : List Line). p) parts) (save ∷ [])
      (own_parts parts (all_times (AllByRecursion (IsOwnLine owner session))
      (fills_and_tile (layer_of_session session)) own_part 3 s)) (tt, tt)

own_sessions : (n first s : ℕ) → ((k : ℕ) → k < n → owner (layer_of_session (first + k)) ≡ first + k)
    → AreOwn owner first (for_each (count_from first n) session_lines s).what
own_sessions zero first s own = tt
own_sessions (suc n) first s own =
    let same : first + 0 ≡ first = omega arith in (
      own_session first (subst (λ (k : ℕ). owner (layer_of_session k) ≡ k) same (own 0 (omega arith))) s,
      own_sessions n (suc first) (session_lines first s).state
          (λ k below. let one : first + suc k ≡ suc first + k = omega arith in
          subst (λ (j : ℕ). owner (layer_of_session j) ≡ j) one (own (suc k) (omega (arith, below)))),
    )

owners_eight : (k : ℕ) → k < 8 → owner (layer_of_session (0 + k)) ≡ 0 + k
owners_eight zero below = refl
owners_eight (suc zero) below = refl
owners_eight (suc (suc zero)) below = refl
owners_eight (suc (suc (suc zero))) below = refl
owners_eight (suc (suc (suc (suc zero)))) below = refl
owners_eight (suc (suc (suc (suc (suc zero))))) below = refl
owners_eight (suc (suc (suc (suc (suc (suc zero)))))) below = refl
owners_eight (suc (suc (suc (suc (suc (suc (suc zero))))))) below = refl
owners_eight (suc (suc (suc (suc (suc (suc (suc (suc k)))))))) below = absurd (omega arith)

length_each : {A B : Type 0} (xs : List A) (draws : A → Draws B) (s : ℕ) → length (for_each xs draws s).what ≡ length xs
length_each [] draws s = refl
length_each (x ∷ xs) draws s = ap suc (length_each xs draws (draws x s).state)

pub script_is_own : (seed : ℕ) → AreOwn owner 0 (script seed)
script_is_own seed = own_sessions 8 0 (times 8 look seed).state owners_eight

pub last_is_outcome_of_seed : (seed : ℕ) (out : List ℕ) (chests : List (List FilterState)) (es : List Entry)
    → IsTextOf out (document seed) (script seed) chests es
    → document_of (document seed) es (latest_of es) ≡ outcome (document seed) (script seed)
last_is_outcome_of_seed seed out chests es text =
    let eight : length (script seed) ≡ 8 = length_each (count_from 0 8) session_lines (times 8 look seed).state in
    last_is_outcome owner out (document seed) (script seed) chests es text (omega (arith, eight)) (script_is_own seed)
