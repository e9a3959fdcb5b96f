-- The script that is made from a seed fits a run without filters: it names none, and has 800 calls.
use Rattle.std.proofs.Common.{◌≡◌, ℕ, zero, suc, ◌*◌, ◌<◌, ◌≤◌, Bool, cond, true, false, List, [], ◌∷◌, ◌++◌, length}
use Rattle.std.proofs.Common.{filter, refl, ap, sym, ◌∙◌, arith, subst, flat_map, length-append}
use Rattle.std.specs.List.{AllByRecursion}
use Rattle.std.proofs.lemmas.List.Concat.{flat_map-cons}
use Rattle.spec_document.specs.Limits.{AreBytes}
use Rattle.spec_document.specs.Rect.{count_from}
use Rattle.spec_script.specs.Script.{Line, save, is_call}
use Rattle.spec_script.specs.Fits.{IsFit, dropped_by, AreFit, EachFit, FitsFilters, count_calls}
use Rattle.spec_generated.specs.Draws.{Draws, draw, times, for_each}
use Rattle.spec_generated.specs.Generated.{pixel, look, fill, tile, fills_and_tile, layer_of_session, session_lines, script}

-- ---- what is drawn, one after another

all_times : {A : Type 0} (P : A → Type 0) (draws : Draws A) → ((s : ℕ) → P (draws s).what) → (n s : ℕ)
    → AllByRecursion P (times n draws s).what
all_times P draws each zero s = tt
all_times P draws each (suc n) s = (each s, all_times P draws each n (draws s).state)

length_times : {A : Type 0} (draws : Draws A) (n s : ℕ) → length (times n draws s).what ≡ n
length_times draws zero s = refl
length_times draws (suc n) s = ap suc (length_times draws n (draws s).state)

all_behind : {A : Type 0} (P : A → Type 0) (xs ys : List A) → AllByRecursion P xs → AllByRecursion P ys
    → AllByRecursion P (xs ++ ys)
all_behind P [] ys front back = back
all_behind P (x ∷ xs) ys front back = (front.0, all_behind P xs ys front.1 back)

-- ---- one line

-- a line that names no filter and drops none
record IsPlain (line : Line) : Type 0 where
  fit : IsFit 0 [] line
  drops : dropped_by [] line ≡ []

pixel_bytes : (s : ℕ) → AreBytes (pixel s).what
pixel_bytes s = all_times (λ b. b < 256) (draw 256) (λ t. omega arith) 4 s

plain_fill : (layer s : ℕ) → IsPlain (fill layer s).what
plain_fill layer s = record {
  fit = (record { some = omega arith; few = omega arith; each = (pixel_bytes _, tt) }, refl);
  drops = refl;
}

plain_tile : (s : ℕ) → IsPlain (tile s).what
plain_tile s = record { fit = (tt, refl); drops = refl }

-- ---- a session

record IsPart (n : ℕ) (lines : List Line) : Type 0 where
  plain : AllByRecursion IsPlain lines
  count : length lines ≡ n

part : (layer s : ℕ) → IsPart 33 (fills_and_tile layer s).what
part layer s =
    let fills = (times 32 (fill layer) s).what in
    let then = (times 32 (fill layer) s).state in
    let many : length fills ≡ 32 = length_times (fill layer) 32 s in
    let last : AllByRecursion IsPlain ((tile then).what ∷ []) = (plain_tile then, tt) in
    record {
      plain = all_behind IsPlain fills ((tile then).what ∷ []) (all_times IsPlain (fill layer) (plain_fill layer) 32 s) last;
      count = length-append fills ((tile then).what ∷ []) ∙ omega (arith, many);
    }

joined : (parts : List (List Line)) → AllByRecursion (IsPart 33) parts
    → IsPart (33 * length parts) (flat_map (λ (p : List Line). p) parts)
joined [] each = record { plain = tt; count = refl }
joined (p ∷ ps) each =
    let rest = joined ps each.1 in
    let cons = flat_map-cons (λ (x : List Line). x) p ps in
    let here = each.0.count in
    let more = rest.count in
    record {
      plain = subst (AllByRecursion IsPlain) (sym cons)
          (all_behind IsPlain p (flat_map (λ (x : List Line). x) ps) each.0.plain rest.plain);
      count = ap length cons ∙ length-append p (flat_map (λ (x : List Line). x) ps) ∙ omega (arith, here, more);
    }

session : (n s : ℕ) → IsPart 100 (session_lines n s).what
session n s =
    let parts = (times 3 (fills_and_tile (layer_of_session n)) s).what in
    let many : length parts ≡ 3 = length_times (fills_and_tile (layer_of_session n)) 3 s in
    let last : AllByRecursion IsPlain (save ∷ []) = (record { fit = tt; drops = refl }, tt) in
    let lines = joined parts (all_times (IsPart 33) (fills_and_tile (layer_of_session n)) (part (layer_of_session n)) 3 s) in
    let count = lines.count in
    record {
      plain = all_behind IsPlain (flat_map (λ (p : List Line). p) parts) (save ∷ []) lines.plain last;
      count = length-append (flat_map (λ (p : List Line). p) parts) (save ∷ []) ∙ omega (arith, count, many);
    }

-- ---- the sessions

fit_lines : (lines : List Line) → AllByRecursion IsPlain lines → AreFit 0 [] lines
fit_lines [] each = tt
fit_lines (line ∷ lines) each =
    (each.0.fit, subst (λ (dropped : List ℕ). AreFit 0 dropped lines) (sym each.0.drops) (fit_lines lines each.1))

few_calls : (lines : List Line) → length (filter is_call lines) ≤ length lines
few_calls [] = omega arith
few_calls (line ∷ lines) = let rest = few_calls lines in go (is_call line) rest where
  go : (b : Bool) → length (filter is_call lines) ≤ length lines
      → length (cond b (line ∷ filter is_call lines) (filter is_call lines)) ≤ suc (length lines)
  go true rest = omega (arith, rest)
  go false rest = omega (arith, rest)

each_fits : (lists : List (List Line)) (first : ℕ) → AllByRecursion (IsPart 100) lists → EachFit [] first lists
each_fits [] first each = tt
each_fits (lines ∷ lists) first each = (fit_lines lines each.0.plain, each_fits lists (suc first) each.1)

calls_of_all : (lists : List (List Line)) → AllByRecursion (IsPart 100) lists → count_calls lists ≤ 100 * length lists
calls_of_all [] each = omega arith
calls_of_all (lines ∷ lists) each =
    let here = few_calls lines in
    let count = each.0.count in
    let rest = calls_of_all lists each.1 in
    omega arith

each_session : (numbers : List ℕ) (s : ℕ) → AllByRecursion (IsPart 100) (for_each numbers session_lines s).what
each_session [] s = tt
each_session (n ∷ numbers) s = (session n s, each_session numbers (session_lines n s).state)

length_each : {A B : Type 0} (xs : List A) (draws : A → Draws B) (s : ℕ) → length (for_each xs draws s).what ≡ length xs
length_each [] draws s = refl
length_each (x ∷ xs) draws s = ap suc (length_each xs draws (draws x s).state)

pub script_has_eight : (seed : ℕ) → length (script seed) ≡ 8
script_has_eight seed = length_each (count_from 0 8) session_lines (times 8 look seed).state

-- the script of a seed fits a run without filters
pub script_fits : (seed : ℕ) → FitsFilters [] (script seed)
script_fits seed =
    let first = (times 8 look seed).state in
    let each = each_session (count_from 0 8) first in
    let many = script_has_eight seed in
    let few = calls_of_all (script seed) each in
    record { each = each_fits (script seed) 0 each; few = omega (arith, few, many) }
