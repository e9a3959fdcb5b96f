-- Scripts whose lines are all of session 0.
use Rattle.std.proofs.Common.{◌≡◌, ℕ, suc, ◌*◌, ◌<◌, ◌≤◌, List, [], ◌∷◌, length, map, ap, sym, ◌∙◌, subst, arith}
use Rattle.std.specs.Prelude.{Vec, slice_get, slice_index_or, unwrap_or}
use Rattle.std.specs.declared.alloc.Global.{Global}
use Rattle.std.specs.List.{AllByRecursion}
use Rattle.std.proofs.lemmas.List.{length-map}
use Rattle.spec_filters.specs.declared.FilterState.{FilterState}
use Rattle.spec_history.specs.declared.TheConstants.{MAX_ENTRIES}
use Rattle.spec_script.specs.Script as script
use Rattle.spec_script.specs.Fits.{AreFit, EachFit, FitsFilters, count_calls}
use Rattle.spec_text.specs.Text.{calls_of}
use Rattle.xl_script.specs.Lines.{lines_of, lists_of}
use Rattle.xl_script.specs.declared.script.Line.{Line}
use Rattle.xl_filters.specs.Chests.{states_of}
use Rattle.spec_script.specs.Script.{list_at}
use Rattle.xl_run.specs.Filters.{boxes_at}
use Rattle.xl_run.proofs.Boxes.{count_at}
use Rattle.spec_run.specs.First.{AreOfFirst}
use Rattle.spec_text.proofs.CallsWithin.{calls_are}

abbrev AreBlank : List (List script.Line) → Type 0
AreBlank lists = AllByRecursion (λ lines. lines ≡ []) lists

all_blank : (lists : List (List Line)) → ((n : ℕ) → n < length lists → slice_index_or lists n [] ≡ []) → AreBlank (lists_of lists)
all_blank [] each = tt
all_blank (lines ∷ lists) each =
    (ap lines_of (each 0 (omega arith)), all_blank lists (λ n below. each (suc n) (omega (arith, below))))

-- the sessions from 1 to 7 have none
pub all_of_first : (lists : List (List Line)) → length (lists_of lists) ≡ 8
    → ((n : ℕ) → 1 ≤ n → n < 8 → slice_index_or lists n [] ≡ []) → AreOfFirst (lists_of lists)
all_of_first [] eight each = tt
all_of_first (lines ∷ lists) eight each = all_blank lists (λ n below. each (suc n) (omega arith) (go n below)) where
  go : (n : ℕ) → n < length lists → suc n < 8
  go n below = let same = length-map lists lines_of in omega (arith, below, same, eight)

-- ---- the lines and filters of session 0

pub first_list_fits : (counts : List ℕ) (lists : List (List script.Line)) → EachFit counts 0 lists
    → AreFit (unwrap_or (slice_get counts 0) 0) [] (list_at lists 0)
first_list_fits counts [] each = tt
first_list_fits counts (lines ∷ lists) each = each.0

pub first_fits : {B : Type 0} (state : B → FilterState) (boxes : List (Vec B Global)) (lists : List (List script.Line))
    (items : List B) (lines : List script.Line) → FitsFilters (map length (states_of state boxes)) lists
    → items ≡ boxes_at boxes 0 → lines ≡ list_at lists 0 → AreFit (length items) [] lines
first_fits state boxes lists items lines fits first own =
    subst (λ (ls : List script.Line). AreFit (length items) [] ls) (sym own)
    (subst (λ (n : ℕ). AreFit n [] (list_at lists 0)) (count_at state boxes 0 ∙ ap length (sym first))
    (first_list_fits (map length (states_of state boxes)) lists fits.each))

first_count : (lists : List (List script.Line)) → length (calls_of (list_at lists 0)) ≤ count_calls lists
first_count [] = omega arith
first_count (lines ∷ lists) = let same = ap length (calls_are lines) in omega (arith, same)

-- there is room for their calls
pub first_few : (counts : List ℕ) (lists : List (List script.Line)) (lines : List script.Line) → FitsFilters counts lists
    → lines ≡ list_at lists 0 → 2 * length (calls_of lines) ≤ MAX_ENTRIES
first_few counts lists lines fits own =
    let few = fits.few in
    let count = first_count lists in
    let same = ap (λ (ls : List script.Line). length (calls_of ls)) own in
    omega (arith, few, count, same)
