-- The chests of the sessions, made of boxes one after another.
use Rattle.std.proofs.Common.{◌≡◌, ℕ, ◌≤◌, List, [], ◌∷◌, ◌++◌, length, map, refl, sym, ◌∙◌, ap, subst, arith}
use Rattle.std.specs.Prelude.{Option, Some, Vec}
use Rattle.std.specs.declared.alloc.Global.{Global}
use Rattle.std.specs.List.{AllByRecursion}
use Rattle.std.proofs.lemmas.List.{length-map}
use Rattle.std.proofs.lemmas.Simd.{map-map}
use Rattle.spec_filters.specs.declared.FilterState.{FilterState}
use Rattle.spec_script.specs.Fits.{FitsFilters}
use Rattle.spec_script.specs.Script.{Line}
use Rattle.xl_audit.specs.Auditing.{filters_in, full_chests, IsFull}
use Rattle.xl_audit.proofs.Desks.{desks_more, desks_all}
use Rattle.xl_filters.specs.Chests.{states_of}

-- ---- one after another

-- the filters of a session's boxes, each in its slot
abbrev pub boxed : {B : Type 0} → (state : B → FilterState) → Vec B Global → List (Option FilterState)
boxed state boxes = map (λ b. Some (state b)) boxes.items

-- the chests so far are those of the boxes that were taken; the boxes that are left are `Short`
pub record AreUpTo {C B : Type 0} (see : C → List (Option FilterState)) (state : B → FilterState) (Short : Vec B Global → Type 0)
    (chests : List C) (rest all : List (Vec B Global)) : Type 0 where
  pub so_far : map see chests ++ map (boxed state) rest ≡ map (boxed state) all
  pub short : AllByRecursion Short rest

module _ {C B : Type 0} (see : C → List (Option FilterState)) (state : B → FilterState) (Short : Vec B Global → Type 0) where
  pub boxes_begin : (chests : List C) (rest all : List (Vec B Global)) → chests ≡ [] → rest ≡ all → AllByRecursion Short all
      → AreUpTo see state Short chests rest all
  boxes_begin chests rest all none is short = record {
    so_far = ap (λ (cs : List C). map see cs ++ map (boxed state) rest) none ∙ ap (map (boxed state)) is;
    short = subst (AllByRecursion Short) (sym is) short;
  }

  pub boxes_short : (chests : List C) (rest more all : List (Vec B Global)) (b : Vec B Global)
      → AreUpTo see state Short chests rest all → rest ≡ b ∷ more → Short b
  boxes_short chests rest more all b up next = (subst (AllByRecursion Short) next up.short).0

  pub boxes_more : (chests new : List C) (rest more all : List (Vec B Global)) (b : Vec B Global) (c : C)
      → AreUpTo see state Short chests rest all → rest ≡ b ∷ more → new ≡ chests ++ c ∷ [] → see c ≡ boxed state b
      → AreUpTo see state Short new more all
  boxes_more chests new rest more all b c up next pushed same = record {
    so_far = desks_more see (boxed state) chests new rest more all c b up.so_far next pushed same;
    short = (subst (AllByRecursion Short) next up.short).1;
  }

  full_of : (lists : List (Vec B Global)) → map (boxed state) lists ≡ full_chests (states_of state lists)
  full_of lists =
      let some : FilterState → Option FilterState = λ s. Some s in
      let states : Vec B Global → List FilterState = λ boxes. map state boxes.items in
      let each : (λ boxes. map some (states boxes)) ≡ boxed state = λ i boxes. map-map some state boxes.items i in
      sym (map-map (map some) states lists ∙ ap (λ f. map f lists) each)

  pub boxes_all : (chests : List C) (rest all : List (Vec B Global)) → AreUpTo see state Short chests rest all → rest ≡ []
      → map see chests ≡ full_chests (states_of state all)
  boxes_all chests rest all up none =
      desks_all see (boxed state) chests rest all up.so_far none ∙ full_of all

-- ---- what they are

slots_full : (filters : List FilterState) → IsFull (map (λ s. Some s) filters)
slots_full [] = refl
slots_full (s ∷ filters) = slots_full filters

all_full : (filters : List (List FilterState)) → AllByRecursion IsFull (full_chests filters)
all_full [] = tt
all_full (fs ∷ filters) = (slots_full fs, all_full filters)

pub are_full : (chests : List (List (Option FilterState))) (filters : List (List FilterState)) → chests ≡ full_chests filters
    → AllByRecursion IsFull chests
are_full chests filters same = subst (AllByRecursion IsFull) (sym same) (all_full filters)

full_lengths : (filters : List (List FilterState)) → map length (full_chests filters) ≡ map length filters
full_lengths filters =
    let some : FilterState → Option FilterState = λ s. Some s in
    let each : (λ (fs : List FilterState). length (map some fs)) ≡ length = λ i fs. length-map fs some i in
    map-map length (map some) filters ∙ ap (λ f. map f filters) each

pub full_fit : (chests : List (List (Option FilterState))) (filters : List (List FilterState)) (lists : List (List Line))
    → chests ≡ full_chests filters → FitsFilters (map length filters) lists → FitsFilters (map length chests) lists
full_fit chests filters lists same fits =
    subst (λ (ns : List ℕ). FitsFilters ns lists) (sym (ap (map length) same ∙ full_lengths filters)) fits

pub few_boxes : {C B : Type 0} (see : C → List (Option FilterState)) (state : B → FilterState) (chests : List C)
    (lists : List (Vec B Global)) → map see chests ≡ full_chests (states_of state lists) → length lists ≤ 8 → length chests ≤ 8
few_boxes {B = B} see state chests lists same few =
    let c = length-map chests see in
    let f = length-map (states_of state lists) (λ (fs : List FilterState). map (λ s. Some s) fs) in
    let l = length-map lists (λ (boxes : Vec B Global). map state boxes.items) in
    let both = ap length same in omega (arith, c, f, l, both, few)

slots_in : (filters : List FilterState) → filters_in (map (λ s. Some s) filters) ≡ filters
slots_in [] = refl
slots_in (s ∷ filters) = ap (λ (fs : List FilterState). s ∷ fs) (slots_in filters)

all_in : (filters : List (List FilterState)) → map filters_in (full_chests filters) ≡ filters
all_in [] = refl
all_in (fs ∷ filters) =
    ap (λ (x : List FilterState). x ∷ map filters_in (full_chests filters)) (slots_in fs)
    ∙ ap (λ (xs : List (List FilterState)). fs ∷ xs) (all_in filters)

pub full_in : (chests : List (List (Option FilterState))) (filters : List (List FilterState)) → chests ≡ full_chests filters
    → map filters_in chests ≡ filters
full_in chests filters same = ap (map filters_in) same ∙ all_in filters
