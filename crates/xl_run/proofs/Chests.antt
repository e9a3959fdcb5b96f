-- A chest beside the list of all filters of its session, along the session's lines.
use Rattle.std.proofs.Common.{◌≡◌, ℕ, zero, suc, Bool, true, false, List, [], ◌∷◌, ◌++◌, length, map, slice_set}
use Rattle.std.proofs.Common.{Option, Some, None, refl, sym, ap, ◌∙◌, true≢false, eq-eqb}
use Rattle.std.specs.Prelude.{◌==◌, ◌&&◌, ◌||◌, ◌≢◌, not, nat_lt, slice_index_or, is_some}
use Rattle.std.specs.List.{list_all, list_any}
use Rattle.std.proofs.lemmas.Bool.{and_parts, ltb-true}
use Rattle.std.proofs.lemmas.List.{get_or-set_other}
use Rattle.std.proofs.Math.ListN.{get_or-map}
use Rattle.spec_edit.specs.Edit as edits
use Rattle.spec_edit.specs.Edit.{Edit}
use Rattle.spec_history.specs.Machine as machine
use Rattle.spec_history.specs.Machine.{Call}
use Rattle.spec_history.specs.Limited.{edits_of}
use Rattle.spec_filters.specs.declared.FilterState.{FilterState}
use Rattle.spec_filters.specs.Slots.{has_slot}
use Rattle.spec_script.specs.Script as script
use Rattle.spec_script.specs.Script.{is_there, finds_filter}
use Rattle.spec_script.specs.Fits.{finds_filters, IsFit}
use Rattle.spec_tables.specs.Agrees.{Agrees, AreThere, SameSlots}
use Rattle.xl_run.specs.Filters.{FitsChest, HasAll}

-- each filter that was given and not dropped is in its slot
abbrev pub IsStocked : (given : ℕ) (dropped : List ℕ) (chest : List (Option FilterState)) → Type 0
IsStocked given dropped chest = (slot : ℕ) → is_there given dropped slot ≡ true → has_slot chest slot ≡ true

-- at the beginning none was dropped
pub all_stocked : (chest : List (Option FilterState)) → HasAll chest → IsStocked (length chest) [] chest
all_stocked chest all slot there = all slot (ltb-true slot (length chest) (and_parts (nat_lt slot (length chest)) true there).0)

-- ---- a line

edits_there : (given : ℕ) (dropped : List ℕ) (chest : List (Option FilterState)) (es : List Edit) → IsStocked given dropped chest
    → list_all (finds_filter given dropped) es ≡ true → AreThere chest es
edits_there given dropped chest [] stocked finds = tt
edits_there given dropped chest (edits.filter id rect slot ∷ es) stocked finds =
    let both = and_parts (is_there given dropped slot) (list_all (finds_filter given dropped) es) finds in
    (stocked slot both.0, edits_there given dropped chest es stocked both.1)
edits_there given dropped chest (e ∷ es) stocked finds = edits_there given dropped chest es stocked finds

call_there : (given : ℕ) (dropped : List ℕ) (chest : List (Option FilterState)) (c : Call) → IsStocked given dropped chest
    → finds_filters given dropped c ≡ true → AreThere chest (edits_of c)
call_there given dropped chest (machine.edit guard es) stocked finds = edits_there given dropped chest es stocked finds
call_there given dropped chest (machine.undo named) stocked finds = tt
call_there given dropped chest machine.redo stocked finds = tt
call_there given dropped chest (machine.tile stack at) stocked finds = tt
call_there given dropped chest (machine.peek stack at) stocked finds = tt
call_there given dropped chest machine.top stocked finds = tt

pub line_fits : (given : ℕ) (dropped : List ℕ) (chest : List (Option FilterState)) (line : script.Line)
    → IsStocked given dropped chest → IsFit given dropped line → FitsChest chest line
line_fits given dropped chest (script.call c) stocked fit = (fit.0, call_there given dropped chest c stocked fit.1)
line_fits given dropped chest script.save stocked fit = tt
line_fits given dropped chest (script.forget slot) stocked fit = stocked slot fit

-- ---- after a call

has_by_slots : (chest : List (Option FilterState)) (slot : ℕ) → slice_index_or (map is_some chest) slot false ≡ has_slot chest slot
has_by_slots chest slot = get_or-map is_some chest slot None

pub stocked_after : (given : ℕ) (dropped : List ℕ) (old new : List (Option FilterState)) → SameSlots old new
    → IsStocked given dropped old → IsStocked given dropped new
stocked_after given dropped old new same stocked slot there =
    sym (has_by_slots new slot) ∙ ap (λ (slots : List Bool). slice_index_or slots slot false) same ∙ has_by_slots old slot
    ∙ stocked slot there

-- ---- after a filter was forgotten

pub agrees_without : (chest : List (Option FilterState)) (filters : List FilterState) (slot : ℕ) → Agrees chest filters
    → Agrees (slice_set chest slot None) filters
agrees_without [] filters slot agrees = agrees
agrees_without (x ∷ chest) [] slot agrees = absurd (never x agrees) where
  never : (x : Option FilterState) → Agrees (x ∷ chest) [] → ⊥
  never None h = h
  never (Some s) h = h
agrees_without (None ∷ chest) (s ∷ filters) zero agrees = agrees
agrees_without (Some x ∷ chest) (s ∷ filters) zero agrees = agrees.1
agrees_without (None ∷ chest) (s ∷ filters) (suc slot) agrees = agrees_without chest filters slot agrees
agrees_without (Some x ∷ chest) (s ∷ filters) (suc slot) agrees = (agrees.0, agrees_without chest filters slot agrees.1)

not_both : (a b : Bool) → (a && not b) ≡ true → b ≡ false
not_both true false h = refl
not_both true true h = absurd (true≢false (sym h))
not_both false b h = absurd (true≢false (sym h))

either_last : {P : Type 0} {behind : Bool} (b rest : Bool) → (b || rest) ≡ false → (rest ≡ false → (behind ≡ false) × P)
    → ((b || behind) ≡ false) × P
either_last true rest h last = absurd (true≢false h)
either_last false rest h last = last h

any_last : (dropped : List ℕ) (slot n : ℕ) → list_any (λ d. d == n) (dropped ++ slot ∷ []) ≡ false
    → (list_any (λ d. d == n) dropped ≡ false) × ((slot == n) ≡ false)
any_last [] slot n none = (refl, or_parts (slot == n) none) where
  or_parts : (b : Bool) → (b || false) ≡ false → b ≡ false
  or_parts true h = h
  or_parts false h = refl
any_last (d ∷ dropped) slot n none =
    either_last (d == n) (list_any (λ d. d == n) (dropped ++ slot ∷ [])) none (any_last dropped slot n)

pub stocked_without : (given : ℕ) (dropped : List ℕ) (chest : List (Option FilterState)) (slot : ℕ) → IsStocked given dropped chest
    → IsStocked given (dropped ++ slot ∷ []) (slice_set chest slot None)
stocked_without given dropped chest slot stocked n there =
    let parts = and_parts (nat_lt n given) (not (list_any (λ d. d == n) (dropped ++ slot ∷ []))) there in
    let none = any_last dropped slot n (not_both (nat_lt n given) (list_any (λ d. d == n) (dropped ++ slot ∷ [])) there) in
    let other : n ≢ slot = λ q. true≢false (sym (eq-eqb slot n (sym q)) ∙ none.1) in
    ap is_some (get_or-set_other chest slot n None None other) ∙ stocked n (rw (parts.0, none.0) refl)
