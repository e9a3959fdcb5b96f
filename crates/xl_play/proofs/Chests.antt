-- A chest that has all filters of its session, and how many these are.
use Rattle.std.proofs.Common.{◌≡◌, ℕ, List, [], ◌∷◌, length, map, Some, refl, ap, sym, ◌∙◌, subst}
use Rattle.std.specs.Prelude.{Vec}
use Rattle.std.specs.declared.alloc.Global.{Global}
use Rattle.std.proofs.lemmas.List.{length-map}
use Rattle.spec_filters.specs.declared.FilterState.{FilterState}
use Rattle.spec_script.specs.Script.{Line}
use Rattle.spec_script.specs.Fits.{AreFit}
use Rattle.xl_filters.specs.Chests.{states_of}
use Rattle.xl_run.proofs.Boxes.{full_has_all}
use Rattle.xl_run.proofs.Chests.{IsStocked, all_stocked}

pub states_fit : {B : Type 0} (state : B → FilterState) (boxes : List B) (lines : List Line) → AreFit (length boxes) [] lines
    → AreFit (length (map state boxes)) [] lines
states_fit state boxes lines fit = subst (λ (n : ℕ). AreFit n [] lines) (sym (length-map boxes state)) fit

pub full_stocked : (filters : List FilterState) → IsStocked (length filters) [] (map (λ s. Some s) filters)
full_stocked filters =
    subst (λ (n : ℕ). IsStocked n [] (map (λ s. Some s) filters)) (length-map filters (λ s. Some s))
    (all_stocked (map (λ s. Some s) filters) (full_has_all filters))

-- how many filters each session has
pub counts_are : {B : Type 0} (state : B → FilterState) (boxes : List (Vec B Global))
    → map (λ (b : Vec B Global). length b.items) boxes ≡ map length (states_of state boxes)
counts_are state [] = refl
counts_are state (b ∷ boxes) =
    ap (λ (n : ℕ). n ∷ map (λ (x : Vec _ Global). length x.items) boxes) (sym (length-map b.items state))
    ∙ ap (λ (ns : List ℕ). length (map state b.items) ∷ ns) (counts_are state boxes)
