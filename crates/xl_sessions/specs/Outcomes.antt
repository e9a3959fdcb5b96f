-- What became of the lines of some sessions beside each other.
use Rattle.std.specs.Prelude.{◌≡◌, ℕ, suc, Bool, true, List, [], ◌∷◌, map, string_bytes, String, Vec}
use Rattle.std.specs.declared.alloc.Global.{Global}
use Rattle.spec_document.specs.Document.{Document}
use Rattle.spec_filters.specs.declared.FilterState.{FilterState}
use Rattle.spec_history.specs.History.{Entry}
use Rattle.spec_run.specs.Fronts.{AreBegun}
use Rattle.spec_script.specs.Script.{Line}
use Rattle.spec_seats.specs.Digests.{digests_in}
use Rattle.spec_seats.specs.Made.{IsOf, HasMade}
use Rattle.spec_seats.specs.Picked.{picked}

-- the fact holds of each, the first of which is that of the session `first`
abbrev pub FromFirst : {P : Type 0} → (Q : ℕ → P → Type 0) → (first : ℕ) → List P → Type 0
FromFirst Q first [] = Unit {0}
FromFirst Q first (p ∷ ps) = Q first p × FromFirst Q (suc first) ps

-- Of the history that the session knows, the entries at these places are its own, of the first calls of its lines, and its saves have
-- ended. Where all its lines were played they are of all calls, and it has the digests of the tiles that it was shown.
pub record IsOutcome (base : Document) (session : ℕ) (filters : List FilterState) (lines : List Line) (es : List Entry)
    (places : List ℕ) (shown : List (List ℕ)) (done : Bool) : Type 0 where
  pub of : IsOf session places es
  pub begun : AreBegun filters lines (picked places es)
  pub made : done ≡ true → HasMade session filters lines places es
  pub told : done ≡ true → shown ≡ digests_in base es (picked places es)

-- the bytes of some texts, list by list
abbrev pub texts_of : List (Vec (String Global) Global) → List (List (List ℕ))
texts_of lists = map (λ texts. map string_bytes texts.items) lists
