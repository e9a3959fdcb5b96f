-- A document without a history stands.
use Rattle.std.proofs.Common.{◌≡◌, ℕ, zero, suc, ◌≤◌, ◌^◌, List, [], ◌∷◌, refl, subst, sym, arith, replicate, lit≤}
use Rattle.std.specs.Prelude.{slice_index}
use Rattle.std.specs.List.{AllByRecursion}
use Rattle.spec_document.specs.Document.{Document}
use Rattle.spec_document.specs.Limits.{IsDocument}
use Rattle.spec_document.proofs.Elements.{all-each}
use Rattle.spec_document.specs.Forest.{ids, size}
use Rattle.spec_history.specs.History.{Entry}
use Rattle.spec_history.proofs.Growing.{IsLegal-empty}
use Rattle.spec_world.proofs.AllRight.{standing-start}
use Rattle.xl_doc.specs.Numbered.{AreNumbered}
use Rattle.spec_standing.specs.Now.{Now, first_now, Stands}

zero_at : (n i : ℕ) → slice_index (replicate n 0) i ≡ 0
zero_at zero i = refl
zero_at (suc n) zero = refl
zero_at (suc n) (suc i) = zero_at n i

-- the ids of a numbered document are small
pub small_ids : (d : Document) → AreNumbered d.nodes → AllByRecursion (λ id. id ≤ 2 ^ 31) (ids d.nodes)
small_ids d numbered =
    let few = numbered.few in
    all-each (λ id. id ≤ size d.nodes) (λ id. id ≤ 2 ^ 31) (ids d.nodes) (λ id le. omega (arith, le, few)) numbered.within

-- no session has made a call
abbrev none_made : List ℕ
none_made = 0 ∷ 0 ∷ 0 ∷ 0 ∷ 0 ∷ 0 ∷ 0 ∷ 0 ∷ []

opened : (d : Document) → AreNumbered d.nodes → IsDocument d → Stands d [] (first_now d) none_made
opened d numbered within = record {
  within = within;
  small = small_ids d numbered;
  legal = IsLegal-empty d;
  few = lit≤ tt;
  is_now = refl;
  groups = lit≤ tt;
  indices = λ session here. zero_at 8 session;
  pictures = standing-start d;
}

pub stands_opened : (d base : Document) (entries : List Entry) (now : Now) → base ≡ d → entries ≡ [] → now ≡ first_now d
    → AreNumbered d.nodes → IsDocument d → Stands base entries now (0 ∷ 0 ∷ 0 ∷ 0 ∷ 0 ∷ 0 ∷ 0 ∷ 0 ∷ [])
stands_opened d base entries now same none first numbered within =
    subst (λ b. Stands b entries now none_made) (sym same)
    (subst (λ es. Stands d es now none_made) (sym none)
    (subst (λ n. Stands d [] n none_made) (sym first) (opened d numbered within)))
