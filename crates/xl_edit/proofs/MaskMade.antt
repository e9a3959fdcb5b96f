-- Changes of a layer that was found.
use Rattle.std.proofs.Common.{◌≡◌, ℕ, refl, sym, ◌∙◌, ap}
use Rattle.std.specs.Prelude.{Some, None}
use Rattle.spec_document.specs.Forest.{Found, nothing, a_leaf, a_group}
use Rattle.spec_document.specs.Changes.{with_leaf}
use Rattle.spec_document.specs.Document.{Document, Layer, Group}
use Rattle.spec_document.specs.Limits.{IsDocument}
use Rattle.spec_edit.specs.Refusal.{node}
use Rattle.xl_doc.specs.Sheet.{Sheet}
use Rattle.xl_checks.specs.Found.{sheet_of_layer, sheet_found}
use Rattle.xl_paint.proofs.OneNode.{same_leaf}

-- changes of a layer that come to the same where its pixels are these
pub leaf_agrees : (d : Document) (id : ℕ) (s : Sheet) (a b : Layer → Layer) → IsDocument d → sheet_found (node d id) ≡ Some s
    → ((l : Layer) → sheet_of_layer l ≡ s → a l ≡ b l) → with_leaf id a d.nodes ≡ with_leaf id b d.nodes
leaf_agrees d id s a b limits found same = from (node d id) refl where
  from : (x : Found Layer Group) → node d id ≡ x → with_leaf id a d.nodes ≡ with_leaf id b d.nodes
  from nothing is = let two : None ≡ Some s = sym (ap sheet_found is) ∙ found in cc
  from (a_leaf l) is =
      let two : Some (sheet_of_layer l) ≡ Some s = sym (ap sheet_found is) ∙ found in
      let one : sheet_of_layer l ≡ s = cc in
      same_leaf id a b d.nodes l limits.ids.distinct is (same l one)
  from (a_group g c) is = let two : None ≡ Some s = sym (ap sheet_found is) ∙ found in cc
