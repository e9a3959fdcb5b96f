-- What an edit that is made leaves is within the limits of a document.
use Rattle.std.proofs.Common.{◌≡◌, ℕ, ◌^◌, true, false, nat_eq, List, [], sym, ◌∙◌, ap, subst, arith}
use Rattle.std.specs.Prelude.{Ok}
use Rattle.std.specs.List.{IsDistinct}
use Rattle.spec_document.specs.Forest.{Forest, ids}
use Rattle.spec_document.specs.Document.{Document, Nodes}
use Rattle.spec_document.specs.Limits.{IsDocument}
use Rattle.spec_edit.specs.Edit.{Edit, IsEdit}
use Rattle.spec_edit.specs.Effect.{makes_node}
use Rattle.spec_edit.proofs.EditsLimited.{apply_goes}
use Rattle.xl_doc.specs.declared.node.Node.{Node}
use Rattle.xl_doc.specs.Nodes.{nodes_of}
use Rattle.xl_doc.specs.Sound.{IsSound}
use Rattle.xl_paint.specs.Applied.{at, Makes}
use Rattle.xl_checks.proofs.Seen.{ids-nodes_of}

-- Any next id does that is above all ids, and these are words.
pub made_limits : (d new : Document) (edit : Edit) → IsDocument d → IsEdit edit → makes_node edit ≡ false → Makes d new edit (Ok tt)
    → IsDocument new
made_limits d new edit is kept none made =
    (apply_goes (at d (2 ^ 32)) (at new (2 ^ 32)) edit []
    (record { document = is; positive = omega arith; below = is.ids.word }) kept tt
    (λ makes. let wrong : false ≡ true = sym none ∙ makes in cc) (made [] (2 ^ 32))).at.document

-- the tree of a document has ids of its own
pub distinct_in : (tree : Forest Node Node) (d : Document) → nodes_of tree ≡ d.nodes → IsDocument d → IsDistinct nat_eq (ids tree)
distinct_in tree d same is =
    let P : List ℕ → Type 0 = IsDistinct nat_eq in
    subst P (ap ids (sym same) ∙ ids-nodes_of tree) is.ids.distinct

-- where all is as before, a document is sound as before
pub sound_kept : (old new : Forest Node Node) (d : Document) → nodes_of old ≡ d.nodes → new ≡ old → IsSound old d
    → IsSound new (record d { nodes = nodes_of new })
sound_kept old new d is same s =
    let P : Forest Node Node → Type 0 = λ t. IsSound t (record d { nodes = nodes_of t }) in
    let Q : Nodes → Type 0 = λ nodes. IsSound old (record d { nodes = nodes }) in
    subst P (sym same) (subst Q (sym is) s)
