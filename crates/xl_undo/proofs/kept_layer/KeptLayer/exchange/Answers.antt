-- The tree is the document's, and the layer that is put back was its layer before.
use Rattle.std.proofs.Common.{refl, sym, ◌∙◌, ap, subst}
use Rattle.spec_document.specs.Document.{Layer, Document}
use Rattle.spec_document.specs.Changes.{with_leaf}
use Rattle.spec_document.specs.Limits.{IsDocument}
use Rattle.xl_doc.specs.Nodes.{layer_of}
use Rattle.xl_paint.proofs.Limited.{distinct_in}
use Rattle.xl_undo.specs.Layers.{LayerIn, ChangesLayer}
use Rattle.xl_undo.proofs.Kept.{still_seen, is_back}
use Rattle.xl_undo.proofs.kept_layer.KeptLayer.exchange.Goals as goal

pub exchange_in-requires-clause-ids : goal.exchange_in-requires-clause-ids
exchange_in-requires-clause-ids c = distinct_in _ _ refl c.doc.invariant.limits

pub exchange_in-requires-clause-layer : goal.exchange_in-requires-clause-layer
exchange_in-requires-clause-layer c =
    let d = c.self.inside.document.value in
    let changed : ChangesLayer c.self.inside.id.0 d c.args.doc.now =
    subst (λ (k : LayerIn). ChangesLayer k.id k.document c.args.doc.now) (sym c.self.view_is) c.requires in
    still_seen c.self.inside.id.0 d c.self.inside.node changed.0 _ c.self.invariant
    (ap (λ (x : Document). x.nodes) (c.doc.view_is ∙ changed.1))

pub invariant_of-doc : goal.invariant_of-doc
invariant_of-doc c =
    let d = c.self.inside.document.value in
    let changed : ChangesLayer c.self.inside.id.0 d c.args.doc.now =
    subst (λ (k : LayerIn). ChangesLayer k.id k.document c.args.doc.now) (sym c.self.view_is) c.requires in
    record {
      marks = c.exchange_in.ensures.marks;
      limits = subst IsDocument (sym
          (is_back _ c.args.doc.now d c.self.inside.id.0 c.self.inside.node changed.0 _ c.self.invariant c.doc.view_is changed.1
          c.exchange_in.ensures.tree)) c.self.invariant.limits;
    }

pub returns-clause-doc : goal.returns-clause-doc
returns-clause-doc c =
    let d = c.self.inside.document.value in
    let changed : ChangesLayer c.self.inside.id.0 d c.args.doc.now =
    subst (λ (k : LayerIn). ChangesLayer k.id k.document c.args.doc.now) (sym c.self.view_is) c.requires in
    is_back _ c.args.doc.now d c.self.inside.id.0 c.self.inside.node changed.0 _ c.self.invariant c.doc.view_is changed.1
    c.exchange_in.ensures.tree
    ∙ ap (λ (k : LayerIn). k.document) c.self.view_is

pub returns-clause-changes : goal.returns-clause-changes
returns-clause-changes c =
    let d = c.self.inside.document.value in
    let n = c.self.inside.node in
    let now = c.args.doc.now in
    let changed : ChangesLayer c.self.inside.id.0 d now =
    subst (λ (k : LayerIn). ChangesLayer k.id k.document now) (sym c.self.view_is) c.requires in
    subst (λ (k : LayerIn). ChangesLayer k.id now k.document) c.self.view_is (
      λ (old : Layer). layer_of n,
      sym (is_back now now d c.self.inside.id.0 n changed.0 (with_leaf c.self.inside.id.0 (λ old. layer_of n) now.nodes)
          c.self.invariant refl changed.1 refl),
    )
