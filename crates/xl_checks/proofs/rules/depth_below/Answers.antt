-- The groups above the stack are as many in the document as in its tree.
use Rattle.std.proofs.Common.{rules, ◌≡◌, ◌+◌, ℕ, false, cond, eqb, List, [], length, refl, sym, ◌∙◌, ap}
use Rattle.std.proofs.lemmas.List.{length-map}
use Rattle.std.specs.Prelude.{Option, Some, None, option_map, unwrap_or}
use Rattle.spec_document.specs.Forest.{ancestors}
use Rattle.spec_document.specs.Document.{Document}
use Rattle.spec_edit.specs.Refusal.{depth_below}
use Rattle.xl_tree.specs.declared.naming.NodeId.{NodeId}
use Rattle.xl_checks.proofs.NodesMoved.{ancestors-nodes_of}
use Rattle.xl_checks.proofs.rules.depth_below.Goals as goal

length_or : (o : Option (List ℕ)) → unwrap_or (option_map length o) 0 ≡ length (unwrap_or o [])
length_or None = refl
length_or (Some xs) = refl

pub returns-clause-value : goal.returns-clause-value
returns-clause-value c =
    let t = c.doc.inside.tree in
    let p = c.args.stack.0 in
    let z : eqb p 0 ≡ false = search rules in
    let many : length c.as_slice.result.now ≡ length (unwrap_or (ancestors p t) []) =
    ap length c.as_slice.ensures.ids
    ∙ (sym (length-map c.ancestors-above.result (λ (i : NodeId). i.0)) ∙ ap length c.ancestors-above.ensures) in
    ap (λ n. 2 + n) (many ∙ sym (length_or (ancestors p t)))
    ∙ (sym (λ j. cond (z j) 1 (2 + unwrap_or (option_map length (ancestors-nodes_of p t j)) 0))
    ∙ ap (λ (x : Document). depth_below x.nodes p) c.doc.view_is)
