use Rattle.std.proofs.Common.{◌≡◌, true, false, ◌++◌, ◌∷◌, [], not, sym, ◌∙◌, ap, eq-eqb}
use Rattle.std.proofs.lemmas.Bool.{ne_eqb}
use Rattle.std.specs.Prelude.{is_some}
use Rattle.spec_damage.specs.Damage as damage
use Rattle.spec_document.specs.Forest.{find}
use Rattle.xl_tree.specs.Reads.{node_of}
use Rattle.xl_regions.specs.Pairs.{numbers}
use Rattle.xl_regions.proofs.Nodes.{above_image, above_absent, above_known, some-copied, take_all, numbers-last}
use Rattle.xl_regions.proofs.stacks.stacks_above.Goals as goal
use Rattle.xl_regions.proofs.stacks.stacks_above.Goals.{then-stack-eq0-via-then-stack-eq0}
use Rattle.xl_regions.proofs.stacks.stacks_above.Goals.{then-stack-eq0-via-else-stack-eq0+then-is_none}

pub returns-then-stack-eq0 : goal.returns-then-stack-eq0
returns-then-stack-eq0 c = elim c.then-stack-eq0.branch [
  | then-stack-eq0-via-then-stack-eq0 w ↦
      ap numbers c.new-stacks.ensures.items
      ∙ sym (above_image c.args.doc.now.nodes c.args.stack.0 (eq-eqb c.args.stack.0 0 w.if-stack-eq0.true))
  | then-stack-eq0-via-else-stack-eq0+then-is_none w ↦
      let gone : is_some (node_of (find c.args.stack.0 c.doc.inside.tree)) ≡ false = sym (ap is_some w.find.ensures)
      ∙ (some-copied w.find.result ∙ (w.is_none.ensures ∙ ap not w.if-is_none.true)) in
      ap numbers c.new-stacks.ensures.items
      ∙ (sym (above_absent c.args.stack.0 c.doc.inside.tree (ne_eqb c.args.stack.0 0 w.if-stack-eq0.false) gone)
      ∙ ap (λ d. damage.stacks_above d.nodes c.args.stack.0) c.doc.view_is)
]

pub returns : goal.returns
returns c =
    let there : is_some (node_of (find c.args.stack.0 c.doc.inside.tree)) ≡ true = sym (ap is_some c.find.ensures)
    ∙ (some-copied c.find.result ∙ (c.is_none.ensures ∙ ap not c.if-is_none.false)) in
    let known = above_known c.args.stack.0 c.doc.inside.tree c.ancestors-above.result
    (ne_eqb c.args.stack.0 0 c.if-stack-eq0.false) there c.ancestors-above.ensures in
    let all : c.loop-id.stacks.items ≡ c.ancestors-above.result = c.loop-id.invariant
    ∙ (take_all c.loop-id.id-index c.as_slice-id-items.result.now c.loop-id-test.false ∙ c.as_slice-id-items.ensures.ids) in
    ap numbers c.in_ok-push-2.ensures.items ∙ (numbers-last c.loop-id.stacks.items ∙ (ap (λ xs. numbers xs ++ 0 ∷ []) all
    ∙ (sym known ∙ ap (λ d. damage.stacks_above d.nodes c.args.stack.0) c.doc.view_is)))
