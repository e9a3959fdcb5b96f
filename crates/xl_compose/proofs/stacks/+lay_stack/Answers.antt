use Rattle.std.proofs.Common.{◌≡◌, ◌+◌, ◌*◌, length, ◌∙◌, ap, sym, arith}
use Rattle.std.proofs.lemmas.Nat.{mul-add-lt}
use Rattle.spec_document.specs.Picture.{laid, mode_above as mode_over}
use Rattle.spec_document.specs.Source.{faded}
use Rattle.xl_doc.specs.Nodes.{nodes_of}
use Rattle.xl_compose.specs.Cost.{visible_in}
use Rattle.xl_compose.proofs.Costs.{group_cost}
use Rattle.xl_compose.proofs.StackRows.{band_neat}
use Rattle.xl_compose.proofs.stacks.+lay_stack.Goals as goal

pub lay_layer-requires-clause-neat : goal.lay_layer-requires-clause-neat
lay_layer-requires-clause-neat g t c =
    band_neat c.args.colours.now c.args.band.x c.args.band.y c.args.band.w c.args.band.h
    (nodes_of c.in-Leaf.under) c.lay_stack-some_under.new.picture
    c.lay_stack-some_under.ensures.each

pub returns-else-not-node-2-clause-each : goal.returns-else-not-node-2-clause-each
returns-else-not-node-2-clause-each g t c =
    let under = c.lay_stack-some_under-in-Group in
    let node = c.in-Group.node.now in
    let w = c.args.band.w in
    let many : length under.new.picture ≡ c.args.band.h * w = under.ensures.length ∙ c.requires.picture in
    let mode = c.mode_above.ensures ∙ ap (λ some. mode_over some node.mode) under.ensures.any in
    rw (← c.in-Group.ensures.parts) (λ v k hv hk.
    c.lay_children.ensures.each (v * w + k) (omega (arith, many, mul-add-lt v w k c.args.band.h hv hk))
    ∙ (λ i. laid (sym c.if-not-node-2.false i) (mode i) (under.ensures.each v k hv hk i)
    (faded node.opacity (c.lay_stack.ensures.each v k hv hk i))))

pub returns-else-not-node-2-clause-cost : goal.returns-else-not-node-2-clause-cost
returns-else-not-node-2-clause-cost g t c =
    let under = c.lay_stack-some_under-in-Group in
    rw (← c.in-Group.ensures.parts)
    (group_cost c.args.steps.now under.new.steps c.lay_stack.new.steps c.lay_children.new.steps
    (visible_in (nodes_of c.in-Group.under)) (visible_in (nodes_of c.in-Group.children))
    (c.args.band.h * c.args.band.w) (length under.new.picture) c.in-Group.node.now.visible c.if-not-node-2.false (under.ensures.length
    ∙ c.requires.picture) under.ensures.cost c.lay_stack.ensures.cost
    c.lay_children.ensures.cost)
