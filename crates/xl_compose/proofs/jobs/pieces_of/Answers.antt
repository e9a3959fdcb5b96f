use Rattle.std.proofs.Common.{◌≡◌, ◌+◌, ◌≤◌, nat_eq, sym, ◌∙◌, ap, arith}
use Rattle.std.specs.Prelude.{Some, option_map}
use Rattle.std.specs.List.{AllByRecursion, IsDistinct}
use Rattle.spec_document.specs.Forest.{ids, stack_at}
use Rattle.xl_doc.specs.Nodes.{nodes_of}
use Rattle.xl_doc.proofs.NodesOf.{agrees_in, stack-nodes_of}
use Rattle.xl_compose.specs.Added.{AreAdded}
use Rattle.xl_compose.specs.JobScratch.{tile_band}
use Rattle.xl_compose.proofs.CleanGroups.{right_below}
use Rattle.xl_compose.proofs.JobPieces.{are_for}
use Rattle.xl_compose.proofs.LaidCosts.{stack_weighs}
use Rattle.xl_compose.proofs.Recomposed.{some_stack}
use Rattle.xl_compose.proofs.jobs.pieces_of.Goals as goal

pub unwrap-nodes-requires : goal.unwrap-nodes-requires
unwrap-nodes-requires g c =
    rw c.stack.ensures.value (some_stack c.args.node.0 c.doc.inside.tree (rw (← c.doc.view_is) at c.requires.stack))

pub add_stack-requires-clause-agree : goal.add_stack-requires-clause-agree
add_stack-requires-clause-agree g c =
    agrees_in c.args.node.0 c.doc.inside.tree c.unwrap-nodes.result c.doc.invariant.marks (sym c.stack.ensures.value
    ∙ c.unwrap-nodes.ensures)

pub returns-clause-made : goal.returns-clause-made
returns-clause-made g c =
    let d = c.args.doc.now in
    let stack = c.args.node.0 in
    let tree = c.doc.inside.tree in
    let s = c.unwrap-nodes.result in
    let pieces = c.add_stack.new.pieces.items in
    let deep = c.levels-levels.result + 2 in
    let is : stack_at stack tree ≡ Some s = sym c.stack.ensures.value ∙ c.unwrap-nodes.ensures in
    let nodes_is : d.nodes ≡ nodes_of tree = ap (λ d. d.nodes) (sym c.doc.view_is) in
    let stack_is : stack_at stack d.nodes ≡ Some (nodes_of s) = ap (stack_at stack) nodes_is
    ∙ (stack-nodes_of stack tree ∙ ap (option_map nodes_of) is) in
    let own : IsDistinct nat_eq (ids d.nodes) = rw (← c.doc.view_is) c.doc.invariant.limits.ids.distinct in
    let some : AllByRecursion (λ id. 1 ≤ id) (ids d.nodes) = rw (← c.doc.view_is) c.doc.invariant.limits.ids.positive in
    let right = right_below (g.K.CleanTiles.clean_tile c.args.clean.now) d c.args.at c.requires.clean own some stack
    (nodes_of s) stack_is in
    let added : AreAdded deep d.colours (tile_band d c.args.at) 0 (nodes_of s) c.new-pieces.result.items pieces =
    c.in_ok-add_stack.ensures.added deep d.colours (tile_band d c.args.at) (omega (arith, c.levels-levels.ensures.levels)) right in
    are_for deep d stack c.args.at (nodes_of s) c.new-pieces.result.items pieces c.new-pieces.ensures.items stack_is added

pub returns-clause-cost : goal.returns-clause-cost
returns-clause-cost g c =
    let d = c.args.doc.now in
    let stack = c.args.node.0 in
    let tree = c.doc.inside.tree in
    let s = c.unwrap-nodes.result in
    let is : stack_at stack tree ≡ Some s = sym c.stack.ensures.value ∙ c.unwrap-nodes.ensures in
    let nodes_is : d.nodes ≡ nodes_of tree = ap (λ d. d.nodes) (sym c.doc.view_is) in
    let stack_is : stack_at stack d.nodes ≡ Some (nodes_of s) = ap (stack_at stack) nodes_is
    ∙ (stack-nodes_of stack tree ∙ ap (option_map nodes_of) is) in
    stack_weighs (λ id. g.K.CleanTiles.clean_tile c.args.clean.now id c.args.at) d stack
    (nodes_of s) c.new-pieces.result.items c.add_stack.new.pieces.items c.new-pieces.ensures.items stack_is
    c.in_ok-add_stack.ensures.cost
