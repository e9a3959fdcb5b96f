-- The levels that the tree tells are those of the document's branch.
use Rattle.std.proofs.Common.{◌≡◌, ℕ, ◌≤◌, refl, sym, ◌∙◌, ap, subst, arith}
use Rattle.std.specs.Prelude.{None}
use Rattle.spec_document.specs.Forest.{levels, find}
use Rattle.spec_document.specs.Changes.{branch_of}
use Rattle.spec_document.proofs.Changed.{levels-branch_of}
use Rattle.spec_document.specs.Document.{Document}
use Rattle.spec_edit.specs.Refusal.{no_node}
use Rattle.xl_paint.proofs.Limited.{distinct_in}
use Rattle.xl_edit.proofs.NodesRestacked.{levels-branch-nodes_of, some_levels}
use Rattle.xl_edit.proofs.Stacks.{found_there}
use Rattle.xl_edit.proofs.restacking.levels_from.Goals as goal

pub returns-clause-value : goal.returns-clause-value
returns-clause-value c =
    let id = c.args.id.0 in
    let t = c.doc.inside.tree in
    c.levels.ensures
    ∙ (levels-branch-nodes_of id t (distinct_in t _ refl c.doc.invariant.limits)
    ∙ ap (λ (x : Document). levels (branch_of id x.nodes)) c.doc.view_is)

pub returns-clause-some : goal.returns-clause-some
returns-clause-some c =
    let id = c.args.id.0 in
    let t = c.doc.inside.tree in
    let P : Document → Type 0 = λ x. no_node x id ≡ None in
    let Q : ℕ → Type 0 = λ n. 1 ≤ n in
    subst Q (sym c.levels.ensures) (some_levels id (find id t)
    (found_there id t c.doc.invariant.marks (subst P (sym c.doc.view_is) c.requires.there)))

pub returns-clause-few : goal.returns-clause-few
returns-clause-few c =
    let id = c.args.id.0 in
    let t = c.doc.inside.tree in
    let value : c.levels.result ≡ levels (branch_of id c.args.doc.now.nodes) =
    c.levels.ensures
    ∙ (levels-branch-nodes_of id t (distinct_in t _ refl c.doc.invariant.limits)
    ∙ ap (λ (x : Document). levels (branch_of id x.nodes)) c.doc.view_is) in
    omega (arith, value, levels-branch_of id c.args.doc.now.nodes, c.know_limits.ensures.low)
