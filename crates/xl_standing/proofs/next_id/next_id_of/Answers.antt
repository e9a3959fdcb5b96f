-- The next id is one above the greatest, and the nodes are numbered.
use Rattle.std.proofs.Common.{◌≡◌, ◌+◌, ◌<◌, arith, sym, ◌∙◌, ap, subst}
use Rattle.std.specs.Prelude.{max, fold}
use Rattle.std.specs.List.{AllByRecursion}
use Rattle.spec_damage.proofs.NewEdits.{next_above}
use Rattle.spec_document.specs.Ids.{next_id}
use Rattle.spec_document.specs.Limits.{IsDocument}
use Rattle.spec_document.specs.Forest.{ids}
use Rattle.xl_edit.proofs.Seen.{ids-nodes_of}
use Rattle.xl_doc.proofs.NextId.{next_small}
use Rattle.xl_standing.proofs.next_id.next_id_of.Goals as goal

greatest : (c : goal.After-greatest_id) → c.greatest_id.result ≡ fold max 0 (ids c.args.document.now.nodes)
greatest c = c.greatest_id.ensures
    ∙ (ap (fold max 0) (sym (ids-nodes_of c.document.inside.tree)) ∙ ap (λ d. fold max 0 (ids d.nodes)) c.document.view_is)

pub overflow_add-result : goal.overflow_add-result
overflow_add-result c = let small = next_small c.args.document.now c.requires in omega (arith, greatest c, small)

pub returns : goal.returns
returns c =
    let d = c.args.document.now in
    let small = next_small d c.requires in
    let is : c.greatest_id.result + 1 ≡ next_id d = omega (arith, greatest c) in
    record {
      next = is;
      another = omega (arith, greatest c, small);
      at = record {
        document = subst IsDocument c.document.view_is c.document.invariant.limits;
        positive = omega arith;
        below = subst (λ n. AllByRecursion (λ id. id < n) (ids d.nodes)) (sym is) (next_above d);
      };
    }
