use Rattle.std.proofs.Common.{refl, sym, ap}
use Rattle.xl_tree.specs.Reads.{node_of}
use Rattle.xl_tree.proofs.Placed.{nothing_placed}
use Rattle.xl_tree.proofs.forest.Tree.find_mut.Goals as goal

pub returns-in_err-at : goal.returns-in_err-at
returns-in_err-at g c =
    rw c.from_residual.ensures (
      refl,
      record {
        writes_back = tt;
        value =
            sym (ap node_of (nothing_placed c.args.id.0 c.args.self.now (sym c.in_err-at.ensures)));
      },
    )
