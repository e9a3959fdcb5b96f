use Rattle.std.proofs.Common.{refl, arith}
use Rattle.std.specs.Prelude.{None, []}
use Rattle.spec_document.specs.declared.Base.TheVariants.{Rgb}
use Rattle.xl_doc.specs.Nodes.{nodes_of}
use Rattle.xl_doc.proofs.Blank.{blank_sound}
use Rattle.picture_rows.proofs.blank.blank.Goals as goal

pub invariant_of-result : goal.invariant_of-result
invariant_of-result c =
    blank_sound c.in_ok-tree.tree _ 100 70 Rgb 0 [] c.in_ok-tree.ensures
    (λ i. record {
      width = 100;
      height = 70;
      base = Rgb;
      compression = 0;
      colours = c.new-colours.ensures i;
      kept = c.new-kept.ensures i;
      nodes = nodes_of c.in_ok-tree.tree;
      channels = c.in_ok-channels.ensures i;
      selection = None;
    })
    (omega arith, omega arith) (omega arith, omega arith) (omega arith) refl
