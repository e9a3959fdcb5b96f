use Rattle.std.proofs.Common.{refl, sym, ap}
use Rattle.std.specs.Prelude.{Some}
use Rattle.spec_document.specs.Forest.{none}
use Rattle.spec_document.specs.declared.Base.TheVariants.{Rgb}
use Rattle.xl_doc.specs.Nodes.{nodes_of}
use Rattle.xl_doc.specs.Sample.{hat}
use Rattle.xl_doc.proofs.Sample.{sample_sound}
use Rattle.document_rows.proofs.documents.document.Goals as goal

pub invariant_of-result : goal.invariant_of-result
invariant_of-result c =
    sample_sound none c.in_ok-tree.tree hat _ refl refl (ap Some (sym c.in_ok-tree.ensures))
    (λ i. record {
      width = 10;
      height = 10;
      base = Rgb;
      compression = 1;
      colours = c.new-colours.ensures i;
      kept = c.new-kept.ensures i;
      nodes = nodes_of c.in_ok-tree.tree;
      channels = c.in_ok-channels.ensures i;
      selection = Some (c.in_ok-blank.ensures i);
    })
