use Rattle.std.specs.Prelude.{None}
use Rattle.spec_document.specs.declared.Base.TheVariants.{Rgb}
use Rattle.xl_doc.specs.Nodes.{nodes_of}
use Rattle.xl_compose.proofs.SampleSound.{sample_sound}
use Rattle.picture_rows.proofs.jobs.document.Goals as goal

pub invariant_of-result : goal.invariant_of-result
invariant_of-result c =
    sample_sound c.in_ok-tree.tree _ c.in_ok-tree.ensures
    (λ i. record {
      width = 5;
      height = 4;
      base = Rgb;
      compression = 0;
      colours = c.new-colours.ensures i;
      kept = c.new-kept.ensures i;
      nodes = nodes_of c.in_ok-tree.tree;
      channels = c.in_ok-channels.ensures i;
      selection = None;
    })
