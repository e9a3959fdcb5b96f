use Rattle.std.proofs.Common.{◌∙◌}
use Rattle.std.specs.Prelude.{None}
use Rattle.spec_document.specs.declared.Base.TheVariants.{Rgb}
use Rattle.xl_doc.specs.Nodes.{nodes_of}
use Rattle.xl_report.proofs.MadeTrees.{made_is, made_sound}
use Rattle.xl_report.proofs.made_document.document_with.Goals as goal

pub invariant_of-result : goal.invariant_of-result
invariant_of-result c =
    made_sound c.args.looks.now c.in_ok-tree.tree _ c.requires.eight c.requires.looks c.in_ok-tree.ensures
    (λ i. record {
      width = 1024;
      height = 768;
      base = Rgb;
      compression = 1;
      colours = c.new-colours.ensures i;
      kept = c.new-kept.ensures i;
      nodes = nodes_of c.in_ok-tree.tree;
      channels = c.in_ok-channels.ensures i;
      selection = None;
    })

pub returns : goal.returns
returns c =
    (λ i. record {
      width = 1024;
      height = 768;
      base = Rgb;
      compression = 1;
      colours = c.new-colours.ensures i;
      kept = c.new-kept.ensures i;
      nodes = nodes_of c.in_ok-tree.tree;
      channels = c.in_ok-channels.ensures i;
      selection = None;
    })
    ∙ made_is c.args.looks.now c.in_ok-tree.tree c.requires.eight c.in_ok-tree.ensures
