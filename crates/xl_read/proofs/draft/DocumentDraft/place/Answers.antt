use Rattle.std.proofs.Common.{rules}
use Rattle.xl_doc.specs.Nodes.{nodes_of}
use Rattle.xl_read.proofs.Drafts.{node_added}
use Rattle.xl_read.proofs.draft.DocumentDraft.place.Goals as goal

pub invariant_of-self : goal.invariant_of-self
invariant_of-self c =
    node_added c.self.inside.parts _
    (nodes_of c.put_last.new.tree) c.self.inside.area c.self.inside.kept_bytes c.body_area.result c.node_kept.result _ _
    c.args.path.now c.args.node c.self.invariant
    (search rules) (search rules) (search rules) (search rules) (search rules) (search rules) (search rules) (search rules)
