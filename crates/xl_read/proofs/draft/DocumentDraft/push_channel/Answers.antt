use Rattle.std.proofs.Common.{rules}
use Rattle.xl_read.proofs.Drafts.{channel_added}
use Rattle.xl_read.proofs.draft.DocumentDraft.push_channel.Goals as goal

pub invariant_of-self : goal.invariant_of-self
invariant_of-self c =
    channel_added c.self.inside.parts _ c.self.inside.area c.self.inside.kept_bytes c.canvas.result c.payload_bytes.result _ _
    c.args.channel c.self.invariant
    (search rules) (search rules) (search rules) (search rules) (search rules) (search rules) (search rules)
