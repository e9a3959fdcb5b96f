-- The last of the trail is the top.
use Rattle.std.proofs.Common.{◌∙◌, ap}
use Rattle.spec_standing.specs.Now.{Now, top_of}
use Rattle.xl_standing.proofs.Trails.{top-is}
use Rattle.xl_standing.proofs.standing.Standing.top.Goals as goal

pub returns : goal.returns
returns c = c.top.ensures ∙ (top-is c.self.inside.undo ∙ ap (λ (n : Now). top_of n.undo) c.self.view_is)
