use Rattle.std.proofs.Common.{◌∙◌}
use Rattle.std.proofs.lemmas.List.{length-map}
use Rattle.xl_serve.proofs.Begun.{stands_none}
use Rattle.xl_serve.proofs.server.Server.new.Goals as goal

pub returns-in-Ok-clause-stands : goal.returns-in-Ok-clause-stands
returns-in-Ok-clause-stands g c =
    stands_none _ c.args.core.history c.in-Ok.parts.hearing _ c.in-Ok.parts.viewer.seen c.requires.fresh c.in-Ok.ensures.hearing
    (length-map c.in-Ok.parts.desks.items _ ∙ c.in-Ok.ensures.eight) c.in-Ok.ensures.full c.in-Ok.ensures.viewer
