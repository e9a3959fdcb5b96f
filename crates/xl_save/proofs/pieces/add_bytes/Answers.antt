use Rattle.std.proofs.Common.{refl}
use Rattle.std.proofs.lemmas.Result.{on_ok_weaker}
use Rattle.xl_ports.proofs.Moments.{quiet_quiet}
use Rattle.xl_save.proofs.Adding.{adds_more}
use Rattle.xl_save.proofs.pieces.add_bytes.Goals as goal

pub returns-clause-added : goal.returns-clause-added
returns-clause-added g c =
    on_ok_weaker c.add_all.result (adds_more _ _ _ _ _ _ refl c.in_ok-add_parts.ensures.added)
    c.add_all.ensures.added

pub returns-clause-quiet : goal.returns-clause-quiet
returns-clause-quiet g c = quiet_quiet _ _ _ c.add_parts.ensures.quiet c.add_all.ensures.quiet
