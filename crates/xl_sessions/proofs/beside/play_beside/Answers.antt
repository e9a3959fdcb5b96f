use Rattle.std.proofs.Common.{sym, subst}
use Rattle.spec_run.specs.Fronts.{IsFrontOf}
use Rattle.spec_run.proofs.Fronts.{front_none}
use Rattle.xl_script.specs.Lines.{lists_of}
use Rattle.xl_sessions.proofs.Counts.{parts_few}
use Rattle.xl_sessions.proofs.beside.play_beside.Goals as goal

pub play_in-requires-clause-script : goal.play_in-requires-clause-script
play_in-requires-clause-script g c = λ κs within. (_, _, c.in-Ok.ensures.brought)

pub play_in-requires-clause-calls : goal.play_in-requires-clause-calls
play_in-requires-clause-calls g c = λ κs within.
    parts_few _ _ (lists_of c.args.script) c.in-Ok.room.parts.items c.in-Ok.ensures.brought c.requires.fits.few

pub returns-in-Ok-clause-text : goal.returns-in-Ok-clause-text
returns-in-Ok-clause-text g c = c.play_in.ensures.text _ _ c.in-Ok.ensures.brought

pub returns-in-Ok-clause-front : goal.returns-in-Ok-clause-front
returns-in-Ok-clause-front g c = c.play_in.ensures.front _ _ c.in-Ok.ensures.brought

pub returns-in-Err-clause-front : goal.returns-in-Err-clause-front
returns-in-Err-clause-front g c = subst (IsFrontOf _ _) (sym c.requires.fresh) (front_none _ _)
