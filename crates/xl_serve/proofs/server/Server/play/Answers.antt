use Rattle.std.proofs.Common.{◌<◌, refl, sym, subst}
use Rattle.std.specs.Prelude.{slice_index}
use Rattle.xl_filters.specs.Chests.{states_in}
use Rattle.xl_script.specs.Lines.{line_of}
use Rattle.xl_serve.proofs.Desks.{on_desk}
use Rattle.xl_serve.proofs.server.Server.play.Goals as goal

pub returns-clause-played : goal.returns-clause-played
returns-clause-played g c =
    let old = c.args.self.now in
    let lt = subst (λ n. c.args.session < n) (sym c.requires.desks) c.requires.session in
    on_desk (λ d. states_in (λ z. (goal.PointFilter-dyn g z).state z.1) d.chest) c.args.session (line_of c.args.line) old.core.history
    c.play_line.new.core.history old.hearing old.hearing old.seen _ old.desks.items _ old.viewer.seen old.viewer.seen
    c.index_mut-desk.result.now c.play_line.new.desk (slice_index old.seen c.args.session) c.play_line.new.seen c.in_ok-text.text.items lt
    c.index_mut-desk.ensures.value refl c.in_ok-text.ensures.played refl refl
