use Rattle.std.proofs.Common.{◌<◌, List, [], length, refl, sym, ◌∙◌, ap, arith}
use Rattle.std.proofs.lemmas.Option.{slice_get_read}
use Rattle.spec_script.specs.Script.{Parsed, Session}
use Rattle.spec_serve.specs.Hearing.{emptied}
use Rattle.xl_script.proofs.Steps.{changed_there}
use Rattle.xl_script.proofs.sessions.Sessions.take_whole.Goals as goal

pub returns-clause-rest : goal.returns-clause-rest
returns-clause-rest c =
    let items = c.self.inside.items.items in
    let inside : c.args.session < length items = omega (arith, c.self.invariant.0, c.requires) in
    let there = slice_get_read items (length items) c.args.session c.index_mut.result.now refl inside c.index_mut.ensures.value in
    let P : List Session → Parsed = λ xs. record { sessions = xs; calls = 0 } in
    ap P (sym (changed_there c.args.session (λ s. record s { lines = [] }) c.index_mut.result.now c.take_whole.new.self items
    there c.take_whole.ensures.rest))
    ∙ ap (emptied c.args.session) c.self.view_is
