use Rattle.std.proofs.Common.{◌<◌, List, length, None, refl, sym, ◌∙◌, ap, arith}
use Rattle.std.proofs.lemmas.Option.{slice_get_read}
use Rattle.spec_script.specs.Script.{Parsed, Session}
use Rattle.spec_serve.specs.Hearing.{without_group}
use Rattle.xl_script.proofs.Steps.{changed_there}
use Rattle.xl_script.proofs.sessions.Sessions.drop_group.Goals as goal

pub returns : goal.returns
returns c =
    let items = c.self.inside.items.items in
    let inside : c.args.session < length items = omega (arith, c.self.invariant.0, c.requires) in
    let there = slice_get_read items (length items) c.args.session c.index_mut.result.now refl inside c.index_mut.ensures.value in
    let P : List Session → Parsed = λ xs. record { sessions = xs; calls = c.self.inside.calls } in
    ap P (sym (changed_there c.args.session (λ s. record s { open_group = None }) c.index_mut.result.now c.drop_group.new.self items
    there c.drop_group.ensures))
    ∙ ap (without_group c.args.session) c.self.view_is
