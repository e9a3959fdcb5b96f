use Rattle.std.proofs.Common.{◌≡◌, [], length, get_or, sym, ◌∙◌, ap, arith}
use Rattle.std.proofs.lemmas.List.{get_or_read}
use Rattle.xl_printed.specs.Merging.{Merging}
use Rattle.xl_printed.proofs.Merges.{counted_all, counted_not}
use Rattle.xl_printed.proofs.merging.Merging.has_all.Goals as goal

pub returns-then-self-session : goal.returns-then-self-session
returns-then-self-session c =
    let long : length c.args.self.now.nexts ≡ 8 = ap (λ (m : Merging). length m.nexts) (sym c.self.view_is) ∙ c.self.invariant in
    sym (counted_not c.args.self.now.nexts c.args.saves.now c.loop-session.session (omega arith) long c.requires (λ e.
    c.if-self-session.true (ap (λ (m : Merging). get_or m.nexts c.loop-session.session 0) c.self.view_is ∙ (e
    ∙ (ap length (sym (get_or_read c.args.saves.now c.loop-session.session c.index-saves-session.result (omega arith)
    c.index-saves-session.is [])) ∙ sym c.len.ensures)))))

pub returns : goal.returns
returns c =
    let long : length c.args.self.now.nexts ≡ 8 = ap (λ (m : Merging). length m.nexts) (sym c.self.view_is) ∙ c.self.invariant in
    sym (counted_all c.args.self.now.nexts c.args.saves.now c.loop-session.session c.loop-session.invariant long c.requires (omega arith))
