use Rattle.std.proofs.Common.{sym, ◌∙◌, ap, arith}
use Rattle.std.specs.Prelude.{not}
use Rattle.xl_ports.specs.Source.{led_by}
use Rattle.xl_lines.proofs.TooLong.{newline_far, no_newline, none_if}
use Rattle.xl_lines.proofs.lines.Lines.find_by_reading.Goals as goal

pub returns-then-clear-most-clause-cause : goal.returns-then-clear-most-clause-cause
returns-then-clear-most-clause-cause g c =
    let so_far = c.loop-place.invariant in (
      so_far.no_fault,
      no_newline c.loop-place.self-inside.ahead (g.S.Source.left c.loop-place.source)
          (led_by c.args.self.now (g.S.Source.left c.args.source.now)) c.args.most
          (so_far.unread ∙ ap (λ xs. led_by xs (g.S.Source.left c.args.source.now)) c.self.view_is)
          (sym so_far.place ∙ none_if c.loop-place.place (c.is_none.ensures ∙ ap not c.loop-place-test.true))
          (omega (arith, c.if-clear-most.true, c.len-clear.ensures)),
    )

pub returns-then-at-most-clause-cause : goal.returns-then-at-most-clause-cause
returns-then-at-most-clause-cause g c =
    let so_far = c.loop-place.invariant in (
      so_far.no_fault,
      newline_far c.loop-place.self-inside.ahead (g.S.Source.left c.loop-place.source)
          (led_by c.args.self.now (g.S.Source.left c.args.source.now)) c.args.most c.in-Some.at
          (so_far.unread ∙ ap (λ xs. led_by xs (g.S.Source.left c.args.source.now)) c.self.view_is)
          (sym so_far.place ∙ c.in-Some.is) c.if-at-most.true,
    )
