use Rattle.std.proofs.Common.{◌≡◌, ◌≤◌, ◌^◌, ◌-◌, List, [], map}
use Rattle.spec_document.specs.Document.{Document}
use Rattle.spec_filters.specs.declared.FilterState.{FilterState}
use Rattle.spec_serve.specs.Said.{told_text}
use Rattle.xl_filters.specs.Chests.{states_in}
use Rattle.xl_ports.specs.Source.{led_by}
use Rattle.xl_serve.specs.Played.{GoesOn}
use Rattle.xl_serve.specs.Serving.{now_of, Stands}
use Rattle.xl_serve.specs.Talking.{IsUnderWay}
use Rattle.xl_serve.proofs.talking.answer_all.Given as goal

abbrev pub invariant-loop-number : goal.invariant-loop-number
invariant-loop-number g l =
    GoesOn l.fn.server.core l.server.core
    × ((base : Document) (filters : List (List FilterState))
    → Stands base filters [] []
    (now_of l.fn.server.core.history l.fn.server.hearing l.fn.server.seen
    (map (λ d. states_in (λ z. (goal.PointFilter-dyn g z).state z.1) d.chest) l.fn.server.desks.items) l.fn.server.viewer.seen)
    → l.fn.out.items ≡ told_text base []
    → IsUnderWay g.K.Sink.held g.K.Sink.faults base filters (g.S.Source.left l.fn.source) l.fn.sink l.sink l.out.items l.number
    (led_by l.lines (g.S.Source.left l.source))
    (now_of l.server.core.history l.server.hearing l.server.seen
    (map (λ d. states_in (λ z. (goal.PointFilter-dyn g z).state z.1) d.chest) l.server.desks.items) l.server.viewer.seen))
    × (l.number ≤ 2 ^ 32 - 1)
    × (g.S.Source.faults l.source ≡ g.S.Source.faults l.fn.source)
