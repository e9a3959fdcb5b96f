use Rattle.std.proofs.Common.{map, string_bytes}
use Rattle.xl_filters.specs.Chests.{states_in}
use Rattle.xl_play.proofs.ViewUnderWay.{IsViewUnderWay}
use Rattle.xl_play.proofs.viewing.Viewing.view_lines.Given as goal

abbrev pub invariant-loop-line : goal.invariant-loop-line
invariant-loop-line g l =
    IsViewUnderWay (map (λ b. (goal.PointFilter-dyn g (b.vtable, b.value)).state b.value) l.fn.boxes.items) l.fn.core l.fn.lines.items
    l.line-iterator.rest.items l.self.cols l.self.rows l.transcript.index (states_in (λ b. (goal.PointFilter-dyn g b).state b.1) l.desk.chest) l.core
    l.viewer.seen (string_bytes l.transcript.text)
