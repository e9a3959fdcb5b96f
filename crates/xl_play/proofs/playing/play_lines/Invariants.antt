use Rattle.std.proofs.Common.{map, string_bytes}
use Rattle.xl_filters.specs.Chests.{states_in}
use Rattle.xl_play.proofs.UnderWay.{IsUnderWay}
use Rattle.xl_play.proofs.playing.play_lines.Given as goal

abbrev pub invariant-loop-line : goal.invariant-loop-line
invariant-loop-line g l =
    IsUnderWay (map (λ b. (goal.PointFilter-dyn g (b.vtable, b.value)).state b.value) l.fn.boxes.items) l.fn.core l.fn.lines.items
    l.line-iterator.rest.items l.transcript.index (states_in (λ b. (goal.PointFilter-dyn g b).state b.1) l.desk.chest) l.core
    (string_bytes l.transcript.text)
