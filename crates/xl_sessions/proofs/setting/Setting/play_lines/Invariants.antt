use Rattle.std.proofs.Common.{◌+◌, ◌≤◌, length, map, string_bytes}
use Rattle.xl_filters.specs.Chests.{states_in}
use Rattle.xl_script.specs.Lines.{lines_of}
use Rattle.xl_sessions.specs.Full.{most_made}
use Rattle.xl_sessions.specs.Keeping.{KeepsSeat}
use Rattle.xl_studio.specs.Seats.{base_of, known_by, made_of}
use Rattle.xl_sessions.proofs.UnderWay.{IsUnderWay}
use Rattle.xl_sessions.proofs.setting.Setting.play_lines.Given as goal

abbrev pub invariant-loop-line : goal.invariant-loop-line
invariant-loop-line g l =
    KeepsSeat l.fn.self.studio.now l.fn.self.session l.fn.seat l.seat
    × IsUnderWay (base_of l.fn.self.studio.now) l.fn.self.session (states_in (λ b. (goal.PointFilter-dyn g b).state b.1) l.fn.desk.chest)
    (states_in (λ b. (goal.PointFilter-dyn g b).state b.1) l.desk.chest)
    (lines_of l.fn.lines.items) (lines_of l.line-iterator.rest.items) (known_by l.fn.seat) (known_by l.seat)
    (map string_bytes l.digests.items)
    × (length (made_of l.seat) + most_made (lines_of l.line-iterator.rest.items) ≤ most_made (lines_of l.fn.lines.items))
