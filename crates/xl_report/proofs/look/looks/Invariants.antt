use Rattle.std.proofs.Common.{◌≡◌, length}
use Rattle.std.specs.List.{AllByRecursion}
use Rattle.spec_generated.specs.Draws.{times}
use Rattle.spec_generated.specs.Generated.{look}
use Rattle.xl_report.specs.Drawing.{IsDrawn}
use Rattle.xl_report.specs.Looks.{IsLook}
use Rattle.xl_report.proofs.look.looks.Given as goal

-- the looks so far
abbrev pub invariant-loop-layer : goal.invariant-loop-layer
invariant-loop-layer l = record {
  drawn : IsDrawn (times l._layer look) l.fn.draws l.looks.items l.draws;
  many : length l.looks.items ≡ l._layer;
  each : AllByRecursion IsLook l.looks.items;
}
