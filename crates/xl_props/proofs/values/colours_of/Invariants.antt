use Rattle.std.proofs.Common.{◌≡◌, map}
use Rattle.spec_document.specs.Rect.{count_from}
use Rattle.spec_props.specs.Meaning.{colour_number}
use Rattle.xl_props.specs.Props.{property}
use Rattle.xl_props.proofs.values.colours_of.Given as goal

abbrev pub invariant-loop-i : goal.invariant-loop-i
invariant-loop-i l = l.colours ≡ map (colour_number (property 0 0 l.payload)) (count_from 0 l.i)
