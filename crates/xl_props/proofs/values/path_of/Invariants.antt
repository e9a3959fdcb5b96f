use Rattle.std.proofs.Common.{◌≡◌, map}
use Rattle.spec_document.specs.Rect.{count_from}
use Rattle.spec_props.specs.Meaning.{payload_word}
use Rattle.xl_props.specs.Props.{property}
use Rattle.xl_props.proofs.values.path_of.Given as goal

abbrev pub invariant-loop-i : goal.invariant-loop-i
invariant-loop-i l = l.path ≡ map (payload_word (property 0 0 l.payload)) (count_from 0 l.i)
