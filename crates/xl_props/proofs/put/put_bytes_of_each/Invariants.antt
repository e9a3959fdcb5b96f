use Rattle.std.proofs.Common.{◌≡◌, ◌++◌, take}
use Rattle.xl_fields.specs.Behind.{BeginsWith}
use Rattle.spec_props.specs.Layout.{all_colours}
use Rattle.xl_props.proofs.put.put_bytes_of_each.Given as goal

abbrev pub invariant-loop-colour : goal.invariant-loop-colour
invariant-loop-colour l = record {
  ok : l.out.items ≡ l.initial.out.items ++ all_colours (take l.colour-index l.colours);
  front : BeginsWith l.out.items l.initial.out.items;
}
