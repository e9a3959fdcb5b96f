use Rattle.std.proofs.Common.{◌≡◌, ◌++◌, take}
use Rattle.xl_fields.specs.Behind.{BeginsWith}
use Rattle.spec_props.specs.Layout.{list_bytes}
use Rattle.xl_props.proofs.write.put_kept.Given as goal

abbrev pub invariant-loop-property : goal.invariant-loop-property
invariant-loop-property l = record {
  ok : l.out.items ≡ l.initial.out.items ++ list_bytes (take l.property-index l.kept);
  front : BeginsWith l.out.items l.initial.out.items;
}
