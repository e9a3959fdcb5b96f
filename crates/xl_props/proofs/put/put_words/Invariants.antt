use Rattle.std.proofs.Common.{◌≡◌, ◌++◌, take}
use Rattle.xl_fields.specs.Behind.{BeginsWith}
use Rattle.spec_props.specs.Layout.{path_bytes as words}
use Rattle.xl_props.proofs.put.put_words.Given as goal

abbrev pub invariant-loop-value : goal.invariant-loop-value
invariant-loop-value l = record {
  ok : l.out.items ≡ l.initial.out.items ++ words (take l.value-index l.values);
  front : BeginsWith l.out.items l.initial.out.items;
}
