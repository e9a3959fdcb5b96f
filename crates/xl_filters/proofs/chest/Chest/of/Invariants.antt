use Rattle.std.proofs.Common.{◌≡◌, ◌≤◌, ◌+◌, ◌++◌, length, map, Some}
use Rattle.std.specs.Prelude.{vec_capacity}
use Rattle.xl_filters.proofs.chest.Chest.of.Given as goal

abbrev pub invariant-loop-filter : goal.invariant-loop-filter
invariant-loop-filter g l = record {
  put : l.slots.items ++ map (λ b. Some (record { filter = b })) l.filter-iterator.rest.items
      ≡ map (λ b. Some (record { filter = b })) l.fn.boxes.items;
  capacity : length l.slots.items + length l.filter-iterator.rest.items ≤ vec_capacity l.slots;
}
