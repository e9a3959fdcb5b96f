use Rattle.std.proofs.Common.{◌≡◌, ◌≤◌, ℕ, take}
use Rattle.std.specs.Vec.{vec_capacity, vec_len}
use Rattle.xl_tree.specs.Index.{IsAscending, place_at, place_in}
use Rattle.xl_tree.proofs.index.Index.renew.Given as goal
use Rattle.spec_document.specs.declared.TheConstants.{MAX_NODES}

abbrev pub invariant-loop-at : goal.invariant-loop-at
invariant-loop-at g l = record {
  told : (id : ℕ) → place_at l.self-inside.places.items id ≡ place_in id (take l.at l.entries);
  ascending : IsAscending l.self-inside.places.items;
  room : MAX_NODES ≤ vec_capacity l.self-inside.places;
  few : vec_len l.self-inside.places ≤ l.at;
}
