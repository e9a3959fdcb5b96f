use Rattle.std.proofs.Common.{◌≡◌, ℕ, ◌<◌, ◌≤◌, ◌^◌, [], length, map, drop}
use Rattle.std.specs.Prelude.{Some, slice_index_or}
use Rattle.std.specs.List.{AllByRecursion}
use Rattle.spec_script.specs.Script.{list_at}
use Rattle.xl_filters.specs.Chests.{states, states_of}
use Rattle.xl_serve.proofs.beginning.desks_of.Given as goal

abbrev pub invariant-loop-session : goal.invariant-loop-session
invariant-loop-session g l =
    AllByRecursion (λ boxes. length boxes.items < 2 ^ 32) l.chest.items
    × (l.chest.items ≡ drop l._session l.fn.chest.items)
    × (length l.desks.items ≡ l._session)
    × (l._session ≤ 8)
    × ((s : ℕ) → s < length l.desks.items → slice_index_or
    (map (λ d. states (λ s. (goal.PointFilter-dyn g (s.filter.vtable, s.filter.value)).state s.filter.value) d.chest) l.desks.items) s []
    ≡ map (λ x. Some x) (list_at (states_of (λ b. (goal.PointFilter-dyn g (b.vtable, b.value)).state b.value) l.fn.chest.items) s))
