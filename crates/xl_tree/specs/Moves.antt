-- Entries that move.
use Rattle.std.specs.Prelude.{ℕ, ◌+◌, ◌-◌, ◌≤◌, List}
use Rattle.std.specs.List.{AllByRecursion}
use Rattle.spec_document.specs.declared.TheConstants.{MAX_DEPTH}
use Rattle.xl_tree.specs.declared.entries.NodeEntry.{NodeEntry}

-- an entry that moves with its stack from one level to another
abbrev pub shifted : {N : Type 0} → (from to : ℕ) → NodeEntry N → NodeEntry N
shifted from to e = record { id = e.id; level = (e.level - from) + to; group = e.group; node = e.node }

abbrev pub AreShallow : {N : Type 0} → List (NodeEntry N) → Type 0
AreShallow entries = AllByRecursion (λ e. e.level ≤ MAX_DEPTH) entries
