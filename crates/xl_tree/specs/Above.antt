-- The groups above an entry, by the entries before it.
use Rattle.std.specs.Prelude.{ℕ, min, nat_lt, List, [], ◌∷◌, ◌++◌, if◌then◌else◌}
use Rattle.xl_tree.specs.declared.entries.NodeEntry.{NodeEntry}

-- the lowest of a level and the levels of some entries
abbrev pub lowest : {N : Type 0} → List (NodeEntry N) → (level : ℕ) → ℕ
lowest [] level = level
lowest (e ∷ es) level = min e.level (lowest es level)

-- the ids of the groups, innermost first: each is less deep than all that follow it
abbrev pub groups_before : {N : Type 0} → List (NodeEntry N) → (level : ℕ) → List ℕ
groups_before [] level = []
groups_before (e ∷ es) level = groups_before es level ++ (if nat_lt e.level (lowest es level) then e.id ∷ [] else [])
