-- Where ids stand among entries.
use Rattle.std.specs.Prelude.{◌≡◌, ℕ, ◌+◌, ◌<◌, ◌≤◌, ◌==◌, if◌then◌else◌, List, [], ◌∷◌, length, slice_index_or}
use Rattle.std.specs.Prelude.{Option, Some, None, option_map}
use Rattle.std.specs.List.{AllPairs}
use Rattle.std.specs.Vec.{vec_capacity}
use Rattle.std.specs.declared.vec.Vec.{Vec}
use Rattle.xl_tree.specs.declared.entries.NodeEntry.{NodeEntry}
use Rattle.xl_tree.specs.declared.index.Index.{Index}
use Rattle.xl_tree.specs.declared.index.IndexedId.{IndexedId}
use Rattle.spec_document.specs.declared.TheConstants.{MAX_NODES}

-- the place of the first entry with an id
abbrev pub place_in : {N : Type 0} → (id : ℕ) → List (NodeEntry N) → Option ℕ
place_in id [] = None
place_in id (e ∷ es) = if id == e.id then Some 0 else option_map (λ n. 1 + n) (place_in id es)

-- the place that an index tells for an id
abbrev pub place_at : List IndexedId → (id : ℕ) → Option ℕ
place_at [] id = None
place_at (p ∷ ps) id = if id == p.id then Some p.at else place_at ps id

-- the index tells of each id where it stands
abbrev pub IsIndex : {N : Type 0} → Index → List (NodeEntry N) → Type 0
IsIndex index entries = (id : ℕ) → place_at index id ≡ place_in id entries

-- the ids ascend, so none comes twice
abbrev pub IsAscending : List IndexedId → Type 0
IsAscending places = AllPairs (λ p q. p.id < q.id) places

-- there is room for the entries of any tree
abbrev pub HasRoom : {Z : Type 0} → Vec IndexedId Z → Type 0
HasRoom places = MAX_NODES ≤ vec_capacity places

-- the place at k is the id's
pub record HasPlace (id : ℕ) (places : List IndexedId) (k : ℕ) : Type 0 where
  pub within : k < length places
  pub place_is : (d : IndexedId) → place_at places id ≡ Some (slice_index_or places k d).at

-- the id has no place, and one belongs before that at k: the ids before k are lower, and those from k on are higher
pub record IsGap (id : ℕ) (places : List IndexedId) (k : ℕ) : Type 0 where
  pub within : k ≤ length places
  pub lower : (j : ℕ) (d : IndexedId) → j < k → (slice_index_or places j d).id < id
  pub higher : (j : ℕ) (d : IndexedId) → k ≤ j → j < length places → id < (slice_index_or places j d).id
