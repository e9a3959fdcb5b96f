-- What a tree keeps of its entries.
use Rattle.std.specs.Prelude.{◌≡◌, ℕ, ◌+◌, ◌≤◌, List, length}
use Rattle.std.specs.Vec.{vec_capacity}
use Rattle.std.specs.declared.vec.Vec.{Vec}
use Rattle.spec_document.specs.Forest.{ids, levels}
use Rattle.xl_tree.specs.declared.entries.NodeEntry.{NodeEntry}
use Rattle.xl_tree.specs.declared.index.Index.{Index}
use Rattle.xl_tree.specs.Flat.{flat, forest_of}
use Rattle.xl_tree.specs.Ids.{AreOwn}
use Rattle.xl_tree.specs.Index.{IsIndex}
use Rattle.spec_document.specs.declared.TheConstants.{MAX_NODES, MAX_DEPTH}

-- these are the entries of siblings at a level, in preorder, with all below them, within the limits
pub record AreSiblings {N : Type 0} (level : ℕ) (entries : List (NodeEntry N)) : Type 0 where
  pub flat_is : entries ≡ flat level (forest_of entries)
  pub few : length entries ≤ MAX_NODES
  pub low : level + levels (forest_of entries) ≤ MAX_DEPTH

-- the entries of a forest within the limits, each node with an id of its own, an index of them, and room for all that may come
pub record IsKept {N Z : Type 0} (entries : Vec (NodeEntry N) Z) (index : Index) : Type 0 where
  pub siblings : AreSiblings 0 entries.items
  pub own : AreOwn (ids (forest_of entries.items))
  pub room : MAX_NODES ≤ vec_capacity entries
  pub indexed : IsIndex index entries.items
