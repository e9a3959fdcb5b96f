-- Answers of the code as the plain cache has them.
use Rattle.std.specs.Prelude.{ℕ, List}
use Rattle.std.specs.Borrow.{Bor}
use Rattle.spec_document.specs.declared.TileAt.{TileAt}
use Rattle.spec_cache.specs.Slots.{Shown}
use Rattle.spec_cache.specs.Cache.{Place}
use Rattle.xl_tree.specs.declared.naming.NodeId.{NodeId}

-- a version with a picture
abbrev pub shown_of : ℕ × Bor (List ℕ) → Shown
shown_of p = record { version = p.0; picture = p.1.now }

-- a tile of a stack
abbrev pub place : NodeId × TileAt → Place
place p = record { stack = p.0.0; at = p.1 }
