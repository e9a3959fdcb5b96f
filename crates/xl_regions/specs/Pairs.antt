-- Pairs of a stack and a rectangle of its picture, as code lists them.
use Rattle.std.specs.Prelude.{◌≡◌, ℕ, not, List, ◌++◌, map, filter, flat_map}
use Rattle.spec_document.specs.declared.Rect.{Rect}
use Rattle.spec_document.specs.Rect.{is_empty}
use Rattle.spec_document.specs.Document.{Document}
use Rattle.spec_damage.specs.Damage.{Pair, cut, with_above}
use Rattle.xl_tree.specs.declared.naming.NodeId.{NodeId}

-- the ids as numbers
abbrev pub numbers : List NodeId → List ℕ
numbers ids = map (λ i. i.0) ids

-- the entries of a list as pairs
abbrev pub pairs_of : List (NodeId × Rect) → List Pair
pairs_of entries = map (λ e. record { stack = e.0.0; rect = e.1 }) entries

-- the same rectangle for each of these stacks
abbrev pub copies : Rect → (stacks : List ℕ) → List Pair
copies rect stacks = map (λ stack. record { stack = stack; rect = rect }) stacks

-- What pairs come to: cut to the canvas, empty ones left out, each with those for the stacks above behind it.
abbrev pub spread : (old new : Document) → List Pair → List Pair
spread old new ps = flat_map (with_above old new) (filter (λ p. not (is_empty p.rect)) (map (cut old) ps))

-- the list has these pairs more
abbrev pub Adds : (old new : List (NodeId × Rect)) → List Pair → Type 0
Adds old new more = pairs_of new ≡ pairs_of old ++ more
