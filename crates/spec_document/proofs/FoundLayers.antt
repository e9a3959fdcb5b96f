-- What is found in nodes within the limits is within them: a layer, and what a group holds.
use Rattle.std.proofs.Common.{ℕ, eqb}
use Rattle.spec_document.specs.Forest.{Found, nothing, a_leaf, a_group, or_else, none, leaf, group, find}
use Rattle.spec_document.proofs.Changed.{either}
use Rattle.spec_document.specs.declared.Base.{Base}
use Rattle.spec_document.specs.Document.{Nodes, Layer, Group}
use Rattle.spec_document.specs.Limits.{AreNodes, IsLayer}

abbrev pub IsFound : Base → Found Layer Group → Type 0
IsFound base nothing = Unit {0}
IsFound base (a_leaf l) = IsLayer base l
IsFound base (a_group g c) = AreNodes base c

found_or_else : (base : Base) (x y : Found Layer Group) → IsFound base x → IsFound base y → IsFound base (or_else x y)
found_or_else base nothing y h k = k
found_or_else base (a_leaf l) y h k = h
found_or_else base (a_group g c) y h k = h

pub found_layer : (base : Base) (id : ℕ) (f : Nodes) → AreNodes base f → IsFound base (find id f)
found_layer base id none h = tt
found_layer base id (leaf i w u) h = either (IsFound base) (eqb id i) (a_leaf w) (find id u) h.0 (found_layer base id u h.1)
found_layer base id (group i w c u) h =
    either (IsFound base) (eqb id i) (a_group w c) (or_else (find id c) (find id u)) h.1.0
    (found_or_else base (find id c) (find id u) (found_layer base id c h.1.0) (found_layer base id u h.1.1))
