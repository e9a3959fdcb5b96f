-- A plane that was read has the sides and the bytes per pixel that it was read by.
use Rattle.std.proofs.Common.{◌≡◌, ℕ, ◌+◌, List}
use Rattle.std.specs.Prelude.{Ok}
use Rattle.spec_document.specs.Grid.{all_tiles}
use Rattle.spec_document.specs.Plane.{Plane}
use Rattle.spec_fields.specs.declared.Kind.TheVariants.{BadHierarchy}
use Rattle.spec_fields.proofs.Back.{bind_back}
use Rattle.spec_hierarchy.specs.Reading.{same_word_at, pointer_at, tiles_at, hierarchy_at}

pub sides : (file : List ℕ) (at width height bpp compression : ℕ) (p : Plane)
    → hierarchy_at file at width height bpp compression ≡ Ok p
    → (p.width ≡ width) × (p.height ≡ height) × (p.bpp ≡ bpp)
unfolding hierarchy_at
sides file at width height bpp compression p e =
    let a = bind_back (same_word_at file at width BadHierarchy) _ p e in
    let b = bind_back (same_word_at file (at + 4) height BadHierarchy) _ p a.2 in
    let c = bind_back (same_word_at file (at + 8) bpp BadHierarchy) _ p b.2 in
    let d = bind_back (pointer_at file (at + 12) BadHierarchy) _ p c.2 in
    let e = bind_back (same_word_at file d.0 width BadHierarchy) _ p d.2 in
    let f = bind_back (same_word_at file (d.0 + 4) height BadHierarchy) _ p e.2 in
    let g = bind_back (tiles_at (all_tiles width height) file (d.0 + 8) width height bpp compression) _ p f.2 in
    (cc, cc, cc)
