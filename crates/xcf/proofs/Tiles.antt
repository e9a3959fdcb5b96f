-- A tile that is on the canvas has pixels, and four bytes for each.
use Rattle.std.proofs.Common.{◌≡◌, ℕ, ◌+◌, ◌-◌, ◌*◌, ◌<◌, ◌≤◌, true, nat_lt, List, sym, ◌∙◌, subst, arith}
use Rattle.std.specs.Prelude.{◌/◌, min}
use Rattle.std.proofs.lemmas.Bool.{and_parts, ltb-true}
use Rattle.spec_document.specs.Document.{Document}
use Rattle.spec_document.specs.declared.TileAt.{TileAt}
use Rattle.spec_document.specs.declared.Rect.{Rect}
use Rattle.spec_document.specs.Grid.{is_on_grid, tile_rect, tiles_along}
use Rattle.spec_document.specs.Picture.{picture, project}
use Rattle.xl_compose.proofs.PictureBytes.{rect_length}
use Rattle.xcf.specs.TilePicture.{TilePicture, IsTilePicture, tile_picture}

some_pixels : (side at : ℕ) → at < (side + 63) / 64 → 1 ≤ min 64 (side - 64 * at)
some_pixels side at inside = omega (arith, inside)

pub has_pixels : (d : Document) (stack : ℕ) (at : TileAt) → is_on_grid d.width d.height at ≡ true
    → IsTilePicture (tile_picture d stack at)
has_pixels d stack at on =
    let both = and_parts (nat_lt at.col (tiles_along d.width)) (nat_lt at.row (tiles_along d.height)) on in
    let w = min 64 (d.width - 64 * at.col) in
    let h = min 64 (d.height - 64 * at.row) in
    record {
      columns = some_pixels d.width at.col (ltb-true at.col (tiles_along d.width) both.0);
      rows = some_pixels d.height at.row (ltb-true at.row (tiles_along d.height) both.1);
      width = omega arith;
      height = omega arith;
      bytes = rect_length (picture d stack) (64 * at.col) (64 * at.row) w h ∙ omega arith;
    }

-- a picture of the sides of the tile's rectangle, with these bytes
abbrev of_rect : Rect → List ℕ → TilePicture
of_rect rect bytes = record { width = rect.w; height = rect.h; bytes = bytes }

pub is_of_rect : (d : Document) (stack : ℕ) (at : TileAt) (rect : Rect) (bytes : List ℕ) → rect ≡ tile_rect d.width d.height at
    → bytes ≡ project d stack at → of_rect rect bytes ≡ tile_picture d stack at
is_of_rect d stack at rect bytes sides is = λ i. of_rect (sides i) (is i)

pub rect_has_pixels : (d : Document) (stack : ℕ) (at : TileAt) (rect : Rect) (bytes : List ℕ) → is_on_grid d.width d.height at ≡ true
    → rect ≡ tile_rect d.width d.height at → bytes ≡ project d stack at → IsTilePicture (of_rect rect bytes)
rect_has_pixels d stack at rect bytes on sides is =
    subst IsTilePicture (sym (is_of_rect d stack at rect bytes sides is)) (has_pixels d stack at on)
