-- Rows of pixels, laid over one another and faded.
use Rattle.std.specs.Prelude.{ℕ, List, ◌++◌, map, take, drop}
use Rattle.std.specs.List.{zip}
use Rattle.spec_document.specs.declared.Mode.{Mode}
use Rattle.spec_document.specs.declared.Pixel.{Pixel}
use Rattle.spec_document.specs.Blend.{mul, blend}
use Rattle.spec_document.specs.Over.{over, over_blended, mean}

-- each pixel of a row laid over the pixel below it
abbrev pub over_rows : Mode → (below above : List Pixel) → List Pixel
over_rows mode below above = map (λ (p : Pixel × Pixel). over mode p.0 p.1) (zip below above)

-- the same where the mode is not the normal one
abbrev pub blended_rows : Mode → (below above : List Pixel) → List Pixel
blended_rows mode below above = map (λ (p : Pixel × Pixel). over_blended mode p.0 p.1) (zip below above)

-- a pixel in a mode over one that is opaque, whatever alpha that one has
abbrev pub over_opaque : Mode → (below above : Pixel) → Pixel
over_opaque mode below above = record {
  r = mean 255 above.a (blend mode below.r above.r) below.r;
  g = mean 255 above.a (blend mode below.g above.g) below.g;
  b = mean 255 above.a (blend mode below.b above.b) below.b;
  a = 255;
}

-- each pixel of a row over one that is opaque
abbrev pub opaque_rows : Mode → (below above : List Pixel) → List Pixel
opaque_rows mode below above = map (λ (p : Pixel × Pixel). over_opaque mode p.0 p.1) (zip below above)

-- a row whose first elements are done, when the others will be
unfoldable pub so_far : {A B : Type 0} → (A × B → A) → (done : ℕ) → (row : List A) → (other : List B) → List A
so_far g done row other = take done row ++ map g (zip (drop done row) (drop done other))

-- the same for a row that is laid over an opaque one
abbrev pub opaque_so_far : Mode → (done : ℕ) → (below above : List Pixel) → List Pixel
opaque_so_far mode done below above = so_far (λ (p : Pixel × Pixel). over_opaque mode p.0 p.1) done below above

-- the same pixel with a part of its alpha
abbrev pub faded : (part : ℕ) → Pixel → Pixel
faded part p = record { r = p.r; g = p.g; b = p.b; a = mul p.a part }

-- a row of which each pixel has the same part of its alpha
abbrev pub faded_row : (part : ℕ) → List Pixel → List Pixel
faded_row part row = map (faded part) row

-- a row of which each pixel has a part of its own of its alpha
abbrev pub faded_row_by : (parts : List ℕ) → List Pixel → List Pixel
faded_row_by parts row = map (λ (p : Pixel × ℕ). faded p.1 p.0) (zip row parts)
