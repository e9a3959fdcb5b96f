-- Rows that were laid over others or faded, by their length and pixel by pixel.
use Rattle.std.proofs.Common.{◌≡◌, ℕ, ◌<◌, List, [], ◌∷◌, length, map, get_or, refl, ap, ◌∙◌, arith}
use Rattle.std.specs.List.{zip}
use Rattle.std.proofs.lemmas.List.{length-map, get_or-map}
use Rattle.std.proofs.lemmas.Slice.Zip.{length-zip, get_or-zip}
use Rattle.spec_document.specs.declared.Mode.{Mode}
use Rattle.spec_document.specs.declared.Pixel.{Pixel}
use Rattle.spec_document.specs.Blend.{mul}
use Rattle.spec_document.specs.Over.{over}
use Rattle.xl_blend.specs.Rows.{over_rows, faded, faded_row, faded_row_by}

length-zipped : {A B C : Type 0} (g : A × B → C) (xs : List A) (ys : List B) → length xs ≡ length ys
    → length (map g (zip xs ys)) ≡ length xs
length-zipped g xs ys same = length-map (zip xs ys) g ∙ (length-zip xs ys ∙ omega arith)

zipped-at : {A B C : Type 0} (g : A × B → C) (xs : List A) (ys : List B) (k : ℕ) (x : A) (y : B) (d : C) → length xs ≡ length ys
    → k < length xs
    → get_or (map g (zip xs ys)) k d ≡ g (get_or xs k x, get_or ys k y)
zipped-at g xs ys k x y d same within =
    let long : k < length (zip xs ys) = omega (arith, length-zip xs ys) in
    get_or-map g (zip xs ys) k (x, y) d long ∙ ap g (get_or-zip xs ys k (x, y) within (omega arith))

pub length-over_rows : (mode : Mode) (below above : List Pixel) → length below ≡ length above
    → length (over_rows mode below above) ≡ length below
length-over_rows mode below above same = length-zipped (λ (p : Pixel × Pixel). over mode p.0 p.1) below above same

pub over_rows-at : (mode : Mode) (below above : List Pixel) (k : ℕ) (x y d : Pixel) → length below ≡ length above → k < length below
    → get_or (over_rows mode below above) k d ≡ over mode (get_or below k x) (get_or above k y)
over_rows-at mode below above k x y d same within =
    zipped-at (λ (p : Pixel × Pixel). over mode p.0 p.1) below above k x y d same within

pub length-faded_row : (part : ℕ) (row : List Pixel) → length (faded_row part row) ≡ length row
length-faded_row part row = length-map row (faded part)

pub faded_row-at : (part : ℕ) (row : List Pixel) (k : ℕ) (x d : Pixel) → k < length row
    → get_or (faded_row part row) k d ≡ faded part (get_or row k x)
faded_row-at part row k x d within = get_or-map (faded part) row k x d within

pub length-faded_row_by : (parts : List ℕ) (row : List Pixel) → length row ≡ length parts
    → length (faded_row_by parts row) ≡ length row
length-faded_row_by parts row same = length-zipped (λ (p : Pixel × ℕ). faded p.1 p.0) row parts same

pub faded_row_by-at : (parts : List ℕ) (row : List Pixel) (k : ℕ) (x : Pixel) (y : ℕ) (d : Pixel) → length row ≡ length parts
    → k < length row
    → get_or (faded_row_by parts row) k d ≡ faded (get_or parts k y) (get_or row k x)
faded_row_by-at parts row k x y d same within = zipped-at (λ (p : Pixel × ℕ). faded p.1 p.0) row parts k x y d same within

-- the whole alpha stays
pub faded-whole : (p : Pixel) → faded 255 p ≡ p
faded-whole p =
    let whole : mul p.a 255 ≡ p.a = omega arith in
    rw whole refl

pub faded_row-whole : (row : List Pixel) → faded_row 255 row ≡ row
faded_row-whole [] = refl
faded_row-whole (p ∷ row) = rw (faded-whole p) (ap (λ rest. p ∷ rest) (faded_row-whole row))
