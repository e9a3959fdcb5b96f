-- Tiles are added column by column and row by row.
use Rattle.std.proofs.Common.{◌≡◌, ℕ, zero, suc, ◌+◌, Bool, true, false, List, [], ◌∷◌, ◌++◌, map, cond, sym, ap, ◌∙◌}
use Rattle.std.proofs.Common.{arith, append-nil, append_assoc}
use Rattle.std.specs.Prelude.{flat_map, filter}
use Rattle.std.proofs.lemmas.Grind.{flat_map-append}
use Rattle.std.proofs.lemmas.List.{map-append}
use Rattle.std.proofs.lemmas.List.Elements.{filter-append}
use Rattle.spec_document.specs.declared.Rect.{Rect}
use Rattle.spec_document.specs.declared.TileAt.{TileAt}
use Rattle.spec_document.specs.Rect.{count_from, do_meet}
use Rattle.spec_document.specs.Grid.{tile_rect, tiles_along}
use Rattle.xl_grid.specs.Covering.{row_of, rows_of}

suc_more : (n : ℕ) → suc n + 1 ≡ suc (n + 1)
suc_more n = omega arith

-- one number more
count_more : (first n : ℕ) → count_from first (n + 1) ≡ count_from first n ++ (first + n) ∷ []
count_more first zero = let e : first ≡ first + 0 = omega arith in ap (λ k. k ∷ []) e
count_more first (suc n) =
    let e : suc first + n ≡ first + suc n = omega arith in
    ap (count_from first) (suc_more n)
    ∙ ap (λ l. first ∷ l) (count_more (suc first) n ∙ ap (λ k. count_from (suc first) n ++ k ∷ []) e)

-- one number more, from 0 on
counted : (n : ℕ) → count_from 0 (n + 1) ≡ count_from 0 n ++ n ∷ []
counted n = let e : 0 + n ≡ n = omega arith in count_more 0 n ∙ ap (λ k. count_from 0 n ++ k ∷ []) e

abbrev pub at : (col row : ℕ) → TileAt
at col row = record { col = col; row = row }

pub column_more : (r : Rect) (w h row n : ℕ)
    → row_of r w h row (n + 1) ≡ row_of r w h row n ++ cond (do_meet r (tile_rect w h (at n row))) (at n row ∷ []) []
column_more r w h row n =
    let meets : TileAt → Bool = λ t. do_meet r (tile_rect w h t) in
    let of : ℕ → TileAt = λ col. at col row in
    ap (λ l. filter meets (map of l)) (counted n)
    ∙ (ap (filter meets) (map-append of (count_from 0 n) (n ∷ []))
    ∙ filter-append meets (map of (count_from 0 n)) (of n ∷ []))

pub column_in : (r : Rect) (w h row n : ℕ) (front list : List TileAt) → list ≡ front ++ row_of r w h row n
    → do_meet r (tile_rect w h (at n row)) ≡ true
    → list ++ at n row ∷ [] ≡ front ++ row_of r w h row (n + 1)
column_in r w h row n front list so_far meets =
    ap (λ l. l ++ at n row ∷ []) so_far
    ∙ (append_assoc front (row_of r w h row n) (at n row ∷ [])
    ∙ ap (λ l. front ++ l) (ap (λ b. row_of r w h row n ++ cond b (at n row ∷ []) []) (sym meets) ∙ sym (column_more r w h row n)))

pub column_out : (r : Rect) (w h row n : ℕ) (front list : List TileAt) → list ≡ front ++ row_of r w h row n
    → do_meet r (tile_rect w h (at n row)) ≡ false
    → list ≡ front ++ row_of r w h row (n + 1)
column_out r w h row n front list so_far apart =
    so_far
    ∙ ap (λ l. front ++ l) (sym (append-nil (row_of r w h row n))
    ∙ (ap (λ b. row_of r w h row n ++ cond b (at n row ∷ []) []) (sym apart) ∙ sym (column_more r w h row n)))

pub row_more : (r : Rect) (w h n : ℕ) → rows_of r w h (n + 1) ≡ rows_of r w h n ++ row_of r w h n (tiles_along w)
row_more r w h n =
    let meets : TileAt → Bool = λ t. do_meet r (tile_rect w h t) in
    let of : ℕ → List TileAt = λ row. map (λ col. at col row) (count_from 0 (tiles_along w)) in
    ap (λ l. filter meets (flat_map of l)) (counted n)
    ∙ (ap (filter meets) (flat_map-append of (count_from 0 n) (n ∷ [])
    ∙ ap (λ l. flat_map of (count_from 0 n) ++ l) (append-nil (of n)))
    ∙ filter-append meets (flat_map of (count_from 0 n)) (of n))
