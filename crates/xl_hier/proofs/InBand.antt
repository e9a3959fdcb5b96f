-- The tiles of a band are read one after another.
use Rattle.std.proofs.Common.{◌≡◌, ℕ, zero, suc, ◌+◌, ◌-◌, ◌*◌, ◌<◌, min, List, [], ◌∷◌, ◌++◌, length, drop}
use Rattle.std.proofs.Common.{map, get_or, refl, sym, ap, ◌∙◌, arith, inl, inr, length-append, append-nil}
use Rattle.std.proofs.Common.{drop-cons, append_assoc}
use Rattle.std.specs.Prelude.{Ok, Err}
use Rattle.std.specs.List.{AllByRecursion}
use Rattle.std.proofs.lemmas.Bool.{cases_lt}
use Rattle.std.proofs.lemmas.List.{get_or_append_left, get_or-append-add, drop_all}
use Rattle.spec_document.specs.Limits.{AreBytes}
use Rattle.spec_fields.proofs.All.{all_append}
use Rattle.xl_fields.specs.Gives.{Gives}
use Rattle.xl_fields.specs.declared.refusal.ReadRefusedOrMemory.{ReadRefusedOrMemory}
use Rattle.xl_fields.specs.declared.refusal.ReadRefusedOrMemory.TheVariants.{Memory, Refused}
use Rattle.spec_document.specs.declared.TileAt.{TileAt}
use Rattle.spec_document.specs.Rect.{count_from}
use Rattle.spec_document.specs.Grid.{tiles_along}
use Rattle.spec_fields.specs.declared.Kind.TheVariants.{BadHierarchy}
use Rattle.spec_fields.specs.declared.ReadRefused.{ReadRefused}
use Rattle.spec_fields.specs.Reading.{Read, ◌>>=◌}
use Rattle.spec_hierarchy.specs.Tiles.{tile_width, tile_height}
use Rattle.spec_hierarchy.specs.Reading.{pointer_at, tile_at, tiles_at}
use Rattle.xl_hier.specs.declared.frame.Frame.{Frame}
use Rattle.xl_tiles.specs.Behind.{behind}
use Rattle.xl_hier.specs.Bands.{row_tiles, band_at, tile_size, BandRead}
use Rattle.xl_tiles.proofs.Decoded.{behind-behind, one_behind}

abbrev tile : (col row : ℕ) → TileAt
tile col row = record { col = col; row = row }

length_counted : (g : ℕ → TileAt) (first n : ℕ) → length (map g (count_from first n)) ≡ n
length_counted g first zero = refl
length_counted g first (suc n) = omega (arith, length_counted g (suc first) n)

counted : (g : ℕ → TileAt) (d : TileAt) (first n i : ℕ) → i < n → get_or (map g (count_from first n)) i d ≡ g (first + i)
counted g d first zero i h = absurd (omega (arith, h))
counted g d first (suc n) zero h = let start : first ≡ first + 0 = omega arith in ap g start
counted g d first (suc n) (suc i) h =
    let start : suc first + i ≡ first + suc i = omega arith in counted g d (suc first) n i (omega (arith, h)) ∙ ap g start

pub length_of_row : (w row : ℕ) → length (row_tiles w row) ≡ tiles_along w
length_of_row w row = length_counted (λ col. tile col row) 0 (tiles_along w)

-- the tiles of a row from one on
next_tile : (w col row : ℕ) → col < tiles_along w
    → drop col (row_tiles w row) ≡ tile col row ∷ drop (col + 1) (row_tiles w row)
next_tile w col row hc =
    let within : col < length (row_tiles w row) = omega (arith, length_of_row w row, hc) in
    let step : suc col ≡ col + 1 = omega arith in
    let here : 0 + col ≡ col = omega arith in
    let it : get_or (row_tiles w row) col (tile 0 0) ≡ tile col row =
    counted (λ c. tile c row) (tile 0 0) 0 (tiles_along w) col hc ∙ ap (λ c. tile c row) here in
    drop-cons (row_tiles w row) col (tile 0 0) within ∙ (λ i. it i ∷ drop (step i) (row_tiles w row))

-- what is read of a tile and the tiles behind it
abbrev from_pointer : (ts : List TileAt) (file : List ℕ) (at : ℕ) (f : Frame) (t : TileAt) (pointer : ℕ) → Read (List (List ℕ))
from_pointer ts file at f t pointer = do
  tile ← tile_at file pointer (tile_width f.width t * tile_height f.height t) f.bpp f.compression
  rest ← tiles_at ts file (at + 4) f.width f.height f.bpp f.compression
  Ok (tile ∷ rest)

first_of : (ts : List TileAt) (file : List ℕ) (at : ℕ) (f : Frame) (t : TileAt)
    → tiles_at (t ∷ ts) file at f.width f.height f.bpp f.compression
    ≡ (pointer_at file at BadHierarchy >>= from_pointer ts file at f t)
unfolding tiles_at
first_of ts file at f t = refl

-- the first col tiles of the row are read, and appended
pub record InBand (file : List ℕ) (first : ℕ) (f : Frame) (row col : ℕ) (old tiles : List (List ℕ)) : Type 0 where
  pub band : List (List ℕ)
  pub count : length band ≡ col
  pub reads : band_at file first f row ≡ behind band
      (tiles_at (drop col (row_tiles f.width row)) file (first + 4 * (row * tiles_along f.width + col)) f.width f.height f.bpp
      f.compression)
  pub sizes : (c : ℕ) → c < col → length (get_or band c []) ≡ tile_size f c row
  pub bytes : AllByRecursion AreBytes band
  pub appended : tiles ≡ old ++ band

-- the next tile is still to be read
to_read : {file : List ℕ} {first : ℕ} {f : Frame} {row col : ℕ} {old tiles : List (List ℕ)}
    → (so_far : InBand file first f row col old tiles) → col < tiles_along f.width
    → band_at file first f row ≡ behind so_far.band (pointer_at file (first + 4 * (row * tiles_along f.width + col)) BadHierarchy
    >>= from_pointer (drop (col + 1) (row_tiles f.width row)) file (first + 4 * (row * tiles_along f.width + col)) f (tile col row))
to_read {file = file} {first = first} {f = f} {row = row} {col = col} so_far hc =
    let at = first + 4 * (row * tiles_along f.width + col) in
    so_far.reads
    ∙ (ap (λ ts. behind so_far.band (tiles_at ts file at f.width f.height f.bpp f.compression)) (next_tile f.width col row hc)
    ∙ ap (behind so_far.band) (first_of (drop (col + 1) (row_tiles f.width row)) file at f (tile col row)))

pub no_pointer : {file : List ℕ} {first : ℕ} {f : Frame} {row col : ℕ} {old tiles : List (List ℕ)} {e : ReadRefused}
    → InBand file first f row col old tiles → col < tiles_along f.width
    → pointer_at file (first + 4 * (row * tiles_along f.width + col)) BadHierarchy ≡ Err e → band_at file first f row ≡ Err e
no_pointer {file = file} {first = first} {f = f} {row = row} {col = col} so_far hc h =
    to_read so_far hc ∙ ap (λ r. behind so_far.band
    (r >>= from_pointer (drop (col + 1) (row_tiles f.width row)) file
    (first + 4 * (row * tiles_along f.width + col)) f (tile col row))) h

pub no_tile : {file : List ℕ} {first : ℕ} {f : Frame} {row col : ℕ} {old tiles : List (List ℕ)} {e : ReadRefused}
    → InBand file first f row col old tiles → col < tiles_along f.width → (pointer : ℕ)
    → pointer_at file (first + 4 * (row * tiles_along f.width + col)) BadHierarchy ≡ Ok pointer
    → tile_at file pointer (tile_width f.width (tile col row) * tile_height f.height (tile col row)) f.bpp f.compression ≡ Err e
    → band_at file first f row ≡ Err e
no_tile {file = file} {first = first} {f = f} {row = row} {col = col} so_far hc pointer h none =
    let at = first + 4 * (row * tiles_along f.width + col) in
    let ts = drop (col + 1) (row_tiles f.width row) in
    to_read so_far hc
    ∙ (ap (λ r. behind so_far.band (r >>= from_pointer ts file at f (tile col row))) h
    ∙ ap (λ r. behind so_far.band (r >>= (λ tile.
    tiles_at ts file (at + 4) f.width f.height f.bpp f.compression >>= (λ rest. Ok (tile ∷ rest))))) none)

-- the fault of a tile is that of its band
pub tile_fault : {file : List ℕ} {first : ℕ} {f : Frame} {row col : ℕ} {old tiles : List (List ℕ)}
    → InBand file first f row col old tiles → col < tiles_along f.width → (pointer : ℕ)
    → pointer_at file (first + 4 * (row * tiles_along f.width + col)) BadHierarchy ≡ Ok pointer
    → (e : ReadRefusedOrMemory) → Gives {A =
    List ℕ} (Err e) (tile_at file pointer
    (tile_width f.width (tile col row) * tile_height f.height (tile col row)) f.bpp f.compression)
    → (now : List (List ℕ)) → BandRead file first f row old now (Err e)
tile_fault so_far hc pointer h Memory gives now = tt
tile_fault so_far hc pointer h (Refused e) gives now = no_tile so_far hc pointer h gives

pub tile_more : {file : List ℕ} {first : ℕ} {f : Frame} {row col : ℕ} {old tiles : List (List ℕ)}
    → InBand file first f row col old tiles → col < tiles_along f.width → (pointer : ℕ)
    → pointer_at file (first + 4 * (row * tiles_along f.width + col)) BadHierarchy ≡ Ok pointer
    → (bytes : List ℕ) → tile_at file pointer
    (tile_width f.width (tile col row) * tile_height f.height (tile col row)) f.bpp f.compression ≡ Ok bytes
    → length bytes ≡ tile_width f.width (tile col row) * tile_height f.height (tile col row) * f.bpp → AreBytes bytes
    → (next : List (List ℕ)) → next ≡ tiles ++ bytes ∷ [] → InBand file first f row (col + 1) old next
tile_more {file = file} {first = first} {f = f} {row = row} {col = col} {old = old} so_far hc pointer h bytes read size below next is =
    let band = so_far.band in
    let at = first + 4 * (row * tiles_along f.width + col) in
    let ts = drop (col + 1) (row_tiles f.width row) in
    let onto : at + 4 ≡ first + 4 * (row * tiles_along f.width + (col + 1)) = omega arith in
    record {
      band = band ++ bytes ∷ [];
      count = omega (arith, length-append band (bytes ∷ []), so_far.count);
      reads = to_read so_far hc
          ∙ (ap (λ r. behind band (r >>= from_pointer ts file at f (tile col row))) h
          ∙ (ap (λ r. behind band (r >>=
          (λ tile. tiles_at ts file (at + 4) f.width f.height f.bpp f.compression >>= (λ rest. Ok (tile ∷ rest))))) read
          ∙ (ap (behind band) (one_behind bytes (tiles_at ts file (at + 4) f.width f.height f.bpp f.compression))
          ∙ (behind-behind band (bytes ∷ []) (tiles_at ts file (at + 4) f.width f.height f.bpp f.compression)
          ∙ ap (λ n. behind (band ++ bytes ∷ []) (tiles_at ts file n f.width f.height f.bpp f.compression)) onto))));
      sizes = λ c before.
          elim (cases_lt c col) [
            | inl earlier ↦ ap length (get_or_append_left band (bytes ∷ []) [] c (omega (arith, earlier, so_far.count)))
                ∙ so_far.sizes c earlier
            | inr last ↦
                let cols : c ≡ col = omega (arith, last, before) in
                let place : c ≡ length band + 0 = omega (arith, cols, so_far.count) in
                ap (λ n. length (get_or (band ++ bytes ∷ []) n [])) place
                ∙ (ap length (get_or-append-add band (bytes ∷ []) 0 [])
                ∙ (size ∙ (λ i. min 64 (f.width - 64 * sym cols i) * min 64 (f.height - 64 * row) * f.bpp)))
          ];
      bytes = all_append AreBytes band (bytes ∷ []) so_far.bytes (below, tt);
      appended = is ∙ (ap (λ xs. xs ++ bytes ∷ []) so_far.appended ∙ append_assoc old band (bytes ∷ []));
    }

none_behind : (r : Read (List (List ℕ))) → r ≡ behind [] r
none_behind (Ok x) = refl
none_behind (Err e) = refl

none_dropped : (ts : List TileAt) → ts ≡ drop 0 ts
none_dropped [] = refl
none_dropped (t ∷ ts) = refl

-- no tile of the row is read yet
pub none_in_band : (file : List ℕ) (first : ℕ) (f : Frame) (row : ℕ) (old : List (List ℕ)) → InBand file first f row 0 old old
none_in_band file first f row old =
    let start : first + 4 * (row * tiles_along f.width) ≡ first + 4 * (row * tiles_along f.width + 0) = omega arith in
    record {
      band = [];
      count = refl;
      reads = (λ i. tiles_at (none_dropped (row_tiles f.width row) i) file (start i) f.width f.height f.bpp f.compression)
          ∙ none_behind (tiles_at (drop 0 (row_tiles f.width row)) file
          (first + 4 * (row * tiles_along f.width + 0)) f.width f.height f.bpp f.compression);
      sizes = λ c before. absurd (omega (arith, before));
      bytes = tt;
      appended = sym (append-nil old);
    }

-- all tiles of the row are read
pub band_read : {file : List ℕ} {first : ℕ} {f : Frame} {row : ℕ} {old new : List (List ℕ)}
    → InBand file first f row (tiles_along f.width) old new → BandRead file first f row old new (Ok tt)
unfolding tiles_at
band_read {file = file} {first = first} {f = f} {row = row} so_far =
    let none : drop (tiles_along f.width) (row_tiles f.width row) ≡ [] =
    drop_all (tiles_along f.width) (row_tiles f.width row) (omega (arith, length_of_row f.width row)) in
    let at = first + 4 * (row * tiles_along f.width + tiles_along f.width) in (
      so_far.band,
      record {
        count = so_far.count;
        reads = so_far.reads
            ∙ (ap (λ ts. behind so_far.band (tiles_at ts file at f.width f.height f.bpp f.compression)) none
            ∙ ap (λ xs. Ok xs) (append-nil so_far.band));
        sizes = so_far.sizes;
        bytes = so_far.bytes;
      },
      so_far.appended,
    )
