-- The bands of a plane, in their order, are the plane.
use Rattle.std.proofs.Common.{◌≡◌, ℕ, zero, suc, ◌+◌, ◌-◌, ◌*◌, ◌<◌, List, [], ◌∷◌, ◌++◌, length}
use Rattle.std.proofs.Common.{get_or, refl, sym, ap, subst, ◌∙◌, arith, inl, inr, length-append, append-nil}
use Rattle.std.specs.Prelude.{Ok, Err, flat_map}
use Rattle.std.proofs.lemmas.Bool.{cases_lt}
use Rattle.std.proofs.lemmas.List.{get_or_append_left, get_or-append-add}
use Rattle.std.proofs.lemmas.Nat.{mul-add-lt}
use Rattle.spec_document.specs.Limits.{AreBytes}
use Rattle.spec_fields.proofs.All.{all_append}
use Rattle.xl_fields.specs.declared.refusal.ReadRefusedOrMemory.{ReadRefusedOrMemory}
use Rattle.xl_fields.specs.declared.refusal.ReadRefusedOrMemory.TheVariants.{Memory, Refused}
use Rattle.xl_hier.specs.Level.{pixels_at}
use Rattle.spec_document.specs.declared.TileAt.{TileAt}
use Rattle.spec_document.specs.Rect.{count_from}
use Rattle.spec_document.specs.Grid.{tiles_along, all_tiles}
use Rattle.spec_fields.specs.declared.Kind.TheVariants.{BadHierarchy}
use Rattle.spec_fields.specs.declared.ReadRefused.{ReadRefused}
use Rattle.spec_fields.specs.Reading.{Read, ◌>>=◌}
use Rattle.spec_hierarchy.specs.Tiles.{tile_width, tile_height, plane_of_tiles}
use Rattle.spec_hierarchy.specs.Reading.{pointer_at, tile_at, tiles_at}
use Rattle.xl_hier.specs.declared.frame.Frame.{Frame}
use Rattle.xl_tiles.specs.Behind.{behind}
use Rattle.xl_hier.specs.Bands.{row_tiles, band_at, bands_from, tile_size, IsBand, BandRead}
use Rattle.xl_hier.specs.SoFar.{all_at, SoFar, HasRead}
use Rattle.xl_tiles.proofs.Decoded.{behind-behind}
use Rattle.xl_hier.proofs.InBand.{length_of_row}

suc_mul : (m n : ℕ) → suc m * n ≡ n + m * n
suc_mul m n = omega arith

length_pieces : (f : ℕ → List TileAt) (k : ℕ) → ((v : ℕ) → length (f v) ≡ k) → (first n : ℕ)
    → length (flat_map f (count_from first n)) ≡ n * k
length_pieces f k each first zero = omega arith
length_pieces f k each first (suc n) =
    omega (
      arith,
      length-append (f first) (flat_map f (count_from (suc first) n)),
      each first,
      length_pieces f k each (suc first) n,
      suc_mul n k,
    )

pub length_of_tiles : (w h : ℕ) → length (all_tiles w h) ≡ tiles_along h * tiles_along w
length_of_tiles w h = length_pieces (row_tiles w) (tiles_along w) (length_of_row w) 0 (tiles_along h)

none_behind : (r : Read (List (List ℕ))) → r ≡ behind [] r
none_behind (Ok x) = refl
none_behind (Err e) = refl

-- a tile, then others, then those behind them
others_behind : (tile : List ℕ) (front behind_them : Read (List (List ℕ)))
    → ((front >>= (λ xs. behind xs behind_them)) >>= (λ rest. Ok (tile ∷ rest)))
    ≡ ((front >>= (λ rest. Ok (tile ∷ rest))) >>= (λ xs. behind xs behind_them))
others_behind tile (Err e) last = refl
others_behind tile (Ok xs) (Ok ys) = refl
others_behind tile (Ok xs) (Err e) = refl

tile_behind : (tile : Read (List ℕ)) (whole front last : Read (List (List ℕ)))
    → whole ≡ (front >>= (λ xs. behind xs last))
    → (tile >>= (λ t. whole >>= (λ rest. Ok (t ∷ rest))))
    ≡ ((tile >>= (λ t. front >>= (λ rest. Ok (t ∷ rest)))) >>= (λ xs. behind xs last))
tile_behind (Err e) whole front last is = refl
tile_behind (Ok t) whole front last is = ap (λ r. r >>= (λ rest. Ok (t ∷ rest))) is ∙ others_behind t front last

pointer_behind : (pointer : Read ℕ) (tile : ℕ → Read (List ℕ)) (whole front last : Read (List (List ℕ)))
    → whole ≡ (front >>= (λ xs. behind xs last))
    → (pointer >>= (λ n. tile n >>= (λ t. whole >>= (λ rest. Ok (t ∷ rest)))))
    ≡ ((pointer >>= (λ n. tile n >>= (λ t. front >>= (λ rest. Ok (t ∷ rest))))) >>= (λ xs. behind xs last))
pointer_behind (Err e) tile whole front last is = refl
pointer_behind (Ok n) tile whole front last is = tile_behind (tile n) whole front last is

-- some tiles are read, and then those behind them
tiles_behind : (ts us : List TileAt) (file : List ℕ) (at : ℕ) (f : Frame)
    → tiles_at (ts ++ us) file at f.width f.height f.bpp f.compression
    ≡ (tiles_at ts file at f.width f.height f.bpp f.compression
    >>= (λ xs. behind xs (tiles_at us file (at + 4 * length ts) f.width f.height f.bpp f.compression)))
unfolding tiles_at
tiles_behind [] us file at f =
    let here : at ≡ at + 4 * 0 = omega arith in
    ap (λ n. tiles_at us file n f.width f.height f.bpp f.compression) here
    ∙ none_behind (tiles_at us file (at + 4 * 0) f.width f.height f.bpp f.compression)
tiles_behind (t ∷ ts) us file at f =
    let onto : at + 4 + 4 * length ts ≡ at + 4 * length (t ∷ ts) = omega arith in
    pointer_behind (pointer_at file at BadHierarchy)
    (λ n. tile_at file n (tile_width f.width t * tile_height f.height t) f.bpp f.compression)
    (tiles_at (ts ++ us) file (at + 4) f.width f.height f.bpp f.compression)
    (tiles_at ts file (at + 4) f.width f.height f.bpp f.compression)
    (tiles_at us file (at + 4 * length (t ∷ ts)) f.width f.height f.bpp f.compression)
    (tiles_behind ts us file (at + 4) f
    ∙ ap (λ n. tiles_at ts file (at + 4) f.width f.height f.bpp f.compression
    >>= (λ xs. behind xs (tiles_at us file n f.width f.height f.bpp f.compression))) onto)

-- the tiles of rows are those of their bands
in_bands : (n : ℕ) (file : List ℕ) (first : ℕ) (f : Frame) (row : ℕ)
    → tiles_at (flat_map (row_tiles f.width) (count_from row n)) file (first + 4 * (row * tiles_along f.width))
    f.width f.height f.bpp f.compression
    ≡ bands_from n file first f row
unfolding tiles_at bands_from
in_bands zero file first f row = refl
in_bands (suc n) file first f row =
    let at = first + 4 * (row * tiles_along f.width) in
    let next : suc row * tiles_along f.width ≡ tiles_along f.width + row * tiles_along f.width = omega arith in
    let onto : at + 4 * length (row_tiles f.width row) ≡ first + 4 * (suc row * tiles_along f.width) =
    omega (arith, length_of_row f.width row, next) in
    let below = flat_map (row_tiles f.width) (count_from (suc row) n) in
    tiles_behind (row_tiles f.width row) below file at f
    ∙ (ap (λ k. band_at file first f row >>= (λ xs. behind xs (tiles_at below file k f.width f.height f.bpp f.compression))) onto
    ∙ ap (λ r. band_at file first f row >>= (λ xs. behind xs r)) (in_bands n file first f (suc row)))

-- the tiles of a plane are those of all bands in their order
pub all_in_bands : (file : List ℕ) (first : ℕ) (f : Frame) → all_at file first f ≡ bands_from (tiles_along f.height) file first f 0
all_in_bands file first f =
    let start : first ≡ first + 4 * (0 * tiles_along f.width) = omega arith in
    ap (λ n. tiles_at (flat_map (row_tiles f.width) (count_from 0 (tiles_along f.height))) file n f.width f.height f.bpp f.compression)
    start ∙ in_bands (tiles_along f.height) file first f 0

-- no band is read yet
pub none_read : (file : List ℕ) (first : ℕ) (f : Frame) (tiles : List (List ℕ)) → tiles ≡ [] → SoFar file first f 0 tiles
none_read file first f tiles is = subst (SoFar file first f 0) (sym is) (record {
  count = omega arith;
  reads = all_in_bands file first f
      ∙ (ap (λ n. bands_from n file first f 0) all ∙ none_behind (bands_from (tiles_along f.height - 0) file first f 0));
  sizes = λ c r c_in before. absurd (omega (arith, before));
  bytes = tt;
})
  where
    all : tiles_along f.height ≡ tiles_along f.height - 0
    all = omega arith

-- the next band is still to be read
to_read : {file : List ℕ} {first : ℕ} {f : Frame} {row : ℕ} {tiles : List (List ℕ)}
    → SoFar file first f row tiles → row < tiles_along f.height
    → all_at file first f ≡ behind tiles (band_at file first f row
    >>= (λ band. behind band (bands_from (tiles_along f.height - (row + 1)) file first f (suc row))))
unfolding bands_from
to_read {file = file} {first = first} {f = f} {row = row} {tiles = tiles} so_far hr =
    let left : tiles_along f.height - row ≡ suc (tiles_along f.height - (row + 1)) = omega (arith, hr) in
    so_far.reads ∙ ap (λ n. behind tiles (bands_from n file first f row)) left

-- a band more is read
band_more : {file : List ℕ} {first : ℕ} {f : Frame} {row : ℕ} {tiles next : List (List ℕ)}
    → SoFar file first f row tiles → row < tiles_along f.height → (band : List (List ℕ)) → IsBand file first f row band
    → next ≡ tiles ++ band → SoFar file first f (row + 1) next
band_more {file = file} {first = first} {f = f} {row = row} {tiles = tiles} {next = next} so_far hr band read is =
    let step : suc row ≡ row + 1 = omega arith in
    let rest = bands_from (tiles_along f.height - (row + 1)) file first f (row + 1) in
    let grown : (row + 1) * tiles_along f.width ≡ row * tiles_along f.width + tiles_along f.width = omega arith in
    subst (SoFar file first f (row + 1)) (sym is) (record {
      count = omega (arith, length-append tiles band, so_far.count, read.count, grown);
      reads = to_read so_far hr
          ∙ (ap (λ r. behind tiles (r >>= (λ band. behind band
          (bands_from (tiles_along f.height - (row + 1)) file first f (suc row))))) read.reads
          ∙ (ap (λ n. behind tiles (behind band (bands_from (tiles_along f.height - (row + 1)) file first f n))) step
          ∙ behind-behind tiles band rest));
      sizes = λ c r c_in before.
          elim (cases_lt r row) [
            | inl earlier ↦
                let inside : r * tiles_along f.width + c < row * tiles_along f.width =
                omega (arith, mul-add-lt r (tiles_along f.width) c row earlier c_in) in
                ap length (get_or_append_left tiles band [] (r * tiles_along f.width + c) (omega (arith, inside, so_far.count)))
                ∙ so_far.sizes c r c_in earlier
            | inr last ↦
                let same : r ≡ row = omega (arith, last, before) in
                let place : r * tiles_along f.width + c ≡ length tiles + c =
                ap (λ n. n * tiles_along f.width + c) same ∙ ap (λ n. n + c) (sym so_far.count) in
                ap (λ n. length (get_or (tiles ++ band) n [])) place
                ∙ (ap length (get_or-append-add tiles band c [])
                ∙ (read.sizes c c_in ∙ (λ i. tile_size f c (sym same i))))
          ];
      bytes = all_append AreBytes tiles band so_far.bytes read.bytes;
    })

-- a band more is appended
pub band_next : {file : List ℕ} {first : ℕ} {f : Frame} {row : ℕ} {tiles next : List (List ℕ)}
    → SoFar file first f row tiles → row < tiles_along f.height → BandRead file first f row tiles next (Ok tt)
    → SoFar file first f (row + 1) next
band_next so_far hr read = band_more so_far hr read.0 read.1 read.2

no_band : {file : List ℕ} {first : ℕ} {f : Frame} {row : ℕ} {tiles : List (List ℕ)} {e : ReadRefused}
    → SoFar file first f row tiles → row < tiles_along f.height → band_at file first f row ≡ Err e → all_at file first f ≡ Err e
no_band {file = file} {first = first} {f = f} {row = row} {tiles = tiles} so_far hr h =
    to_read so_far hr ∙ ap (λ r. behind tiles (r >>= (λ band. behind band
    (bands_from (tiles_along f.height - (row + 1)) file first f (suc row))))) h

-- the fault of the first band that has one is that of all tiles
pub band_fault : {file : List ℕ} {first : ℕ} {f : Frame} {row : ℕ} {tiles : List (List ℕ)}
    → SoFar file first f row tiles → row < tiles_along f.height → (e : ReadRefusedOrMemory) → (old new : List (List ℕ))
    → BandRead file first f row old new (Err e) → HasRead file first f (Err e)
band_fault so_far hr Memory old new fault = tt
band_fault so_far hr (Refused e) old new fault = no_band so_far hr fault

-- all bands are read
pub all_read : {file : List ℕ} {first : ℕ} {f : Frame} {tiles : List (List ℕ)} → SoFar file first f (tiles_along f.height) tiles
    → pixels_at file first f.width f.height f.bpp f.compression ≡ Ok (plane_of_tiles f.width f.height f.bpp tiles)
unfolding bands_from
all_read {file = file} {first = first} {f = f} {tiles = tiles} so_far =
    let none : tiles_along f.height - tiles_along f.height ≡ 0 = omega arith in
    let read : all_at file first f ≡ Ok tiles =
    so_far.reads
    ∙ (ap (λ n. behind tiles (bands_from n file first f (tiles_along f.height))) none
    ∙ ap (λ xs. Ok xs) (append-nil tiles)) in
    ap (λ r. r >>= (λ tiles. Ok (plane_of_tiles f.width f.height f.bpp tiles))) read
