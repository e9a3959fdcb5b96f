-- A plane that is written stands at its offset.
use Rattle.std.proofs.Common.{◌≡◌, ℕ, zero, suc, ◌+◌, ◌*◌, ◌^◌, ◌/◌, ◌%◌, ◌<◌, Bool, true, false, List, [], ◌∷◌, ◌++◌}
use Rattle.std.proofs.Common.{length, map, slice_index, get_or, refl, sym, ap, ◌∙◌, subst, arith, length-append}
use Rattle.std.specs.Prelude.{MatchBool, ◌==◌}
use Rattle.std.specs.Int.{w32, to_be_bytes}
use Rattle.std.specs.List.{concat}
use Rattle.std.proofs.lemmas.Nat.{div-add-mod'}
use Rattle.std.proofs.Math.Nat.{mod-lt, div-lt_iff_lt-mul}
use Rattle.spec_document.specs.declared.TileAt.{TileAt}
use Rattle.spec_document.specs.Rect.{count_from}
use Rattle.spec_document.specs.Grid.{all_tiles}
use Rattle.spec_document.specs.Plane.{Plane, byte_at}
use Rattle.spec_document.proofs.PlaneLemmas.{index-bytes_over}
use Rattle.spec_fields.specs.Field.{HasWord, HasBytes, word_value}
use Rattle.spec_fields.proofs.Fields.{has_front, has_back, has_first_word}
use Rattle.spec_hierarchy.specs.Tiles.{tile_bytes, tile_plane, tile_width, tile_height}
use Rattle.spec_hierarchy.specs.Holds.{HasSpelled, IsSpelledTile, HasTile, HaveTiles, HasPlane}
use Rattle.spec_hierarchy.proofs.TilesOfPlane.{plane_of_tiles-tile_bytes}
use Rattle.xl_tiles.specs.Joined.{IsJoined}
use Rattle.xl_tiles.proofs.JoinedTiles.{joined_is}
use Rattle.spec_hierarchy.specs.Layout.{words, places_from, AreSpelled, IsTile, AreTiles, IsWrittenPlane}
use Rattle.xl_hier.proofs.Filling.{length_of_words, length_of_places}
use Rattle.xl_hier.proofs.Over.{length-bytes_over}

word_back : (n : ℕ) → n < 2 ^ 32 → word_value (to_be_bytes w32 n) 0 ≡ n
word_back n h = omega (arith, h)

-- the first of some words, and the others behind it
word_of : (file : List ℕ) (at n : ℕ) (ns : List ℕ) → n < 2 ^ 32 → HasBytes file at (words (n ∷ ns))
    → HasWord file at n × HasBytes file (at + 4) (words ns)
word_of file at n ns small h =
    let first : HasWord file at (word_value (to_be_bytes w32 n) 0) =
    has_first_word file at (to_be_bytes w32 n) (omega arith) (has_front file at (to_be_bytes w32 n) (words ns) h) in
    (subst (HasWord file at) (word_back n small) first, has_back file at (to_be_bytes w32 n) (words ns) h)

counted : (g : ℕ → List ℕ) (first n i : ℕ) → i < n → get_or (map g (count_from first n)) i [] ≡ g (first + i)
counted g first zero i h = absurd (omega (arith, h))
counted g first (suc n) zero h = let start : first ≡ first + 0 = omega arith in ap g start
counted g first (suc n) (suc i) h =
    let start : suc first + i ≡ first + suc i = omega arith in counted g (suc first) n i (omega (arith, h)) ∙ ap g start

length_counted : (g : ℕ → List ℕ) (first n : ℕ) → length (map g (count_from first n)) ≡ n
length_counted g first zero = refl
length_counted g first (suc n) = omega (arith, length_counted g (suc first) n)

positive_left : (a b i : ℕ) → i < a * b → 0 < a
positive_left zero b i h = absurd (omega (arith, h))
positive_left (suc a) b i h = omega arith

-- the planes of a tile are joined in it
planes_joined : (p : Plane) (t : TileAt)
    → IsJoined p.bpp (tile_width p.width t * tile_height p.height t) (map (tile_plane p t) (count_from 0 p.bpp)) (tile_bytes p t)
planes_joined p t k c hk hc =
    let w = tile_width p.width t in
    let h = tile_height p.height t in
    let some : 0 < w = positive_left w h k hk in
    let x : k % w < w = mod-lt k some in
    let turned : k < h * w = omega (arith, hk) in
    let y : k / w < h = (div-lt_iff_lt-mul some).1 turned in
    let place : k ≡ (k / w) * w + k % w = sym (div-add-mod' k w) in
    let flat : k ≡ ((k / w) * w + k % w) * 1 + 0 = place ∙ omega arith in
    let here : 0 + c ≡ c = omega arith in
    ap (λ i. slice_index (tile_bytes p t) (i * p.bpp + c)) place
    ∙ (index-bytes_over (byte_at p) (64 * t.col) (64 * t.row) w h p.bpp (k % w) (k / w) c x y hc
    ∙ (sym (index-bytes_over (λ x y j. byte_at p x y c) (64 * t.col) (64 * t.row) w h 1 (k % w) (k / w) 0 x y (omega arith))
    ∙ (ap (slice_index (tile_plane p t c)) (sym flat)
    ∙ ap (λ plane. slice_index plane k) (sym (counted (tile_plane p t) 0 p.bpp c hc ∙ ap (tile_plane p t) here)))))

-- the spellings of planes stand where they are written
spelled_stand : (fits : List ℕ → List ℕ → Type 0) (p : Plane) (t : TileAt) (file : List ℕ) (first m at : ℕ) (bytes : List ℕ)
    → AreSpelled fits bytes (map (tile_plane p t) (count_from first m)) → HasBytes file at bytes
    → HasSpelled file at (tile_width p.width t * tile_height p.height t) (map (tile_plane p t) (count_from first m))
spelled_stand fits p t file first zero at bytes are h = tt
spelled_stand fits p t file first (suc m) at bytes (spelled, rest, s, short, f, is, are) h =
    let w = tile_width p.width t in
    let r = tile_height p.height t in
    let both : HasBytes file at (spelled ++ rest) = subst (HasBytes file at) is h in
    let size : length (tile_plane p t first) ≡ w * r =
    omega (arith, length-bytes_over (64 * t.col) (64 * t.row) w r 1 (λ x y k. byte_at p x y first)) in (
      spelled,
      s,
      size,
      has_front file at spelled rest both,
      spelled_stand fits p t file (suc first) m (at + length spelled) rest are (has_back file at spelled rest both),
    )

tile_stands : (fits : List ℕ → List ℕ → Type 0) (compression : ℕ) (p : Plane) (t : TileAt) (file : List ℕ) (at : ℕ) (bytes : List ℕ)
    → IsTile fits compression p t bytes → HasBytes file at bytes
    → HasTile file at (tile_width p.width t * tile_height p.height t) p.bpp compression (tile_bytes p t)
tile_stands fits compression p t file at bytes is h = by (compression == 0) is
  where
    size : length (tile_bytes p t) ≡ tile_width p.width t * tile_height p.height t * p.bpp
    size =
        omega (arith, length-bytes_over (64 * t.col) (64 * t.row) (tile_width p.width t) (tile_height p.height t) p.bpp (byte_at p))

    by : (b : Bool) → MatchBool b (bytes ≡ tile_bytes p t) (AreSpelled fits bytes (map (tile_plane p t) (count_from 0 p.bpp)))
        → MatchBool b (HasBytes file at (tile_bytes p t)
        × (length (tile_bytes p t) ≡ tile_width p.width t * tile_height p.height t * p.bpp))
        (IsSpelledTile file at (tile_width p.width t * tile_height p.height t) p.bpp (tile_bytes p t))
    by true e = (subst (HasBytes file at) e h, size)
    by false e = record {
      planes = map (tile_plane p t) (count_from 0 p.bpp);
      as_many = length_counted (tile_plane p t) 0 p.bpp;
      stand = spelled_stand fits p t file 0 p.bpp at bytes e h;
      tile_is = joined_is p.bpp (tile_width p.width t * tile_height p.height t) (map (tile_plane p t) (count_from 0 p.bpp))
          (tile_bytes p t) (length_counted (tile_plane p t) 0 p.bpp) size (planes_joined p t);
    }

tiles_stand : (fits : List ℕ → List ℕ
    → Type 0) (compression : ℕ) (p : Plane) (file : List ℕ) (at first : ℕ) (ts : List TileAt) (tiles : List (List ℕ))
    → AreTiles fits compression p ts tiles
    → HasBytes file at (words (places_from first tiles ++ 0 ∷ [])) → HasBytes file first (concat tiles) → 0 < first
    → first + length (concat tiles) < 2 ^ 32
    → HaveTiles file at p.width p.height p.bpp compression ts (map (tile_bytes p) ts)
tiles_stand fits compression p file at first [] [] are pointers stand some small = tt
tiles_stand fits compression p file at first [] (tile ∷ tiles) are pointers stand some small = absurd are
tiles_stand fits compression p file at first (t ∷ ts) [] are pointers stand some small = absurd are
tiles_stand fits compression p file at first (t ∷ ts) (tile ∷ tiles) are pointers stand some small =
    let size = length-append tile (concat tiles) in
    let word = word_of file at first (places_from (first + length tile) tiles ++ 0 ∷ []) (omega (arith, small)) pointers in (
      (
        first,
        word.0,
        some,
        tile_stands fits compression p t file first tile are.0
            (has_front file first tile (concat tiles) stand),
      ),
      tiles_stand fits compression p file (at + 4) (first + length tile) ts tiles are.1 word.1
          (has_back file first tile (concat tiles) stand) (omega (arith, some)) (omega (arith, small, size)),
    )

-- the plane stands in any file that has what was written, at the offset for which it was written
pub plane_stands : (fits : List ℕ → List ℕ → Type 0) (compression : ℕ) (p : Plane) (file : List ℕ) (at : ℕ) (bytes : List ℕ)
    → IsWrittenPlane fits compression at p bytes → HasBytes file at bytes
    → p.width < 2 ^ 32 → p.height < 2 ^ 32 → p.bpp < 2 ^ 32 → length p.bytes ≡ p.width * p.height * p.bpp
    → at + length bytes < 2 ^ 32
    → HasPlane file at compression p
plane_stands fits compression p file at bytes (tiles, are, is) h wide tall deep full small =
    let first = at + 32 + 4 * length tiles in
    let places = places_from first tiles in
    let level = words (p.width ∷ p.height ∷ (places ++ 0 ∷ [])) in
    let head = words (p.width ∷ p.height ∷ p.bpp ∷ (at + 20) ∷ 0 ∷ []) in
    let whole : HasBytes file at (head ++ (level ++ concat tiles)) = subst (HasBytes file at) is h in
    let behind : HasBytes file (at + 20) (level ++ concat tiles) = has_back file at head (level ++ concat tiles) whole in
    let size : length level ≡ 12 + 4 * length tiles =
    omega (arith, length_of_words (places ++ 0 ∷ []), length-append places (0 ∷ []), length_of_places first tiles) in
    let all : length bytes ≡ 20 + (length level + length (concat tiles)) = ap length is
    ∙ (length-append head (level ++ concat tiles) ∙ ap (λ n. 20 + n) (length-append level (concat tiles))) in
    let fits_word : first + length (concat tiles) < 2 ^ 32 = omega (arith, all, size, small) in
    let first_is : at + 20 + length level ≡ first = omega (arith, size) in
    let stand : HasBytes file first (concat tiles) =
    subst (λ n. HasBytes file n (concat tiles)) first_is (has_back file (at + 20) level (concat tiles) behind) in
    let w1 = word_of file at p.width (p.height ∷ p.bpp ∷ (at + 20) ∷ 0 ∷ []) wide
    (has_front file at head (level ++ concat tiles) whole) in
    let w2 = word_of file (at + 4) p.height (p.bpp ∷ (at + 20) ∷ 0 ∷ []) tall w1.1 in
    let w3 = word_of file (at + 4 + 4) p.bpp ((at + 20) ∷ 0 ∷ []) deep w2.1 in
    let w4 = word_of file (at + 4 + 4 + 4) (at + 20) (0 ∷ []) (omega (arith, fits_word)) w3.1 in
    let v1 = word_of file (at + 20) p.width (p.height ∷ (places ++ 0 ∷ [])) wide
    (has_front file (at + 20) level (concat tiles) behind) in
    let v2 = word_of file (at + 20 + 4) p.height (places ++ 0 ∷ []) tall v1.1 in
    let eight : at + 4 + 4 ≡ at + 8 = omega arith in
    let twelve : at + 4 + 4 + 4 ≡ at + 12 = omega arith in
    let table : at + 20 + 4 + 4 ≡ at + 20 + 8 = omega arith in
    record {
      width = w1.0;
      height = w2.0;
      bpp = subst (λ n. HasWord file n p.bpp) eight w3.0;
      level = at + 20;
      has_level = subst (λ n. HasWord file n (at + 20)) twelve w4.0;
      some_level = omega arith;
      level_width = v1.0;
      level_height = v2.0;
      tiles = map (tile_bytes p) (all_tiles p.width p.height);
      have_tiles = tiles_stand fits compression p file (at + 20 + 8) first (all_tiles p.width p.height) tiles are
          (subst (λ n. HasBytes file n (words (places ++ 0 ∷ []))) table v2.1) stand (omega arith) fits_word;
      plane_is = sym (plane_of_tiles-tile_bytes p full);
    }
