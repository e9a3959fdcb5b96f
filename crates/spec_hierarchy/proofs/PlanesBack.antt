-- A plane that was read stands in the file.
use Rattle.std.proofs.Common.{◌≡◌, ℕ, zero, suc, ◌+◌, ◌-◌, ◌*◌, ◌/◌, ◌%◌, ◌<◌, ◌≤◌, min, Bool, true, false, cond, List}
use Rattle.std.proofs.Common.{[], ◌∷◌, length, map, get_or, slice_index, nat_lt, refl, sym, ap, subst, arith}
use Rattle.std.specs.Prelude.{Ok, nat_le, ◌==◌, MatchBool, flat_map}
use Rattle.std.specs.List.{AllByRecursion}
use Rattle.std.proofs.lemmas.Bool.{leb-true, ltb-true, eqb-true}
use Rattle.spec_document.specs.declared.TileAt.{TileAt}
use Rattle.spec_document.specs.Rect.{count_from}
use Rattle.spec_document.specs.Grid.{tiles_along, all_tiles}
use Rattle.spec_document.specs.Limits.{AreBytes, IsPlaneOf}
use Rattle.spec_document.specs.Plane.{Plane}
use Rattle.spec_document.proofs.PlaneLemmas.{length-plane_of}
use Rattle.spec_fields.specs.declared.Kind.{Kind}
use Rattle.spec_fields.specs.declared.Kind.TheVariants.{Truncated, BadHierarchy}
use Rattle.spec_fields.specs.Reading.{◌>>=◌, fault, wants}
use Rattle.spec_fields.specs.Field.{bytes_at, HasWord, HasBytes}
use Rattle.spec_fields.proofs.Back.{bind_back, wants_back}
use Rattle.spec_fields.proofs.All.{all_append, all_at, all_flat_map, all_map}
use Rattle.spec_fields.proofs.FieldsBack.{word_first, has_bytes, length-bytes_at, bytes_below}
use Rattle.spec_rle.specs.Reading.{plane_at}
use Rattle.spec_rle.proofs.SpelledBack.{spelled_has, spelled_below}
use Rattle.spec_hierarchy.specs.Tiles.{tile_width, tile_height, interleaved, plane_of_tiles}
use Rattle.spec_hierarchy.specs.Reading.{same_word_at, pointer_at, plain_at, planes_at, tile_at, tiles_at, hierarchy_at}
use Rattle.spec_hierarchy.specs.Holds.{HasSpelled, IsSpelledTile, HasTile, HaveTiles, HasPlane}

pub same_word_has : (file : List ℕ) (at n : ℕ) (kind : Kind) → same_word_at file at n kind ≡ Ok tt → HasWord file at n
same_word_has file at n kind e =
    let a = word_first file at _ tt e in
    let same : a.0 ≡ n = eqb-true a.0 n (held (a.0 == n) a.2) in
    subst (λ m. HasWord file at m) same a.1
  where
    held : (b : Bool) → wants b (fault kind at) ≡ Ok tt → b ≡ true
    held true e = refl
    held false e = cc

-- a pointer that is not zero stands at the offset
pub record HasPointer (file : List ℕ) (at pointer : ℕ) : Type 0 where
  pub word : HasWord file at pointer
  pub some : 0 < pointer

pub pointer_has : (file : List ℕ) (at pointer : ℕ) (kind : Kind) → pointer_at file at kind ≡ Ok pointer → HasPointer file at pointer
pointer_has file at pointer kind e =
    let a = word_first file at _ pointer e in
    let b = wants_back (nat_lt 0 a.0) (fault kind at) _ pointer a.2 in
    let same : a.0 ≡ pointer = cc in
    record { word = subst (λ m. HasWord file at m) same a.1; some = omega (arith, ltb-true 0 a.0 b.0, same) }

-- the bytes of a tile stand at the offset, and are bytes
pub record HasSome (file : List ℕ) (at n bpp compression : ℕ) (tile : List ℕ) : Type 0 where
  pub stands : HasTile file at n bpp compression tile
  pub bytes : AreBytes tile

plain_has : (file : List ℕ) (at n : ℕ) (tile : List ℕ) → AreBytes file → plain_at file at n ≡ Ok tile
    → HasBytes file at tile × (length tile ≡ n) × AreBytes tile
unfolding plain_at
plain_has file at n tile all e =
    let a = wants_back (nat_le (at + n) (length file)) (fault Truncated at) _ tile e in
    let fits = leb-true (at + n) (length file) a.0 in
    let is : bytes_at file at n ≡ tile = cc in
    let P : List ℕ → Type 0 = λ t. HasBytes file at t × (length t ≡ n) × AreBytes t in
    subst P is (has_bytes file at n fits, length-bytes_at file at n fits, bytes_below file at n all)

planes_have : (count : ℕ) (file : List ℕ) (at n : ℕ) (planes : List (List ℕ)) → AreBytes file → 0 < n
    → planes_at count file at n ≡ Ok planes
    → HasSpelled file at n planes × (length planes ≡ count) × AllByRecursion AreBytes planes
unfolding planes_at
planes_have zero file at n planes all some e =
    let is : [] ≡ planes = cc in
    let P : List (List ℕ) → Type 0 = λ ps. HasSpelled file at n ps × (length ps ≡ 0) × AllByRecursion AreBytes ps in
    subst P is (tt, refl, tt)
planes_have (suc count) file at n planes all some e =
    let a = bind_back (plane_at file at n) _ planes e in
    let b = bind_back (planes_at count file a.0.next n) _ planes a.2 in
    let h = spelled_has file at n a.0 all some a.1 in
    let more = planes_have count file a.0.next n b.0 all some b.1 in
    let is : a.0.pixels ∷ b.0 ≡ planes = cc in
    let rest : HasSpelled file (at + length h.bytes) n b.0 = subst (λ place. HasSpelled file place n b.0) h.next more.0 in
    let P : List (List ℕ) → Type 0 = λ ps. HasSpelled file at n ps × (length ps ≡ suc count) × AllByRecursion AreBytes ps in
    subst P is ((h.bytes, h.spells, h.full, h.has, rest), ap suc more.1, (spelled_below h.bytes a.0.pixels h.spells, more.2))

interleaved_below : (n : ℕ) (planes : List (List ℕ)) → AllByRecursion AreBytes planes → AreBytes (interleaved n planes)
interleaved_below n planes h =
    all_flat_map (λ b. b < 256) (λ k. map (λ plane. slice_index plane k) planes) (λ k. each k planes h) (count_from 0 n)
  where
    each : (k : ℕ) (ps : List (List ℕ)) → AllByRecursion AreBytes ps → AreBytes (map (λ plane. slice_index plane k) ps)
    each k [] h = tt
    each k (p ∷ ps) h = (all_at (λ b. b < 256) p k 0 h.0 (omega arith), each k ps h.1)

pub tile_has : (file : List ℕ) (at n bpp compression : ℕ) (tile : List ℕ) → AreBytes file → 0 < n
    → tile_at file at n bpp compression ≡ Ok tile → HasSome file at n bpp compression tile
unfolding tile_at
tile_has file at n bpp compression tile all some e = by (compression == 0) refl e
  where
    by : (b : Bool) → (compression == 0) ≡ b
        → cond b (plain_at file at (n * bpp)) (planes_at bpp file at n >>= (λ planes. Ok (interleaved n planes))) ≡ Ok tile
        → HasSome file at n bpp compression tile
    by true t e =
        let a = plain_has file at (n * bpp) tile all e in
        record {
          stands = subst (λ b. MatchBool b (HasBytes file at tile
              × (length tile ≡ n * bpp)) (IsSpelledTile file at n bpp tile)) (sym t) (a.0, a.1);
          bytes = a.2;
        }
    by false t e =
        let a = bind_back (planes_at bpp file at n) _ tile e in
        let h = planes_have bpp file at n a.0 all some a.1 in
        let is : interleaved n a.0 ≡ tile = cc in
        record {
          stands =
              subst (λ b. MatchBool b (HasBytes file at tile × (length tile ≡ n * bpp)) (IsSpelledTile file at n bpp tile)) (sym t)
              (record { planes = a.0; as_many = h.1; stand = h.0; tile_is = sym is });
          bytes = subst AreBytes is (interleaved_below n a.0 h.2);
        }

-- the tile has a point
abbrev HasPoints : (width height : ℕ) → TileAt → Type 0
HasPoints width height t = 0 < tile_width width t * tile_height height t

some_product : (a b : ℕ) → 0 < a → 0 < b → 0 < a * b
some_product zero b p q = absurd (omega (arith, p))
some_product (suc a) b p q = let more : suc a * b ≡ b + a * b = omega arith in omega (arith, more, q)

row_has_points : (width height row first n : ℕ) → row < tiles_along height → first + n ≤ tiles_along width
    → AllByRecursion (HasPoints width height) (map (λ col. record { col = col; row = row }) (count_from first n))
row_has_points width height row first zero r c = tt
row_has_points width height row first (suc n) r c = (
  some_product (min 64 (width - 64 * first)) (min 64 (height - 64 * row)) (omega (arith, c)) (omega (arith, r)),
  row_has_points width height row (suc first) n r (omega (arith, c)),
)

rows_have_points : (width height first n : ℕ) → first + n ≤ tiles_along height
    → AllByRecursion (HasPoints width height)
    (flat_map (λ row. map (λ col. record { col = col; row = row }) (count_from 0 (tiles_along width))) (count_from first n))
rows_have_points width height first zero r = tt
rows_have_points width height first (suc n) r =
    all_append (HasPoints width height) (map (λ col. record { col = col; row = first }) (count_from 0 (tiles_along width))) _
    (row_has_points width height first 0 (tiles_along width) (omega (arith, r)) (omega arith))
    (rows_have_points width height (suc first) n (omega (arith, r)))

have_points : (width height : ℕ) → AllByRecursion (HasPoints width height) (all_tiles width height)
have_points width height = rows_have_points width height 0 (tiles_along height) (omega arith)

tiles_have : (ts : List TileAt) (file : List ℕ) (at width height bpp compression : ℕ) (tiles : List (List ℕ)) → AreBytes file
    → AllByRecursion (HasPoints width height) ts
    → tiles_at ts file at width height bpp compression ≡ Ok tiles
    → HaveTiles file at width height bpp compression ts tiles × AllByRecursion AreBytes tiles
unfolding tiles_at
tiles_have [] file at width height bpp compression tiles all points e =
    let is : [] ≡ tiles = cc in
    let P : List (List ℕ) → Type 0 = λ xs. HaveTiles file at width height bpp compression [] xs × AllByRecursion AreBytes xs in
    subst P is (tt, tt)
tiles_have (t ∷ ts) file at width height bpp compression tiles all points e =
    let n = tile_width width t * tile_height height t in
    let a = bind_back (pointer_at file at BadHierarchy) _ tiles e in
    let b = bind_back (tile_at file a.0 n bpp compression) _ tiles a.2 in
    let c = bind_back (tiles_at ts file (at + 4) width height bpp compression) _ tiles b.2 in
    let pointer = pointer_has file at a.0 BadHierarchy a.1 in
    let tile = tile_has file a.0 n bpp compression b.0 all points.0 b.1 in
    let more = tiles_have ts file (at + 4) width height bpp compression c.0 all points.1 c.1 in
    let is : b.0 ∷ c.0 ≡ tiles = cc in
    let P : List (List ℕ) → Type 0 = λ xs. HaveTiles file at width height bpp compression (t ∷ ts) xs
    × AllByRecursion AreBytes xs in
    subst P is (((a.0, pointer.word, pointer.some, tile.stands), more.0), (tile.bytes, more.1))

pub record HasPlaneOf (file : List ℕ) (at width height bpp compression : ℕ) (p : Plane) : Type 0 where
  pub has : HasPlane file at compression p
  pub is : IsPlaneOf width height bpp p

is_plane : (width height bpp : ℕ) (tiles : List (List ℕ)) → AllByRecursion AreBytes tiles
    → IsPlaneOf width height bpp (plane_of_tiles width height bpp tiles)
is_plane width height bpp tiles h = record {
  width_is = refl;
  height_is = refl;
  bpp_is = refl;
  plane = record {
    full = omega (arith, length-plane_of byte width height bpp, product width height bpp);
    bytes = all_flat_map (λ b. b < 256)
        (λ row. flat_map (λ column. map (λ c. byte column row c) (count_from 0 bpp)) (count_from 0 width))
        (λ row. all_flat_map (λ b. b < 256) (λ column. map (λ c. byte column row c) (count_from 0 bpp))
        (λ column. all_map (λ b. b < 256) (λ c. byte column row c) (λ c. below column row c) (count_from 0 bpp))
        (count_from 0 width)) (count_from 0 height);
  };
}
  where
    byte : (x y c : ℕ) → ℕ
    byte x y c =
        slice_index (get_or tiles ((y / 64) * tiles_along width + x / 64) [])
        (((y % 64) * min 64 (width - 64 * (x / 64)) + x % 64) * bpp + c)

    below : (x y c : ℕ) → byte x y c < 256
    below x y c =
        all_at (λ b. b < 256) (get_or tiles ((y / 64) * tiles_along width + x / 64) [])
        (((y % 64) * min 64 (width - 64 * (x / 64)) + x % 64) * bpp + c) 0
        (all_at AreBytes tiles ((y / 64) * tiles_along width + x / 64) [] h tt) (omega arith)

    product : (w h n : ℕ) → h * (w * n) ≡ w * h * n
    product w h n = omega arith

pub plane_has : (file : List ℕ) (at width height bpp compression : ℕ) (p : Plane) → AreBytes file
    → hierarchy_at file at width height bpp compression ≡ Ok p → HasPlaneOf file at width height bpp compression p
unfolding hierarchy_at
plane_has file at width height bpp compression p all e =
    let a = bind_back (same_word_at file at width BadHierarchy) _ p e in
    let b = bind_back (same_word_at file (at + 4) height BadHierarchy) _ p a.2 in
    let c = bind_back (same_word_at file (at + 8) bpp BadHierarchy) _ p b.2 in
    let d = bind_back (pointer_at file (at + 12) BadHierarchy) _ p c.2 in
    let f = bind_back (same_word_at file d.0 width BadHierarchy) _ p d.2 in
    let g = bind_back (same_word_at file (d.0 + 4) height BadHierarchy) _ p f.2 in
    let k = bind_back (tiles_at (all_tiles width height) file (d.0 + 8) width height bpp compression) _ p g.2 in
    let level = pointer_has file (at + 12) d.0 BadHierarchy d.1 in
    let tiles = tiles_have (all_tiles width height) file (d.0 + 8) width height bpp compression k.0 all
    (have_points width height) k.1 in
    let q = plane_of_tiles width height bpp k.0 in
    let is : q ≡ p = cc in
    subst (HasPlaneOf file at width height bpp compression) is (record {
      has = record {
        width = same_word_has file at width BadHierarchy a.1;
        height = same_word_has file (at + 4) height BadHierarchy b.1;
        bpp = same_word_has file (at + 8) bpp BadHierarchy c.1;
        level = d.0;
        has_level = level.word;
        some_level = level.some;
        level_width = same_word_has file d.0 width BadHierarchy f.1;
        level_height = same_word_has file (d.0 + 4) height BadHierarchy g.1;
        tiles = k.0;
        have_tiles = tiles.0;
        plane_is = refl;
      };
      is = is_plane width height bpp k.0 tiles.1;
    })
