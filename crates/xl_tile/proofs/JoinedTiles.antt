-- Pixels that are joined from planes are those that reading interleaves.
use Rattle.std.proofs.Common.{◌≡◌, ℕ, zero, suc, ◌+◌, ◌*◌, ◌/◌, ◌%◌, ◌<◌, List, [], length, drop, map}
use Rattle.std.proofs.Common.{slice_index, get_or, refl, sym, ap, ◌∙◌, arith}
use Rattle.std.specs.Prelude.{Ok, Err}
use Rattle.std.proofs.lemmas.List.{ext_get_or, get_or-map, length-map}
use Rattle.std.proofs.lemmas.Nat.{div-add-mod'}
use Rattle.std.proofs.Math.Nat.{mod-lt, div-lt_iff_lt-mul}
use Rattle.spec_document.proofs.PlaneLemmas.{index-pieces, length-pieces}
use Rattle.spec_fields.specs.declared.ReadRefused.{ReadRefused}
use Rattle.spec_fields.specs.Reading.{◌>>=◌}
use Rattle.spec_hierarchy.specs.Tiles.{interleaved}
use Rattle.spec_hierarchy.specs.Reading.{planes_at, tile_at}
use Rattle.xl_tile.specs.Joined.{IsJoined, pieces}

pub length_of_pieces : (count n : ℕ) (bytes : List ℕ) → length (pieces count n bytes) ≡ count
length_of_pieces zero n bytes = refl
length_of_pieces (suc count) n bytes = omega (arith, length_of_pieces count n (drop n bytes))

pub positive_right : (a b i : ℕ) → i < a * b → 0 < b
positive_right a zero i h = absurd (omega (arith, h))
positive_right a (suc b) i h = omega arith

-- a byte of a pixel
pub byte_of_interleaved : (b n : ℕ) (planes : List (List ℕ)) (k c : ℕ) → length planes ≡ b → k < n → c < b
    → slice_index (interleaved n planes) (k * b + c) ≡ slice_index (get_or planes c []) k
byte_of_interleaved b n planes k c count hk hc =
    let pixel : ℕ → List ℕ = λ v. map (λ plane. slice_index plane v) planes in
    let each : (v : ℕ) → length (pixel v) ≡ b = λ v. length-map planes (λ plane. slice_index plane v) ∙ count in
    let start : 0 + k ≡ k = omega arith in
    index-pieces pixel b each 0 n k c hk hc
    ∙ (ap (λ v. slice_index (pixel v) c) start
    ∙ get_or-map (λ plane. slice_index plane k) planes c [] 0 (omega (arith, hc, count)))

pub joined_is : (b n : ℕ) (planes : List (List ℕ)) (tile : List ℕ) → length planes ≡ b → length tile ≡ n * b
    → IsJoined b n planes tile → tile ≡ interleaved n planes
joined_is b n planes tile count size joined =
    let pixel : ℕ → List ℕ = λ k. map (λ plane. slice_index plane k) planes in
    let each : (v : ℕ) → length (pixel v) ≡ b = λ v. length-map planes (λ plane. slice_index plane v) ∙ count in
    ext_get_or 0 tile (interleaved n planes) (size ∙ sym (length-pieces pixel b each 0 n)) (λ i hi.
    let within : i < n * b = omega (arith, hi, size) in
    let some : 0 < b = positive_right n b i within in
    let k : i / b < n = (div-lt_iff_lt-mul some).1 within in
    let c : i % b < b = mod-lt i some in
    let place : (i / b) * b + i % b ≡ i = div-add-mod' i b in
    ap (slice_index tile) (sym place)
    ∙ (joined (i / b) (i % b) k c
    ∙ (sym (byte_of_interleaved b n planes (i / b) (i % b) count k c) ∙ ap (slice_index (interleaved n planes)) place)))

pub tile_stops : (file : List ℕ) (at n bpp : ℕ) (e : ReadRefused) → planes_at bpp file at n ≡ Err e
    → tile_at file at n bpp 1 ≡ Err e
unfolding tile_at
tile_stops file at n bpp e h = ap (λ r. r >>= (λ planes. Ok (interleaved n planes))) h
