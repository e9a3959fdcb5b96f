-- Bands that were read beside one another are put together in their order.
use Rattle.std.proofs.Common.{◌≡◌, ℕ, suc, ◌+◌, ◌<◌, List, [], ◌∷◌, ◌++◌, length, get_or, ap, subst, ◌∙◌, arith}
use Rattle.std.proofs.Common.{append-nil, take, drop}
use Rattle.std.proofs.lemmas.List.{drop_all, take_all}
use Rattle.std.specs.Prelude.{Ok, Err}
use Rattle.spec_document.specs.Grid.{tiles_along}
use Rattle.xl_fields.specs.declared.refusal.ReadRefusedOrMemory.{ReadRefusedOrMemory}
use Rattle.xl_hier.specs.declared.beside.BandRoom.{BandRoom}
use Rattle.xl_hier.specs.declared.frame.Frame.{Frame}
use Rattle.xl_hier.specs.Bands.{BandRead}
use Rattle.xl_hier.specs.SoFar.{SoFar, HasRead}
use Rattle.xl_hier.proofs.BandsRead.{none_read, band_next, band_fault}

-- each of the bands from a row on is read by itself
abbrev pub AreRead : (file : List ℕ) (first : ℕ) → Frame → (row : ℕ) → List BandRoom → Type 0
AreRead file first f row bands = (k : ℕ) (d : BandRoom) → k < length bands
    → BandRead file first f (row + k) [] (get_or bands k d).tiles.items (get_or bands k d).outcome

-- the bands above a row are put together, and those from it on are read
pub record Joining (file : List ℕ) (first : ℕ) (f : Frame) (bands : List BandRoom) (tiles : List (List ℕ)) : Type 0 where
  pub row : ℕ
  pub left : row + length bands ≡ tiles_along f.height
  pub so_far : SoFar file first f row tiles
  pub read : AreRead file first f row bands

-- the items of a vector that was written to as a slice
pub written_items : (n : ℕ) (items now all : List BandRoom) → items ≡ take n (now ++ drop (length now) all) → length now ≡ length all
    → n ≡ length all → items ≡ now
written_items n items now all is same count =
    let none : drop (length now) all ≡ [] = drop_all (length now) all (omega (arith, same)) in
    is ∙ (ap (λ xs. take n (now ++ xs)) none ∙ (ap (take n) (append-nil now) ∙ take_all n now (omega (arith, same, count))))

-- none is put together yet
pub none_joined : (file : List ℕ) (first : ℕ) (f : Frame) (bands : List BandRoom) (tiles : List (List ℕ)) → tiles ≡ []
    → length bands ≡ tiles_along f.height
    → ((k : ℕ) (d : BandRoom) → k < length bands
    → BandRead file first f k [] (get_or bands k d).tiles.items (get_or bands k d).outcome)
    → Joining file first f bands tiles
none_joined file first f bands tiles none count read = record {
  row = 0;
  left = omega (arith, count);
  so_far = none_read file first f tiles none;
  read = λ k d h.
      let same : k ≡ 0 + k = omega arith in
      subst (λ n. BandRead file first f n [] (get_or bands k d).tiles.items (get_or bands k d).outcome) same (read k d h);
}

module _ {file : List ℕ} {first : ℕ} {f : Frame} {bands : List BandRoom} {tiles : List (List ℕ)} (band : BandRoom) (rest : List BandRoom)
    (up : Joining file first f bands tiles) (turn : bands ≡ band ∷ rest) where
  now : Joining file first f (band ∷ rest) tiles
  now = subst (λ (bs : List BandRoom). Joining file first f bs tiles) turn up

  within : now.row < tiles_along f.height
  within = omega (arith, now.left)

  first_read : BandRead file first f now.row [] band.tiles.items band.outcome
  first_read =
      let here : now.row + 0 ≡ now.row = omega arith in
      subst (λ n. BandRead file first f n [] band.tiles.items band.outcome) here (now.read 0 band (omega arith))

  -- the first of those that are left is put behind
  pub joined_more : band.outcome ≡ Ok tt → (next : List (List ℕ)) → next ≡ tiles ++ band.tiles.items → Joining file first f rest next
  joined_more fine next is =
      let read = subst (BandRead file first f now.row [] band.tiles.items) fine first_read in
      let step : suc now.row ≡ now.row + 1 = omega arith in
      record {
        row = now.row + 1;
        left = omega (arith, now.left);
        so_far = band_next now.so_far within (read.0, read.1, is ∙ ap (λ xs. tiles ++ xs) read.2);
        read = λ k d h.
            let place : now.row + suc k ≡ now.row + 1 + k = omega arith in
            subst (λ n. BandRead file first f n [] (get_or rest k d).tiles.items (get_or rest k d).outcome) place
            (now.read (suc k) d (omega (arith, h)));
      }

  -- its fault is that of all tiles
  pub joined_fault : (e : ReadRefusedOrMemory) → band.outcome ≡ Err e → HasRead file first f (Err e)
  joined_fault e bad =
      band_fault now.so_far within e [] band.tiles.items (subst (BandRead file first f now.row [] band.tiles.items) bad first_read)
