-- The pictures of all levels, when one of them was changed.
use Rattle.std.proofs.Common.{◌≡◌, ℕ, suc, ◌+◌, ◌-◌, ◌*◌, ◌<◌, ◌≤◌, ◌⊎◌, inl, inr, Bool, true, false, zero, cond, ◌&&◌}
use Rattle.std.proofs.Common.{nat_lt, List, [], ◌∷◌, ◌++◌, length, get_or, take, drop, length-take-le, refl, sym, ◌∙◌}
use Rattle.std.proofs.Common.{ap, subst, arith, mul_comm, mul-le-mul_right}
use Rattle.std.specs.Prelude.{nat_le}
use Rattle.std.proofs.lemmas.Bool.{cases_order, cases_eq, le-leb, lt-ltb}
use Rattle.std.proofs.lemmas.List.{get_or-take, get_or-drop, length-drop, length-map}
use Rattle.std.proofs.lemmas.Nat.{mul-add-lt}
use borrow.Rule.Slice.PartMut.{put_mid}
use Rattle.spec_document.specs.declared.Mode.{Mode}
use Rattle.spec_document.specs.declared.Pixel.{Pixel}
use Rattle.spec_document.specs.Over.{clear, over}
use Rattle.spec_document.specs.Source.{faded}
use Rattle.xl_blend.specs.Rows.{faded_row}
use Rattle.xl_doc.specs.Sheet.{Sheet}
use Rattle.xl_compose.specs.declared.pieces.Piece.{Piece}
use Rattle.xl_compose.specs.declared.pieces.What.{What}
use Rattle.xl_compose.specs.declared.pieces.What.TheVariants.{Blank, Leaf, Clean, Stack}
use Rattle.xl_compose.specs.declared.span.Band.{Band}
use Rattle.xl_compose.specs.Laid.{pixel, AreLaid}
use Rattle.xl_compose.specs.Levels.{AreIn, AreSet, AreShown, IsIn, IsLaid, points}
use Rattle.xl_compose.specs.Neat.{IsNeat}
use Rattle.xl_compose.specs.Pieces.{IsSized, after, changed, kept_pixel, run, shown}
use Rattle.xl_compose.specs.Source.{sheet_source}
use Rattle.xl_compose.proofs.NeatPixels.{over_neat}
use Rattle.xl_compose.proofs.Parts.{put_before, put_inside, put_after}
use Rattle.xl_compose.proofs.PieceRuns.{shown-beside, shown-own}
use Rattle.xl_compose.proofs.Sources.{fade_pixel}

inside_test : (at n i : ℕ) (x y : Pixel) → i < n → cond (nat_le at (at + i) && nat_lt (at + i) (at + n)) x y ≡ x
inside_test at n i x y h =
    ap (λ b. cond (b && nat_lt (at + i) (at + n)) x y) (le-leb at (at + i) (omega arith))
    ∙ ap (λ b. cond b x y) (lt-ltb (at + i) (at + n) (omega (arith, h)))

-- the picture that follows is laid over one, with an opacity
pub next_here : (mode : Mode) (opacity at n m : ℕ) (old copied above new : List Pixel) → m ≡ n → at + n + n ≤ length old
    → copied ≡ take m (drop (at + n) old)
    → above ≡ faded_row opacity copied → AreLaid mode at above old new
    → (i : ℕ) → i < n → pixel new (at + i) ≡ over mode (pixel old (at + i)) (faded opacity (pixel old (at + n + i)))
next_here mode opacity at n m old copied above new same fits copied_is above_is laid i h =
    let size : length copied ≡ n = ap length copied_is
    ∙ (length-take-le m (drop (at + n) old) (omega (arith, length-drop (at + n) old, fits, same)) ∙ same) in
    let many : length above ≡ n = ap length above_is ∙ (length-map copied (λ (p : Pixel). faded opacity p) ∙ size) in
    let place : at + i - at ≡ i = omega arith in
    let source : pixel copied i ≡ pixel old (at + n + i) =
    ap (λ row. pixel row i) copied_is
    ∙ (get_or-take m (drop (at + n) old) i clear (omega (arith, h, same)) ∙ get_or-drop (at + n) old i clear) in
    laid (at + i)
    ∙ (inside_test at (length above) i (over mode (pixel old (at + i)) (pixel above (at + i - at))) (pixel old (at + i))
    (omega (arith, h, many))
    ∙ ap (over mode (pixel old (at + i)))
    (ap (pixel above) place ∙ (ap (λ row. pixel row i) above_is
    ∙ (fade_pixel opacity copied i (omega (arith, h, size)) ∙ ap (faded opacity) source))))

-- a point of the band has a place in the picture
pub inside_band : (band : Band) (v k : ℕ) → v < band.h → k < band.w → v * band.w + k < points band
inside_band band v k hv hk = omega (arith, mul-add-lt v band.w k band.h hv hk, mul_comm band.w band.h)

-- a picture is put in place
pub set_part : (band : Band) (at m : ℕ) (of : ℕ → ℕ → Pixel) (scratch part : List Pixel) → m ≡ points band
    → length part ≡ points band → at + points band ≤ length scratch
    → ((v k : ℕ) → v < band.h → k < band.w → pixel part (v * band.w + k) ≡ of v k)
    → AreSet band at of scratch (put_mid at m scratch part)
set_part band at m of scratch part same many fits each = record {
  here = λ v k hv hk.
      let i = v * band.w + k in
      let inside : i < points band = inside_band band v k hv hk in
      let place : at + i - at ≡ i = omega arith in
      put_inside scratch part at m (many ∙ sym same) (omega (arith, same, fits)) (at + i) (omega arith)
      (omega (arith, inside, same))
      ∙ (ap (pixel part) place ∙ each v k hv hk);
  beside = λ i out. beside i out;
}
  where
    beside : (i : ℕ) → (i < at) ⊎ (at + points band ≤ i) → pixel (put_mid at m scratch part) i ≡ pixel scratch i
    beside i (inl low) = put_before scratch part at m (many ∙ sym same) (omega (arith, same, fits)) i low
    beside i (inr high) = put_after scratch part at m (many ∙ sym same) (omega (arith, same, fits)) i (omega (arith, same, high))

-- a layer is laid
pub leaf_laid : (colours : List (List ℕ)) (band : Band) (piece : Piece) (mode : Mode) (opacity : ℕ) (layer : Sheet) (m : ℕ)
    (scratch part : List Pixel)
    → piece.what ≡ Leaf mode opacity layer → m ≡ points band → length part ≡ points band
    → piece.level * points band + points band ≤ length scratch
    → ((v k : ℕ) → v < band.h → k < band.w
    → pixel part (v * band.w + k) ≡ over mode (pixel (take m (drop (piece.level * points band) scratch)) (v * band.w + k))
    (sheet_source colours opacity layer (band.x + k) (band.y + v)))
    → IsLaid colours band piece scratch (put_mid (piece.level * points band) m scratch part)
leaf_laid colours band piece mode opacity layer m scratch part is same many fits each =
    let at = piece.level * points band in
    set_part band at m (λ v k. changed colours band v k piece.what (pixel scratch (at + (v * band.w + k)))
    (pixel scratch (at + points band + (v * band.w + k)))) scratch part same many fits
    (λ v k hv hk.
    let i = v * band.w + k in
    let inside : i < points band = inside_band band v k hv hk in
    each v k hv hk
    ∙ (ap (λ p. over mode p (sheet_source colours opacity layer (band.x + k) (band.y + v)))
    (get_or-take m (drop at scratch) i clear (omega (arith, inside, same)) ∙ get_or-drop at scratch i clear)
    ∙ ap (λ what. changed colours band v k what (pixel scratch (at + i)) (pixel scratch (at + points band + i))) (sym is)))

-- a picture is copied
pub clean_laid : (colours : List (List ℕ)) (band : Band) (piece : Piece) (bytes : List ℕ) (m : ℕ) (scratch part : List Pixel)
    → piece.what ≡ Clean bytes → m ≡ points band → length part ≡ points band
    → piece.level * points band + points band ≤ length scratch
    → ((k : ℕ) → k < points band → pixel part k ≡ kept_pixel bytes k)
    → IsLaid colours band piece scratch (put_mid (piece.level * points band) m scratch part)
clean_laid colours band piece bytes m scratch part is same many fits each =
    let at = piece.level * points band in
    set_part band at m (λ v k. changed colours band v k piece.what (pixel scratch (at + (v * band.w + k)))
    (pixel scratch (at + points band + (v * band.w + k)))) scratch part same many fits
    (λ v k hv hk.
    let i = v * band.w + k in
    each i (inside_band band v k hv hk)
    ∙ ap (λ what. changed colours band v k what (pixel scratch (at + i)) (pixel scratch (at + points band + i))) (sym is))

changed_neat : (colours : List (List ℕ)) (band : Band) (v k : ℕ) (what : What) (own next : Pixel) → v < band.h → k < band.w
    → IsSized band what → IsNeat own
    → IsNeat (changed colours band v k what own next)
changed_neat colours band v k Blank own next hv hk sized neat = λ h. refl
changed_neat colours band v k (Leaf mode opacity layer) own next hv hk sized neat =
    over_neat mode own (sheet_source colours opacity layer (band.x + k) (band.y + v)) neat
changed_neat colours band v k (Clean picture) own next hv hk sized neat = sized.neat v k hv hk
changed_neat colours band v k (Stack mode opacity) own next hv hk sized neat = over_neat mode own (faded opacity next) neat

neat_or : (b : Bool) (x y : Pixel) → IsNeat x → IsNeat y → IsNeat (cond b x y)
neat_or true x y p q = p
neat_or false x y p q = q

run_neat : (colours : List (List ℕ)) (band : Band) (v k size : ℕ) (pieces : List Piece) (of : ℕ → Pixel) → v < band.h → k < band.w
    → AreIn size band pieces
    → ((l : ℕ) → IsNeat (of l)) → (l : ℕ) → IsNeat (run colours band v k pieces of l)
run_neat colours band v k size [] of hv hk fit neat l = neat l
run_neat colours band v k size (p ∷ pieces) of hv hk fit neat l =
    run_neat colours band v k size pieces (after colours band v k p of) hv hk fit.1
    (λ j. neat_or _ _ _ (changed_neat colours band v k p.what (of p.level) (of (p.level + 1)) hv hk fit.0.1 (neat p.level))
    (neat j)) l

all-take : (size : ℕ) (band : Band) (i : ℕ) (pieces : List Piece) → AreIn size band pieces → AreIn size band (take i pieces)
all-take size band zero pieces fit = tt
all-take size band (suc i) [] fit = tt
all-take size band (suc i) (p ∷ pieces) fit = (fit.0, all-take size band i pieces fit.1)

-- one of the pieces
pub in_at : (size : ℕ) (band : Band) (pieces : List Piece) (i : ℕ) (d : Piece) → i < length pieces → AreIn size band pieces
    → IsIn size band (get_or pieces i d)
in_at size band [] i d h fit = absurd (omega (arith, h))
in_at size band (p ∷ pieces) zero d h fit = fit.0
in_at size band (p ∷ pieces) (suc i) d h fit = in_at size band pieces i d (omega (arith, h)) fit.1

-- every picture has such pixels alone
pub scratch_neat : (colours : List (List ℕ)) (band : Band) (i : ℕ) (pieces : List Piece) (scratch : List Pixel) (level : ℕ)
    → AreIn (length scratch) band pieces
    → AreShown colours band (take i pieces) scratch → (level + 2) * points band ≤ length scratch
    → (v k : ℕ) → v < band.h → k < band.w → IsNeat (pixel scratch (level * points band + (v * band.w + k)))
scratch_neat colours band i pieces scratch level fit is fits v k hv hk =
    let P : Pixel → Type 0 = IsNeat in
    subst P (sym (is v k level hv hk (omega (arith, fits))))
    (run_neat colours band v k (length scratch) (take i pieces) (λ l. clear) hv hk (all-take (length scratch) band i pieces fit)
    (λ l h. refl) level)

-- another level begins past the end of the picture, or ends before it
apart : (points l level i : ℕ) → i < points → (l ≡ level → ⊥)
    → (l * points + i < level * points) ⊎ (level * points + points ≤ l * points + i)
apart points l level i inside other = elim (cases_order l level) [
  | inl same ↦ absurd (other same)
  | inr others ↦ elim others [
    | inl low ↦ inl (let next : suc l * points ≤ level * points = mul-le-mul_right points (omega (arith, low)) in
        omega (arith, next, inside))
    | inr high ↦ inr (let next : suc level * points ≤ l * points = mul-le-mul_right points (omega (arith, high)) in
        omega (arith, next))
  ]
]

-- one piece more
pub laid_more : (colours : List (List ℕ)) (band : Band) (pieces : List Piece) (p : Piece) (old new : List Pixel)
    → length new ≡ length old → (p.level + 2) * points band ≤ length old
    → AreShown colours band pieces old → IsLaid colours band p old new → AreShown colours band (pieces ++ p ∷ []) new
laid_more colours band pieces p old new size fits before laid v k l hv hk inside = elim (cases_eq l p.level) [
  | inl same ↦
      let i = v * band.w + k in
      let at = p.level * points band in
      let here : pixel old (at + i) ≡ shown colours band v k pieces p.level = before v k p.level hv hk (omega (arith, fits)) in
      let there : at + points band + i ≡ (p.level + 1) * points band + i = omega arith in
      let next : pixel old (at + points band + i) ≡ shown colours band v k pieces (p.level + 1) = ap (pixel old) there
      ∙ before v k (p.level + 1) hv hk (omega (arith, fits)) in
      ap (λ n. pixel new (n * points band + i)) same
      ∙ (laid.here v k hv hk
      ∙ ((λ j. changed colours band v k p.what (here j) (next j))
      ∙ (sym (shown-own colours band v k pieces p.level p.what) ∙ ap (shown colours band v k (pieces ++ p ∷ [])) (sym same))))
  | inr other ↦
      let i = v * band.w + k in
      laid.beside (l * points band + i) (apart (points band) l p.level i (inside_band band v k hv hk) other)
      ∙ (before v k l hv hk (omega (arith, inside, size)) ∙ sym (shown-beside colours band v k pieces p.level p.what l other))
]
