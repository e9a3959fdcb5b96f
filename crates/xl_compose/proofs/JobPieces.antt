-- The pieces of a job, in their scratch.
use Rattle.std.proofs.Common.{◌≡◌, ℕ, ◌+◌, ◌*◌, ◌≤◌, List, [], ◌∷◌, length, take, replicate, length-take-le, inl, inr}
use Rattle.std.proofs.Common.{sym, ◌∙◌, ap, subst, arith, mul_comm, mul-le-mul_right}
use Rattle.std.specs.Prelude.{Some}
use Rattle.std.proofs.lemmas.Bool.{cases_lt}
use Rattle.std.proofs.lemmas.List.{get_or-take, get_or-replicate, get_or_past, length-replicate}
use Rattle.spec_document.specs.declared.Pixel.{Pixel}
use Rattle.spec_document.specs.Over.{clear}
use Rattle.spec_document.specs.Forest.{stack_at}
use Rattle.spec_document.specs.declared.TileAt.{TileAt}
use Rattle.spec_document.specs.Document.{Document, Nodes}
use Rattle.spec_document.specs.Picture.{picture, pixel_of}
use Rattle.xl_compose.specs.declared.pieces.Piece.{Piece}
use Rattle.xl_compose.specs.declared.span.Band.{Band}
use Rattle.xl_compose.specs.Added.{AreAdded}
use Rattle.xl_compose.specs.Cost.{tile_points, visible_in, visible_of, visible_below}
use Rattle.xl_compose.specs.Job.{Job, StandsFor, planned}
use Rattle.xl_compose.specs.JobScratch.{AreFor, tile_band}
use Rattle.xl_compose.specs.Laid.{pixel}
use Rattle.xl_compose.specs.Levels.{AreIn, AreShown, points}
use Rattle.xl_compose.specs.Pieces.{AllFit, composed, shown, weights}
use Rattle.xl_compose.specs.Rows.{row_bytes}
use Rattle.xl_compose.proofs.LevelScratch.{inside_band}
use Rattle.xl_compose.proofs.PictureBytes.{rect_same}
use Rattle.xl_compose.proofs.PictureRows.{band_bytes}

-- pieces on so many levels are in the room for so many
pub fit_in : (deep size : ℕ) (band : Band) (pieces : List Piece) → size ≡ deep * points band → AllFit deep band pieces
    → AreIn size band pieces
fit_in deep size band [] is fit = tt
fit_in deep size band (p ∷ pieces) is fit =
    let low : (p.level + 2) * points band ≤ deep * points band = mul-le-mul_right (points band) (omega (arith, fit.0.0)) in
    ((omega (arith, low, is), fit.0.1), fit_in deep size band pieces is fit.1)

-- one level is in it
pub first_in : (deep size n : ℕ) → size ≡ deep * n → 1 ≤ deep → n ≤ size
first_in deep size n is some = let low : 1 * n ≤ deep * n = mul-le-mul_right n some in omega (arith, low, is)

-- the scratch has clear pixels alone
pub all_clear : (n i : ℕ) (scratch : List Pixel) → scratch ≡ replicate n clear → pixel scratch i ≡ clear
all_clear n i scratch is = ap (λ r. pixel r i) is ∙ elim (cases_lt i n) [
  | inl inside ↦ get_or-replicate n i clear clear inside
  | inr past ↦ get_or_past (replicate n clear) i clear (omega (arith, length-replicate n clear, past))
]

-- the picture of level 0 is that of the pieces
pub composed_is : (colours : List (List ℕ)) (band : Band) (pieces : List Piece) (scratch : List Pixel) (n : ℕ) → n ≡ points band
    → points band ≤ length scratch
    → AreShown colours band pieces scratch → row_bytes (take n scratch) ≡ composed colours band pieces
composed_is colours band pieces scratch n same fits is =
    band_bytes (λ k v. shown colours band v k pieces 0) 0 0 band.w band.h (take n scratch)
    (length-take-le n scratch (omega (arith, same, fits)) ∙ same)
    (λ v k hv hk.
    let place : v * band.w + k ≡ 0 * points band + (v * band.w + k) = omega arith in
    let row : v ≡ 0 + v = omega arith in
    let column : k ≡ 0 + k = omega arith in
    get_or-take n scratch (v * band.w + k) clear (omega (arith, inside_band band v k hv hk, same))
    ∙ (ap (pixel scratch) place ∙ (is v k 0 hv hk (omega (arith, fits)) ∙ (λ i. shown colours band (row i) (column i) pieces 0))))

-- the pieces of a stack make its picture
pub are_for : (deep : ℕ) (d : Document) (stack : ℕ) (at : TileAt) (s : Nodes) (old pieces : List Piece) → old ≡ []
    → stack_at stack d.nodes ≡ Some s
    → AreAdded deep d.colours (tile_band d at) 0 s old pieces → AreFor deep d stack at pieces
are_for deep d stack at s old pieces none is added =
    let b = tile_band d at in
    let P : List Piece → Type 0 = AllFit deep b in
    let counted : visible_below d stack ≡ visible_in s = ap visible_of is in
    let nothing : weights old ≡ 0 = ap weights none in
    record {
      fit = added.fit (subst P (sym none) tt);
      shows = rect_same (λ k v. shown d.colours b v k pieces 0) (picture d stack) 0 0 b.x b.y b.w b.h
          (λ v k hv hk.
          let row : 0 + v ≡ v = omega arith in
          let column : 0 + k ≡ k = omega arith in
          (λ i. shown d.colours b (row i) (column i) pieces 0)
          ∙ (added.here v k hv hk ∙ sym (ap (pixel_of d.colours (b.x + k) (b.y + v)) is)));
      cost = omega (arith, added.cost, counted, nothing);
    }

-- the points of the band of a tile
tile_size : (d : Document) (at : TileAt) (b : Band) → b ≡ tile_band d at → points b ≡ tile_points d at
tile_size d at b is = ap points is ∙ mul_comm (tile_band d at).h (tile_band d at).w

-- the job of these pieces stands for the document
pub planned_stands : (deep : ℕ) (d : Document) (stack : ℕ) (at : TileAt) (version : ℕ) (colours : List (List ℕ)) (b : Band)
    (pieces : List Piece) (job : Job)
    → job ≡ planned stack at version colours b pieces → colours ≡ d.colours → b ≡ tile_band d at → AreFor deep d stack at pieces
    → StandsFor d stack at version job
planned_stands deep d stack at version colours b pieces job is colours_are tile for_it =
    let few : weights pieces * points b ≤ visible_below d stack * points b = mul-le-mul_right (points b) for_it.cost in
    let size : visible_below d stack * points b ≡ visible_below d stack * tile_points d at =
    ap (λ n. visible_below d stack * n) (tile_size d at b tile) in
    let cost : job.cost ≡ weights pieces * points b = ap (λ j. j.cost) is in
    record {
      stack_is = ap (λ j. j.stack) is;
      at_is = ap (λ j. j.at) is;
      version_is = ap (λ j. j.version) is;
      picture_is = ap (λ j. j.picture) is ∙ ((λ i. composed (colours_are i) (tile i) pieces) ∙ for_it.shows);
      cost_is = omega (arith, cost, few, size);
    }

-- what it costs
pub planned_costs : (d : Document) (stack : ℕ) (at : TileAt) (version : ℕ) (colours : List (List ℕ)) (b : Band)
    (pieces : List Piece) (job : Job) (count : ℕ)
    → job ≡ planned stack at version colours b pieces → b ≡ tile_band d at → weights pieces ≡ count
    → job.cost ≡ count * tile_points d at
planned_costs d stack at version colours b pieces job count is tile weighs =
    ap (λ j. j.cost) is ∙ (λ i. weighs i * tile_size d at b tile i)
