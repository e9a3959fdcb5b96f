use Rattle.std.proofs.Common.{ℕ, ◌*◌, ◌/◌, ◌%◌, ◌^◌, List, [], ◌∷◌, map, refl, ◌∙◌, sym, subst, arith, Fits}
use Rattle.std.specs.Simd.Lanes.{Each1}
use Rattle.std.proofs.lemmas.List.{map-id}
use Rattle.std.proofs.lemmas.Simd.{zip2_of_maps, splat_is_map}
use mir.Syntax.{w16}
use Rattle.xl_blend.proofs.LaneWise.{agreed_one}
use Rattle.xl_blend.proofs.LaneArithmetic.{part16, part16_is}
use Rattle.xl_blend.proofs.lanes.divided_by_255.Goals as goal

abbrev product : (x y : ℕ) → ℕ
product x y = x * y % 4294967296

abbrev high : (x y : ℕ) → ℕ
high x y = x / 2 ^ y

high_fits : (xs : List ℕ) → Each1 (Fits w16) (map (λ x. high (product x 257) 16) xs)
high_fits [] = tt
high_fits (x ∷ xs) = (record { fits = omega arith }, high_fits xs)

pub overflow_cast-result-2 : goal.overflow_cast-result-2
overflow_cast-result-2 c =
    let xs = c.args.of in
    let multiplied = zip2_of_maps product (λ x. x) (λ x. 257) xs refl (splat_is_map xs 16 257 c.fits-of.0) in
    let shifted = zip2_of_maps high (λ x. product x 257) (λ x. 16) xs multiplied (splat_is_map xs 16 16 c.fits-of.0) in
    subst (Each1 (Fits w16)) (sym shifted) (high_fits xs)

pub returns : goal.returns
returns c =
    let xs = c.args.of in
    let multiplied = zip2_of_maps product (λ x. x) (λ x. 257) xs refl (splat_is_map xs 16 257 c.fits-of.0) in
    let shifted = zip2_of_maps high (λ x. product x 257) (λ x. 16) xs multiplied (splat_is_map xs 16 16 c.fits-of.0) in
    map-id _ ∙ shifted ∙ agreed_one (λ x. high (product x 257) 16) part16 xs c.fits-of.1 part16_is
