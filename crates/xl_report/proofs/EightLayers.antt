-- The document with eight layers in two groups is within the limits.
use Rattle.std.proofs.Common.{◌≡◌, List, [], ◌∷◌, length, refl, sym, subst, arith}
use Rattle.std.proofs.lemmas.Int.{ints}
use Rattle.std.specs.Prelude.{slice_index}
use Rattle.std.specs.List.{AllByRecursion, IsDistinct}
use Rattle.spec_document.specs.declared.Base.TheVariants.{Rgb}
use Rattle.spec_document.specs.declared.Owner.{Owner}
use Rattle.spec_document.specs.declared.Owner.TheVariants as owners
use Rattle.spec_document.specs.Limits.{AreIds, AreKept, IsDocument, IsGroup, IsLayer, IsName}
use Rattle.spec_document.proofs.BytesMade.{plane_made, index_byte}
use Rattle.spec_generated.specs.Generated.{Look, document_with, layer_of, plain_group}
use Rattle.xl_report.specs.Looks.{IsLook}

-- a list of eight
pub record Eight {A : Type 0} (xs : List A) : Type 0 where
  pub a : A
  pub b : A
  pub c : A
  pub d : A
  pub e : A
  pub f : A
  pub g : A
  pub h : A
  pub is : xs ≡ a ∷ b ∷ c ∷ d ∷ e ∷ f ∷ g ∷ h ∷ []

pub eight : {A : Type 0} (xs : List A) → length xs ≡ 8 → Eight xs
eight [] n = absurd (omega (arith, n))
eight (a ∷ []) n = absurd (omega (arith, n))
eight (a ∷ b ∷ []) n = absurd (omega (arith, n))
eight (a ∷ b ∷ c ∷ []) n = absurd (omega (arith, n))
eight (a ∷ b ∷ c ∷ d ∷ []) n = absurd (omega (arith, n))
eight (a ∷ b ∷ c ∷ d ∷ e ∷ []) n = absurd (omega (arith, n))
eight (a ∷ b ∷ c ∷ d ∷ e ∷ f ∷ []) n = absurd (omega (arith, n))
eight (a ∷ b ∷ c ∷ d ∷ e ∷ f ∷ g ∷ []) n = absurd (omega (arith, n))
eight (a ∷ b ∷ c ∷ d ∷ e ∷ f ∷ g ∷ h ∷ []) n = record { a = a; b = b; c = c; d = d; e = e; f = f; g = g; h = h; is = refl }
eight (a ∷ b ∷ c ∷ d ∷ e ∷ f ∷ g ∷ h ∷ i ∷ more) n = absurd (omega (arith, n))

no_name : IsName []
no_name = record { short = omega arith; bytes = tt; no_zero = tt }

none_kept : (owner : Owner) → AreKept owner []
none_kept owner = record { few = omega arith; each = tt }

is_layer : (l : Look) → IsLook l → IsLayer Rgb (layer_of l)
is_layer l fits = record {
  name = no_name;
  opacity = fits.opacity;
  kept = none_kept owners.Layer;
  kind = omega arith;
  base_is = refl;
  x = (omega (arith, ints), omega (arith, ints, fits.x));
  y = (omega (arith, ints), omega (arith, ints, fits.y));
  width = (omega arith, omega arith);
  height = (omega arith, omega arith);
  plane = plane_made (λ x y c. slice_index l.pixel c) 512 384 4 (λ x y c. index_byte l.pixel c fits.bytes);
  mask = tt;
}

is_group : IsGroup plain_group
is_group = record { name = no_name; opacity = omega arith; kept = none_kept owners.Layer }

ten : AreIds (1 ∷ 2 ∷ 3 ∷ 4 ∷ 5 ∷ 6 ∷ 7 ∷ 8 ∷ 9 ∷ 10 ∷ [])
unfolding IsDistinct
ten = record {
  distinct = search;
  positive = (
    omega arith,
    (
      omega arith,
      (omega arith, (omega arith, (omega arith, (omega arith, (omega arith, (omega arith, (omega arith, (omega arith, tt)))))))),
    ),
  );
  word = (
    omega arith,
    (
      omega arith,
      (omega arith, (omega arith, (omega arith, (omega arith, (omega arith, (omega arith, (omega arith, (omega arith, tt)))))))),
    ),
  );
}

module _ (a b c d e f g h : Look) where
  abbrev looks : List Look
  looks = a ∷ b ∷ c ∷ d ∷ e ∷ f ∷ g ∷ h ∷ []

  eight_are : AllByRecursion IsLook looks → IsDocument (document_with looks)
  eight_are fit = record {
    width = (omega arith, omega arith);
    height = (omega arith, omega arith);
    compression = omega arith;
    colours = refl;
    kept = none_kept owners.Image;
    nodes = (
      (tt, is_group),
      (
        (is_layer a fit.0, (is_layer b fit.1.0, (is_layer c fit.1.1.0, (is_layer d fit.1.1.1.0, tt)))),
        (
          (tt, is_group),
          (
            (
              is_layer e fit.1.1.1.1.0,
              (
                is_layer f fit.1.1.1.1.1.0,
                (is_layer g fit.1.1.1.1.1.1.0, (is_layer h fit.1.1.1.1.1.1.1.0, tt)),
              ),
            ),
            tt,
          ),
        ),
      ),
    );
    ids = ten;
    few = omega arith;
    low = omega arith;
    channels = tt;
    few_channels = omega arith;
    selection = tt;
    area = omega arith;
    kept_bytes = omega arith;
  }

pub made_is_document : (looks : List Look) → length looks ≡ 8 → AllByRecursion IsLook looks → IsDocument (document_with looks)
made_is_document looks n fit =
    let x = eight looks n in
    let P : List Look → Type 0 = λ ls. AllByRecursion IsLook ls → IsDocument (document_with ls) in
    subst P (sym x.is) (eight_are x.a x.b x.c x.d x.e x.f x.g x.h) fit
