-- The reading of a plane is that of its level and then that of its tiles.
use Rattle.std.proofs.Common.{◌≡◌, ℕ, ◌+◌, List, refl}
use Rattle.std.specs.Prelude.{Ok, Err}
use Rattle.spec_fields.specs.declared.Kind.TheVariants.{BadHierarchy}
use Rattle.spec_fields.specs.Reading.{Read, ◌>>=◌}
use Rattle.spec_hierarchy.specs.Reading.{same_word_at, pointer_at, hierarchy_at}
use Rattle.xl_hier.specs.Level.{level_at, pixels_at}

-- two steps behind another
then_last : {A : Type 0} (a b : Read (Unit {0})) (level : ℕ) (rest : ℕ → Read A)
    → (a >>= (λ _. b >>= (λ _. rest level))) ≡ ((a >>= (λ _. b >>= (λ _. Ok level))) >>= rest)
then_last (Ok x) (Ok y) level rest = refl
then_last (Ok x) (Err e) level rest = refl
then_last (Err e) b level rest = refl

then_level : {A : Type 0} (a b c : Read (Unit {0})) (pointer : Read ℕ) (d e : ℕ → Read (Unit {0})) (rest : ℕ → Read A)
    → (a >>= (λ _. b >>= (λ _. c >>= (λ _. pointer >>= (λ level. d level >>= (λ _. e level >>= (λ _. rest level)))))))
    ≡ ((a >>= (λ _. b >>= (λ _. c >>= (λ _. pointer >>= (λ level. d level >>= (λ _. e level >>= (λ _. Ok level))))))) >>= rest)
then_level (Err f) b c pointer d e rest = refl
then_level (Ok x) (Err f) c pointer d e rest = refl
then_level (Ok x) (Ok y) (Err f) pointer d e rest = refl
then_level (Ok x) (Ok y) (Ok z) (Err f) d e rest = refl
then_level (Ok x) (Ok y) (Ok z) (Ok level) d e rest = then_last (d level) (e level) level rest

pub hierarchy_is : (file : List ℕ) (at width height bpp compression : ℕ)
    → hierarchy_at file at width height bpp compression
    ≡ (level_at file at width height bpp >>= (λ level. pixels_at file (level + 8) width height bpp compression))
unfolding hierarchy_at
hierarchy_is file at width height bpp compression =
    then_level (same_word_at file at width BadHierarchy) (same_word_at file (at + 4) height BadHierarchy)
    (same_word_at file (at + 8) bpp BadHierarchy)
    (pointer_at file (at + 12) BadHierarchy) (λ level. same_word_at file level width BadHierarchy)
    (λ level. same_word_at file (level + 4) height BadHierarchy)
    (λ level. pixels_at file (level + 8) width height bpp compression)
