-- What a branch holds.
use Rattle.std.specs.Prelude.{ℕ, refl}
use Rattle.std.specs.Coded.{Coded, code_by, coded×, coded_ℕ}
use Rattle.spec_document.specs.Forest.{Forest}
use Rattle.spec_document.specs.ForestCode.{coded_forest}

-- the nodes, and room for so many
pub record Held (N : Type 0) : Type 0 where
  pub forest : Forest N N
  pub room : ℕ

-- it is stored as the pair of its fields
abbrev pub held_code : {N : Type 0} → Coded N → Coded (Held N)
held_code {N} c =
    code_by (Forest N N × ℕ) (coded× (coded_forest c c) coded_ℕ) (λ h. (h.forest, h.room))
    (λ p. record { forest = p.0; room = p.1 }) (λ _. refl)
