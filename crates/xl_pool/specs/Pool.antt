-- Slots that no stack has.
use Rattle.std.specs.Prelude.{◌≡◌, ℕ, ◌+◌, ◌≤◌, List}
use Rattle.std.specs.List.{AllByRecursion}
use Rattle.spec_cache.specs.Slots.{Slots}

-- for which canvas they are, how many there are, and for how many there is room
pub record Pool : Type 0 where
  pub width : ℕ
  pub height : ℕ
  pub count : ℕ
  pub room : ℕ

abbrev pub HaveSides : (width height : ℕ) → List Slots → Type 0
HaveSides width height each = AllByRecursion (λ s. (s.width ≡ width) × (s.height ≡ height)) each

-- so many for the canvas, and room for more of them
pub record IsPoolOf (width height count more : ℕ) (p : Pool) : Type 0 where
  pub width_is : p.width ≡ width
  pub height_is : p.height ≡ height
  pub count_is : p.count ≡ count
  pub room_is : count + more ≤ p.room

-- slots for all that come, and room for those that go
pub record IsStocked (come go : ℕ) (p : Pool) : Type 0 where
  pub enough : p.count ≡ come
  pub roomy : come + go ≤ p.room
