-- What is drawn from a seed, as the code draws it.
use Rattle.std.specs.Prelude.{◌≡◌, ℕ, List, ◌++◌}
use Rattle.spec_generated.specs.Draws.{Draws}

-- this is drawn at a state, and the next state is left
abbrev pub IsDrawn : {A : Type 0} → Draws A → (old : ℕ) → A → (new : ℕ) → Type 0
IsDrawn draws old what new = draws old ≡ record { what = what; state = new }

-- what is drawn at a state comes behind what was there, and the next state is left
abbrev pub AddsDrawn : {A : Type 0} → Draws (List A) → (old : ℕ) → (before after : List A) → (new : ℕ) → Type 0
AddsDrawn draws old before after new = let d = draws old in (after ≡ before ++ d.what) × (new ≡ d.state)
