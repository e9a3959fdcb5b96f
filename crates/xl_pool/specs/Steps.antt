-- Stacks that go and come one after another.
use Rattle.std.specs.Prelude.{◌≡◌, ℕ, ◌<◌, true, false, List, [], ◌∷◌, length}
use Rattle.spec_cache.specs.Cache.{Cache, has_slots, add_stack, drop_stack}
use Rattle.spec_cache.specs.declared.TheConstants.{MAX_STACKS}

-- each has slots when its turn comes
abbrev pub AreGoing : List ℕ → Cache → Type 0
AreGoing [] cache = Unit {0}
AreGoing (s ∷ ss) cache = (has_slots cache s ≡ true) × AreGoing ss (drop_stack s cache)

-- each has none when its turn comes, and there is room
abbrev pub AreComing : List ℕ → (width height version : ℕ) → Cache → Type 0
AreComing [] width height version cache = Unit {0}
AreComing (s ∷ ss) width height version cache =
    (has_slots cache s ≡ false) × ((length cache.held < MAX_STACKS)
    × AreComing ss width height version (add_stack s width height version cache))
