-- Worked bytes of tables.
use Rattle.std.specs.Prelude.{◌≡◌, [], ◌∷◌, ◌^◌, ◌-◌, refl, map}
use Rattle.spec_filters.specs.declared.FilterKind.TheVariants.{Invert, Threshold, Posterize, Fade}
use Rattle.spec_filters.specs.Filters.{table_byte, after_use}

inverted : map (table_byte Invert 9 9) (0 ∷ 55 ∷ 255 ∷ []) ≡ 255 ∷ 200 ∷ 0 ∷ []
inverted = refl

-- the amount itself is bright
split : map (table_byte Threshold 128 0) (0 ∷ 127 ∷ 128 ∷ 255 ∷ []) ≡ 0 ∷ 0 ∷ 255 ∷ 255 ∷ []
split = refl

-- four levels are 0, 85, 170 and 255
posterized : map (table_byte Posterize 4 0) (0 ∷ 42 ∷ 43 ∷ 127 ∷ 128 ∷ 200 ∷ 255 ∷ []) ≡ 0 ∷ 0 ∷ 85 ∷ 85 ∷ 170 ∷ 170 ∷ 255 ∷ []
posterized = refl

-- fewer than two levels count as two
two_levels : map (table_byte Posterize 0 0) (127 ∷ 128 ∷ []) ≡ 0 ∷ 255 ∷ []
two_levels = refl

faded : map (λ uses. table_byte Fade 100 uses 200) (0 ∷ 1 ∷ 2 ∷ 3 ∷ 4 ∷ []) ≡ 200 ∷ 122 ∷ 43 ∷ 0 ∷ 0 ∷ []
faded = refl

one_use_more : after_use (record { kind = Fade; amount = 100; uses = 3 }) ≡ record { kind = Fade; amount = 100; uses = 4 }
one_use_more = refl

-- the count stays at its end
last_use : after_use (record { kind = Fade; amount = 1; uses = 2 ^ 32 - 1 }) ≡ record { kind = Fade; amount = 1; uses = 2 ^ 32 - 1 }
last_use = refl
