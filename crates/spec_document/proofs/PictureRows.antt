-- Worked pictures.
use Rattle.std.specs.Prelude.{◌≡◌, ℕ, List, [], ◌∷◌, pos, negsuc, refl, replicate, length}
use Rattle.spec_document.specs.declared.Mode.{Mode}
use Rattle.spec_document.specs.declared.Mode.TheVariants.{Normal, Multiply}
use Rattle.spec_document.specs.declared.Base.{Base}
use Rattle.spec_document.specs.declared.Base.TheVariants.{Grey, Indexed}
use Rattle.spec_document.specs.Forest.{none, leaf, group}
use Rattle.spec_document.specs.Document.{Document, area}
use Rattle.spec_document.proofs.Samples.{pixel, layer_of, plain_group, canvas}
use Rattle.spec_document.proofs.SampleFiles.{one_document}
use Rattle.spec_document.specs.Picture.{project, picture, pixel_bytes}

one_tile : project one_document 0 (record { col = 0; row = 0 }) ≡ 200 ∷ 100 ∷ 50 ∷ 255 ∷ []
one_tile = refl

-- a visible 1 by 1 layer at the bottom, under a multiply layer of 200 by 200
abbrev two : Document
two = canvas 200 200 (group 1 (record plain_group { opacity = 128; mode = Multiply })
    (leaf 2 (record (layer_of (record { width = 200; height = 200; bpp = 4; bytes = replicate 160000 100 })) {
      mode = Multiply;
      x = negsuc 1;
      y = pos 3;
    })
    (leaf 3 (layer_of pixel) none))
    none)

inside : pixel_bytes (picture two 0 5 5) ≡ 0 ∷ 0 ∷ 0 ∷ 0 ∷ []
inside = refl

area_of : area two ≡ 80001
area_of = refl

whole_tile : length (project two 0 (record { col = 0; row = 0 })) ≡ 16384
whole_tile = refl

last_tile : length (project two 0 (record { col = 3; row = 3 })) ≡ 256
last_tile = refl

-- a group of opacity 0 shows nothing, while its own picture shows the layer
abbrev grouped : (opacity : ℕ) → Mode → Document
grouped opacity mode = record one_document {
  nodes = group 1 (record plain_group { opacity = opacity; mode = mode }) (leaf 2 (layer_of pixel) none) none;
}

faded_away : project (grouped 0 Normal) 0 (record { col = 0; row = 0 }) ≡ 0 ∷ 0 ∷ 0 ∷ 0 ∷ []
faded_away = refl

own_picture : project (grouped 0 Normal) 1 (record { col = 0; row = 0 }) ≡ 200 ∷ 100 ∷ 50 ∷ 255 ∷ []
own_picture = refl

-- the bottommost visible node is laid as normal, whatever its mode
alone_multiplied : project (grouped 255 Multiply) 0 (record { col = 0; row = 0 }) ≡ 200 ∷ 100 ∷ 50 ∷ 255 ∷ []
alone_multiplied = refl

-- an index past the colour map is black, and a grey layer is opaque
abbrev single : Base → (kind : ℕ) → List ℕ → Document
single base kind bytes = record one_document {
  base = base;
  colours = (1 ∷ 2 ∷ 3 ∷ []) ∷ [];
  nodes = leaf 1 (record (layer_of (record { width = 1; height = 1; bpp = length bytes; bytes = bytes })) { kind = kind }) none;
}

mapped_index : picture (single Indexed 4 (0 ∷ [])) 0 0 0 ≡ record { r = 1; g = 2; b = 3; a = 255 }
mapped_index = refl

black_index : picture (single Indexed 5 (1 ∷ 9 ∷ [])) 0 0 0 ≡ record { r = 0; g = 0; b = 0; a = 9 }
black_index = refl

grey_layer : picture (single Grey 2 (7 ∷ [])) 0 0 0 ≡ record { r = 7; g = 7; b = 7; a = 255 }
grey_layer = refl
