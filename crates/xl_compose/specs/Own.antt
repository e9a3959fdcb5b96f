-- The pixel that the bytes of a layer stand for.
use Rattle.std.specs.Prelude.{◌≡◌, ℕ, ◌+◌, ◌-◌, ◌*◌, ◌<◌, ◌==◌, if◌then◌else◌, List, length, slice_get, slice_index, slice_index_or}
use Rattle.spec_document.specs.declared.Pixel.{Pixel}
use Rattle.spec_document.specs.Over.{clear}
use Rattle.spec_document.specs.Document.{base_of_kind, bytes_of_kind, has_alpha}
use Rattle.spec_document.specs.Source.{mapped}

-- the pixel of a kind of layer whose bytes are given, after grey or the colour map
abbrev pub pixel_from : (kind : ℕ) → (colours : List (List ℕ)) → (byte : ℕ → ℕ) → Pixel
pixel_from kind colours byte =
    let alpha = if has_alpha kind then byte (bytes_of_kind kind - 1) else 255 in
    let first = byte 0 in
    if base_of_kind kind == 0 then record { r = first; g = byte 1; b = byte 2; a = alpha } else
    if base_of_kind kind == 1 then record { r = first; g = first; b = first; a = alpha } else
    mapped (slice_get colours first) alpha

-- the pixel number k of bytes that stand side by side
abbrev pub pixel_at : (kind : ℕ) → (colours : List (List ℕ)) → (bytes : List ℕ) → (k : ℕ) → Pixel
pixel_at kind colours bytes k = pixel_from kind colours (λ c. slice_index bytes (k * bytes_of_kind kind + c))

-- the row is that of these bytes
abbrev pub ArePixels : (kind : ℕ) → (colours : List (List ℕ)) → (bytes : List ℕ) → (row : List Pixel) → Type 0
ArePixels kind colours bytes row = (k : ℕ) → k < length row → slice_index_or row k clear ≡ pixel_at kind colours bytes k
