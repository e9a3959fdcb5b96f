-- The bytes that the fill of a channel writes.
use Rattle.std.specs.Prelude.{◌≡◌, ℕ, false, pos, List, slice_index_or}
use Rattle.spec_document.specs.declared.Rect.{Rect}
use Rattle.spec_document.specs.Document.{Document, Channel}
use Rattle.xl_paint.specs.declared.places.Site.{Site}
use Rattle.xl_paint.specs.Paint.{IsPieceOf, PaintsPlane}

-- the rectangle lies on the channel at an index, and the bytes are as many as it has there
abbrev pub IsChannelPiece : Rect → List ℕ → (index : ℕ) → List Channel → Type 0
IsChannelPiece rect bytes index channels = (c : Channel) → slice_index_or channels index c ≡ c → IsPieceOf rect bytes c.plane

-- where a channel lies; no byte of it is a place of a colour map
abbrev pub canvas_site : Site
canvas_site = record { x = pos 0; y = pos 0; indexed = false }

-- these bytes, in the rectangle, are what the fill makes of the channel at an index
abbrev pub PaintsChannel : Document → (index : ℕ) → Rect → (value : ℕ) → List ℕ → Type 0
PaintsChannel d index rect value bytes =
    (c : Channel) → slice_index_or d.channels index c ≡ c → PaintsPlane d canvas_site rect value bytes c.plane
