-- The head of a code in code.
use Rattle.std.specs.Prelude.{◌≡◌, ℕ, ◌<◌, ◌≤◌, ◌+◌, ◌-◌, List, length, slice_index, Option, Some, None}
use Rattle.std.specs.Prelude.{nat_lt, nat_le, if◌then◌else◌}
use Rattle.spec_rle.specs.Reading as plane
use Rattle.spec_rle.specs.Reading.{head_of}
use Rattle.xl_rle.specs.declared.head.CodeHead.{CodeHead}
use Rattle.xl_rle.specs.declared.head.TheConstants.{BLOCK}

abbrev pub as_read : CodeHead → plane.Head
as_read h = record { is_run = h.is_run; count = h.count; body = h.body }

-- the head at the offset, where it fits
abbrev pub HeadAt : (file : List ℕ) (at : ℕ) → Option CodeHead → Type 0
HeadAt file at None = length file < (head_of file at (slice_index file at)).body
HeadAt file at (Some h) = (as_read h ≡ head_of file at (slice_index file at)) × (at < h.body) × (h.body ≤ length file)

-- how many bytes a run gives that begins with this byte, where it is of one byte and gives a block at most
abbrev pub short_run_length : (first : ℕ) → Option ℕ
short_run_length first = if nat_lt first BLOCK then Some (first + 1) else None

-- the same of literal bytes
abbrev pub short_literal_length : (first : ℕ) → Option ℕ
short_literal_length first = if nat_le (256 - BLOCK) first then Some (256 - first) else None
