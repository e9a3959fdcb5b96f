-- A shelf on which nothing was saved.
use Rattle.std.proofs.Common.{◌≡◌, ◌∙◌}
use Rattle.xl_ports.specs.Disk.{Between, IsQuiet, read_at}
use Rattle.xl_ports.specs.State.{ShelfState}
use Rattle.xl_ports.proofs.Moments.{quiet_quiet}
use Rattle.xl_outcome.specs.Outcome.{IsUntouched}

module _ {D : Type 0} (state : D → ShelfState) where
  -- two calls that save nothing
  pub two_quiet : (a b c : D) → read_at (state b).disk ≡ read_at (state a).disk → Between (state a).disk (state b).disk IsQuiet
      → (state b).saving ≡ (state a).saving
      → read_at (state c).disk ≡ read_at (state b).disk → Between (state b).disk (state c).disk IsQuiet
      → (state c).saving ≡ (state b).saving → IsUntouched (state a) (state c)
  two_quiet a b c contents quiet saves contents_then quiet_then saves_then = record {
    contents = contents_then ∙ contents;
    quiet = quiet_quiet (state a).disk (state b).disk (state c).disk quiet quiet_then;
    saving = saves_then ∙ saves;
  }
