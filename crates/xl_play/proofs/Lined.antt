-- What comes of a line of session 0, by how it went.
use Rattle.std.proofs.Common.{◌≡◌, ◌⊎◌, inl, inr, ℕ, List, refl, sym, true≢false}
use Rattle.std.specs.Prelude.{IsErr, IsSome, OnOk, Option, Result, Ok, Err}
use Rattle.spec_filters.specs.declared.FilterState.{FilterState}
use Rattle.spec_history.specs.Kept.{IsLegal}
use Rattle.spec_history.specs.Machine.{Reply}
use Rattle.spec_script.specs.Script.{Line, save}
use Rattle.xl_history.specs.Editing.{Editing, IsAsBefore}
use Rattle.xl_history.specs.History.{History}
use Rattle.xl_play.specs.Playing.{ArePlayed, IsBetweenLines, IsLinePlayed, IsMade, with_save}
use Rattle.xl_run.specs.Opening.{KeepsExactly}
use Rattle.xl_play.proofs.Saved.{same_between}

pub on_ok_so : {A E P : Type 0} (result : Result A E) → P → OnOk result P
on_ok_so (Ok x) p = p
on_ok_so (Err e) p = tt

pub no_ok : {A E : Type 0} (P : Type 0) (result : Result A E) → IsErr result → OnOk result P
no_ok P (Ok x) err = absurd (true≢false (sym err))
no_ok P (Err e) err = tt

module _ {D E : Type 0} (old new : Editing D) (line : Line) (before after : List (Option FilterState)) (out : List ℕ)
    (result : Result (Unit {0}) E) where
  -- memory ran out, and nothing of the line was made or all
  pub line_cut : IsErr result → IsBetweenLines old.history.base old.opening new
      → (new.history ≡ old.history) ⊎ IsMade old.history 0 line before after new.history
      → IsLinePlayed result old new line before after out
  line_cut err between begun =
      record { between = between; begun = begun; made = no_ok _ result err; kept = no_ok _ result err; played = no_ok _ result err }

  pub line_none : IsErr result → IsAsBefore old new → IsSome old.shelf → IsLegal old.history.base old.history.entries
      → IsLinePlayed result old new line before after out
  line_none err same inside legal = line_cut err (same_between old new same inside legal) (inl same.history)

  -- the line was made, however its text went
  pub line_made : IsBetweenLines old.history.base old.opening new
      → IsMade old.history 0 line before after new.history → OnOk result (KeepsExactly new)
      → OnOk result (ArePlayed new.history.base new.history.entries out) → IsLinePlayed result old new line before after out
  line_made between made kept played =
      record { between = between; begun = inr made; made = on_ok_so result made; kept = kept; played = played }

-- of a save the reply alone is told
pub save_begun : (old new : History) (chest : List (Option FilterState))
    → (new ≡ old) ⊎ ((reply : Reply) × (new ≡ with_save old 0 reply)) → (new ≡ old) ⊎ IsMade old 0 save chest chest new
save_begun old new chest (inl same) = inl same
save_begun old new chest (inr made) = inr (made, refl)
