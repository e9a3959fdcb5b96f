-- The picture that comes of a call.
use Rattle.std.proofs.Common.{◌≡◌, ℕ, List, sym, ap, subst, ◌∙◌}
use Rattle.std.specs.Prelude.{◌-◌, ◌*◌, min, Some, Result, Ok, Err, IfOk, unwrap_or}
use Rattle.spec_document.specs.declared.TileAt.{TileAt}
use Rattle.spec_history.specs.Machine as machine
use Rattle.spec_history.specs.Machine.{Call, Reply}
use Rattle.xl_core.specs.History.{Shows}
use Rattle.xcf.specs.declared.errors.NotShown.{NotShown}
use Rattle.xcf_sessions.specs.declared.shown.Shown.{Shown}
use Rattle.xcf_sessions.specs.Answered.{IsTileCall, ShowsIn}
use Rattle.xcf_sessions.specs.Replies.{reply_shown}
use Rattle.xcf_sessions.specs.Seen.{Seen, history_of}

-- of a tile that is shown, with the sides that the canvas leaves it
module _ {K : Type 0} (new : Seen K) where
  in_call : (call : Call) (at : TileAt) (shown : Shown) (bytes : List ℕ) → IsTileCall call at
      → Shows (history_of new) call (machine.tile_of shown.version) bytes → shown.picture ≡ bytes
      → shown.width ≡ min 64 (new.base.width - 64 * at.col) → shown.height ≡ min 64 (new.base.height - 64 * at.row)
      → ShowsIn new call (Ok shown)
  in_call (machine.tile stack place) at shown bytes here shows picture width height = record {
    picture = picture ∙ shows;
    width = width ∙ ap (λ (t : TileAt). min 64 (new.base.width - 64 * t.col)) (sym here);
    height = height ∙ ap (λ (t : TileAt). min 64 (new.base.height - 64 * t.row)) (sym here);
  }
  in_call (machine.peek stack place) at shown bytes here shows picture width height = record {
    picture = picture ∙ shows;
    width = width ∙ ap (λ (t : TileAt). min 64 (new.base.width - 64 * t.col)) (sym here);
    height = height ∙ ap (λ (t : TileAt). min 64 (new.base.height - 64 * t.row)) (sym here);
  }
  in_call (machine.edit guard edits) at shown bytes here shows picture width height = absurd here
  in_call (machine.undo named) at shown bytes here shows picture width height = absurd here
  in_call machine.redo at shown bytes here shows picture width height = absurd here
  in_call machine.top at shown bytes here shows picture width height = absurd here

  pub without : (call : Call) (at : TileAt) (flaw : NotShown) → IsTileCall call at → ShowsIn new call (Err flaw)
  without (machine.tile stack place) at flaw here = tt
  without (machine.peek stack place) at flaw here = tt
  without (machine.edit guard edits) at flaw here = tt
  without (machine.undo named) at flaw here = tt
  without machine.redo at flaw here = tt
  without machine.top at flaw here = tt

  pub pictured : (call : Call) (at : TileAt) (reply : Reply) (bytes : List ℕ) (width height : ℕ) (result : Result Shown NotShown)
      → IsTileCall call at → Shows (history_of new) call reply bytes → reply_shown result ≡ Some reply
      → width ≡ min 64 (new.base.width - 64 * at.col) → height ≡ min 64 (new.base.height - 64 * at.row)
      → IfOk result (λ shown. shown.picture ≡ bytes) → IfOk result (λ shown. shown.width ≡ width)
      → IfOk result (λ shown. shown.height ≡ height) → ShowsIn new call result
  pictured call at reply bytes width height (Ok shown) here shows is wide high picture w h =
      let named : reply ≡ machine.tile_of shown.version = sym (ap (λ o. unwrap_or o reply) is) in
      in_call call at shown bytes here (subst (λ (r : Reply). Shows (history_of new) call r bytes) named shows) picture (w ∙ wide)
      (h ∙ high)
  pictured call at reply bytes width height (Err flaw) here shows is wide high picture w h = without call at flaw here
