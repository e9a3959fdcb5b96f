-- A window of two columns and two rows that is shown once more.
use Rattle.std.proofs.Common.{◌≡◌, ℕ, ◌≤◌, List, sym, subst, arith}
use Rattle.std.specs.Prelude.{Result, Ok}
use Rattle.spec_document.specs.Document.{Document}
use Rattle.spec_document.specs.declared.TileAt.{TileAt}
use Rattle.spec_window.specs.Viewed.{Pictures, AreKept, after_window}
use Rattle.spec_window.specs.Window.{window, window_tiles}
use Rattle.spec_window.specs.declared.TheConstants.{MAX_WINDOW}
use Rattle.xl_core.specs.History.{History, document, version}
use Rattle.xl_window.specs.Viewing.{Viewing, IsAnswered}
use Rattle.xl_window.specs.declared.refused.WindowRefusedOrMemory.{WindowRefusedOrMemory}

-- after a window all its tiles are kept
abbrev pub KeepsWindow : Type 0
KeepsWindow = (d : Document) (stack version : ℕ) (at : TileAt) (cols rows : ℕ) (kept : Pictures) → cols ≤ MAX_WINDOW
    → rows ≤ MAX_WINDOW → let tiles = window_tiles d.width d.height at cols rows in
    AreKept (after_window d stack version tiles kept) stack version tiles

module _ (h : History) (stack : ℕ) (at : TileAt) (old new : Viewing) (before out : List ℕ) (r : Result ℕ WindowRefusedOrMemory)
    (v : ℕ) where
  pub all_kept : KeepsWindow → r ≡ Ok v → IsAnswered h stack at 2 2 old new before out r
      → AreKept new.kept stack (version h) (window_tiles (document h).width (document h).height at 2 2)
  all_kept law was is =
      let tiles = window_tiles (document h).width (document h).height at 2 2 in
      let shown : IsAnswered h stack at 2 2 old new before out (Ok v) = subst (IsAnswered h stack at 2 2 old new before out) was is in
      subst (λ (n : ℕ). AreKept new.kept stack n tiles) shown.1
      (subst (λ (ps : Pictures). AreKept ps stack v tiles) (sym shown.3)
      (law (document h) stack v at 2 2 old.kept (omega arith) (omega arith)))

  pub bytes_are : r ≡ Ok v → IsAnswered h stack at 2 2 old new before out r → out ≡ window (document h) stack at 2 2
  bytes_are was is =
      let shown : IsAnswered h stack at 2 2 old new before out (Ok v) = subst (IsAnswered h stack at 2 2 old new before out) was is in
      shown.2
