-- What a script that was played comes to, or where nothing of it was played.
use Rattle.std.proofs.Common.{◌≡◌, ℕ, List, [], subst, sym}
use Rattle.std.specs.Prelude.{IfOk, Result, Ok, Err, String, string_bytes}
use Rattle.std.specs.declared.alloc.AllocError.{AllocError}
use Rattle.std.specs.declared.alloc.Global.{Global}
use Rattle.spec_document.specs.Document.{Document}
use Rattle.spec_document.specs.Limits.{IsDocument}
use Rattle.spec_history.specs.History.{Entry}
use Rattle.spec_history.specs.Kept.{IsLegal}
use Rattle.spec_history.proofs.Growing.{IsLegal-empty}
use Rattle.spec_saves.specs.Names.{save_faults}
use Rattle.spec_saves.specs.Shelf.{ShelfIsRight}
use Rattle.spec_saves.proofs.Staying.{opened_right}
use Rattle.spec_filters.specs.declared.FilterState.{FilterState}
use Rattle.spec_script.specs.Script.{Line}
use Rattle.spec_text.specs.Text.{IsTextOf}
use Rattle.xl_history.specs.Editing.{Editing, IsRight}
use Rattle.spec_run.specs.Failed.{WhetherFailed}
use Rattle.xl_play.specs.Told.{IsPlayed, IsToldOf}
use Rattle.spec_run.specs.First.{AreOfFirst}
use Rattle.spec_run.specs.Fronts.{IsFrontOf}
use Rattle.spec_run.proofs.Fronts.{front_none}
use Rattle.spec_run.specs.Versions.{AreWithin}
use Rattle.xl_play.specs.declared.playing.Replies.{Replies}
use Rattle.spec_run.proofs.VersionsWithin.{first_within}
use Rattle.xl_ports.specs.State.{ShelfState}

-- without memory for a core nothing was played
pub nothing_played : (k now : ShelfState) (d : Document) (lists : List (List Line)) (chests : List (List FilterState)) (workers : ℕ)
    (e : AllocError) → now ≡ k → IsDocument d → IsPlayed k now d lists chests workers (Err e)
nothing_played k now d lists chests workers e same within =
    subst (λ (n : ShelfState). IsPlayed k n d lists chests workers (Err e)) (sym same)
    (record {
      entries = [];
      legal = IsLegal-empty d;
      front = front_none lists chests;
      versions = first_within d within;
      shelf = opened_right k d;
      told = tt;
    })

-- the history of a core that was played on, and the shelf that comes back
pub played_on : {D : Type 0} (see : D → ShelfState) (old new : Editing D) (back : D) (lists : List (List Line))
    (chests : List (List FilterState)) (workers : ℕ) (replies : Result Replies AllocError)
    → new.history.base ≡ old.history.base → new.opening ≡ old.opening → IsLegal new.history.base new.history.entries
    → AreWithin new.history.base new.history.entries → IsRight see new back → IsFrontOf lists chests new.history.entries
    → IfOk replies (IsToldOf old.history.base lists chests workers new.history.entries)
    → IsPlayed (see old.opening) (see back) old.history.base lists chests workers replies
played_on {D} see old new back lists chests workers replies base opening legal versions right front told = record {
  entries = new.history.entries;
  legal = subst (λ (b : Document). IsLegal b new.history.entries) base legal;
  front = front;
  versions = subst (λ (b : Document). AreWithin b new.history.entries) base versions;
  shelf =
      subst (λ (o : D). ShelfIsRight (see o) old.history.base new.history.entries (see back)) opening
      (subst (λ (b : Document). ShelfIsRight (see new.opening) b new.history.entries (see back)) base right);
  told = told;
}

-- the text of sessions beside each other, where not one session is alone
pub told_together : (base : Document) (lists : List (List Line)) (chests : List (List FilterState)) (workers : ℕ) (es : List Entry)
    (text : Result (String Global) AllocError) (replies : Result Replies AllocError)
    → (workers ≡ 0 → AreOfFirst lists → ⊥) → IfOk text (λ t. IsTextOf (string_bytes t) base lists chests es)
    → IfOk replies (λ told. text ≡ Ok told.text)
    → IfOk replies (λ told. WhetherFailed told.save_failed (save_faults es)) → IfOk replies (IsToldOf base lists chests workers es)
told_together base lists chests workers es text (Ok told) together is same failed = record {
  text = subst (λ (t : Result (String Global) AllocError). IfOk t (λ x. IsTextOf (string_bytes x) base lists chests es)) same is;
  alone = λ none first well. absurd (together none first);
  failed = failed;
}
told_together base lists chests workers es text (Err e) together is same failed = tt

-- the same of the document, the lines and the shelf that were handed in
pub same_played : (k first now : ShelfState) (d base : Document) (lists others : List (List Line)) (chests : List (List FilterState))
    (workers : ℕ) (replies : Result Replies AllocError)
    → first ≡ k → base ≡ d → others ≡ lists → IsPlayed first now base others chests workers replies
    → IsPlayed k now d lists chests workers replies
same_played k first now d base lists others chests workers replies opening same_document same_lists played =
    subst (λ (x : Document). IsPlayed k now x lists chests workers replies) same_document
    (subst (λ (ls : List (List Line)). IsPlayed k now base ls chests workers replies) same_lists
    (subst (λ (o : ShelfState). IsPlayed o now base others chests workers replies) opening played))

-- the same of an edit that asks for no worker
pub without_workers : (k now : ShelfState) (d : Document) (lists : List (List Line)) (chests : List (List FilterState)) (workers : ℕ)
    (replies : Result Replies AllocError)
    → workers ≡ 0 → IsPlayed k now d lists chests 0 replies → IsPlayed k now d lists chests workers replies
without_workers k now d lists chests workers replies none played =
    subst (λ (w : ℕ). IsPlayed k now d lists chests w replies) (sym none) played
