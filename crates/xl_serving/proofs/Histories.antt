-- The talk that was had over a file, and its shelf.
use Rattle.std.proofs.Common.{◌≡◌, ◌≢◌, ◌⊎◌, ◌+◌, ◌≤◌, inl, inr, ℕ, List, Some, None, refl, ap, sym, subst, arith}
use Rattle.std.specs.Prelude.{Option, Err}
use Rattle.spec_document.specs.Document.{Document}
use Rattle.spec_history.specs.History.{Entry}
use Rattle.spec_history.specs.Kept.{IsLegal}
use Rattle.spec_run.specs.Versions.{AreWithin}
use Rattle.spec_run.proofs.Earlier.{right_earlier}
use Rattle.spec_run.proofs.LastFile.{has_last}
use Rattle.spec_saves.specs.Shelf.{ShelfIsRight}
use Rattle.xl_commands.specs.Outcome.{IsHistory, IsUntouched, LoadsFew, most_loads, ShelfCause, WritesStop, opened}
use Rattle.xl_commands.proofs.OtherNames.{all_stay, other_of, others_right, others_untouched}
use Rattle.xl_outcome.specs.declared.stopped.Stopped.{Stopped}
use Rattle.xl_outcome.specs.declared.stopped.Stopped.TheVariants as stopped
use Rattle.xl_ports.specs.State.{ShelfState}
use Rattle.xl_serving.specs.Opened.{IsOpened}
use Rattle.xl_serving.specs.Served.{ShelfGoes}

-- ---- the shelf, where nothing was saved

-- where nothing was called
pub shelf_as_before : (served : Option (List ℕ)) (s : ShelfState) (status : ℕ) → ShelfGoes served s s status
shelf_as_before served s status = record {
  other_names = λ other not. all_stay s None other (λ bad. let none : None ≡ Some other = bad in cc);
  few_loads = omega arith;
  selected = inl refl;
  no_reading_fault = λ not. refl;
}

-- where a file was read
pub shelf_untouched : (name : List ℕ) (before after : ShelfState) (status : ℕ) → IsUntouched before after → LoadsFew before after
    → (after.selected ≡ before.selected) ⊎ (after.selected ≡ Some name) → (status ≢ 6 → after.reading ≡ before.reading)
    → ShelfGoes (Some name) before after status
shelf_untouched name before after status untouched few selected reading = record {
  other_names = λ other not.
      other_of name other before.disk after.disk (λ same. not (ap Some (sym same))) (others_untouched name before after untouched);
  few_loads = few;
  selected = selected;
  no_reading_fault = reading;
}

-- a fault of reading is told by its status
pub reading_told : {K : Type 0} (held : K → Option (List ℕ)) (faults : K → ℕ) (old new : K) (before after : ℕ) (why : Stopped)
    (status : ℕ) → ShelfCause {A = Document} before after (Err why) → WritesStop held faults old new why status → status ≢ 6
    → after ≡ before
reading_told held faults old new before after stopped.SourceFault status cause told = λ not. cause
reading_told held faults old new before after stopped.BadHead status cause told = λ not. cause
reading_told held faults old new before after (stopped.BadLine bad) status cause told = λ not. cause
reading_told held faults old new before after stopped.ShelfFault status cause told = λ not. absurd (not told.0)
reading_told held faults old new before after (stopped.Refused refused) status cause told = λ not. cause
reading_told held faults old new before after (stopped.NotFlattened cause_of) status cause told = λ not. cause
reading_told held faults old new before after stopped.SaveFault status cause told = λ not. cause
reading_told held faults old new before after (stopped.Rejected rejection) status cause told = λ not. cause
reading_told held faults old new before after stopped.SinkFault status cause told = λ not. cause
reading_told held faults old new before after stopped.Memory status cause told = λ not. cause

-- before the first line
pub shelf_opened : (name : List ℕ) (before now after : ShelfState) (d : Document) (status : ℕ) → IsOpened name before now d → after ≡ now
    → ShelfGoes (Some name) before after status
shelf_opened name before now after d status there same =
    subst (λ (s : ShelfState). ShelfGoes (Some name) before s status) (sym same)
    (shelf_untouched name before now status there.untouched there.few (inr there.named) (λ not. there.reading))

-- ---- behind a talk

module _ {name : List ℕ} {before mid : ShelfState} {d : Document} (there : IsOpened name before mid d) (after : ShelfState)
    (es : List Entry) (right : ShelfIsRight mid d es after) where
  right_since : ShelfIsRight (opened before after name) d es after
  right_since =
      right_earlier (opened before after name) mid after d es (sym there.named) refl (sym there.reading) (sym there.untouched.saving)
      there.untouched.quiet right

  pub history_of : IsLegal d es → AreWithin d es → IsHistory name before after d es
  history_of legal versions = record {
    held = there.held;
    within = there.within;
    legal = legal;
    versions = versions;
    shelf = right_since;
    file = λ none. has_last d es name before.disk after.disk none right_since.contents;
  }

  pub shelf_goes_on : (status : ℕ) → ShelfGoes (Some name) before after status
  shelf_goes_on status = record {
    other_names = λ other not.
        other_of name other before.disk after.disk (λ same. not (ap Some (sym same)))
        (others_right (opened before after name) after d es right_since);
    few_loads = subst (λ (n : ℕ). n ≤ before.loads + most_loads) (sym right.loads) there.few;
    selected = inr right_since.selected;
    no_reading_fault = λ not. right_since.reading;
  }
