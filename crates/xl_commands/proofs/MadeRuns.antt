-- What a run of make comes to whose script was played.
use Rattle.std.proofs.Common.{◌≡◌, true, false, inl, inr, ℕ, List, [], ◌∷◌, filter_map, ap, refl, sym, ◌∙◌, subst}
use Rattle.std.specs.Prelude.{Option, Some, None, IfSome, IfOk, Vec, unwrap_or, Result, Ok, Err, OnOk, IsOk, String, string_bytes}
use Rattle.std.specs.declared.alloc.AllocError.{AllocError}
use Rattle.std.specs.declared.alloc.Global.{Global}
use Rattle.spec_command.specs.Arguments.{make}
use Rattle.spec_document.specs.Document.{Document}
use Rattle.spec_document.specs.Limits.{IsDocument}
use Rattle.spec_filters.specs.declared.FilterState.{FilterState}
use Rattle.spec_generated.specs.Generated.{document, script}
use Rattle.spec_generated.specs.Summary.{outcome, summary_of}
use Rattle.spec_history.specs.History.{Entry, latest_of, document_of}
use Rattle.spec_history.specs.Kept.{IsLegal}
use Rattle.spec_history.proofs.Growing.{IsLegal-empty}
use Rattle.spec_saves.specs.Names.{version, names, save_faults}
use Rattle.spec_saves.specs.Contents.{IsVersion, IsIn}
use Rattle.spec_saves.specs.Shelf.{file_name, DiskIsRight, ShelfIsRight}
use Rattle.spec_saves.proofs.Staying.{opened_right}
use Rattle.spec_merged.specs.Fills.{EndsWithSave}
use Rattle.spec_merged.proofs.Ends.{last_is_save_of_seed}
use Rattle.spec_merged.proofs.Generated.{last_is_outcome_of_seed}
use Rattle.spec_script.specs.Script.{Line}
use Rattle.spec_text.specs.Text.{IsTextOf, made_by, printed}
use Rattle.spec_world.specs.declared.SaveEnd.TheVariants.{Done}
use Rattle.xl_ports.specs.Shelf.{Content}
use Rattle.xl_ports.specs.Disk.{Disk, MayLeave, Between}
use Rattle.xl_ports.specs.State.{ShelfState}
use Rattle.spec_run.specs.Failed.{NoneFailed, SomeFailed, AnyFailed, WhetherFailed}
use Rattle.xl_outcome.specs.Endings.{HaveFailed}
use Rattle.xl_outcome.specs.Making.{IsMadeHistory, IsRunOf, IsSummary}
use Rattle.xl_filters.specs.Chests.{states_of}
use Rattle.xl_outcome.specs.Outcome.{Comes, opened, ShelfCauseOf}
use Rattle.xl_play.specs.Editing.{Editing, IsRight}
use Rattle.xl_play.specs.History.{document as last_document}
use Rattle.xl_outcome.specs.Parts.{StopsMaking}
use Rattle.xl_commands.specs.Played.{IsSummedUp, SumsUp, WritesReplies}
use Rattle.spec_run.specs.Fronts.{IsFrontOf}
use Rattle.spec_run.specs.Versions.{AreWithin}
use Rattle.xl_snapshot.specs.Saving.{IsSavedOn}
use Rattle.xl_snapshot.proofs.Putting.{done_not_memory}
use Rattle.xl_play.specs.declared.playing.Replies.{Replies}
use Rattle.xl_outcome.specs.declared.stopped.Stopped.{Stopped}
use Rattle.xl_outcome.specs.declared.stopped.Stopped.TheVariants.{SourceFault, BadHead, BadLine, ShelfFault, Refused}
use Rattle.xl_outcome.specs.declared.stopped.Stopped.TheVariants.{NotFlattened, SaveFault, Rejected, SinkFault, Memory}
use Rattle.xl_commands.proofs.Edited.{none_failed, some_failed}
use Rattle.spec_merged.proofs.MadeFiles.{last_is_saved}
use Rattle.spec_run.proofs.Fronts.{front_none}
use Rattle.spec_run.proofs.VersionsWithin.{first_within}

-- ---- the run

-- What is known of what is made: its last document follows from its lines, and the last of all their calls is a save.
pub record IsMade (d : Document) (lists : List (List Line)) : Type 0 where
  pub last : (out : List ℕ) (chests : List (List FilterState)) (es : List Entry) → IsTextOf out d lists chests es
      → document_of d es (latest_of es) ≡ outcome d lists
  pub ends : (out : List ℕ) (chests : List (List FilterState)) (es : List Entry) → IsTextOf out d lists chests es
      → EndsWithSave (filter_map (λ (e : Entry). made_by e.kind) es)

pub seed_is_made : (seed : ℕ) → IsMade (document seed) (script seed)
seed_is_made seed = record {
  last = last_is_outcome_of_seed seed;
  ends = last_is_save_of_seed seed;
}

-- sessions without lists of filters have none
pub no_states : {B : Type 0} (state : B → FilterState) (lists : List (Vec B Global)) → lists ≡ [] → states_of state lists ≡ []
no_states state lists none = ap (states_of state) none

run_of : (d : Document) (lists : List (List Line)) (out : List ℕ) (es : List Entry) → IsMade d lists → IsTextOf out d lists [] es
    → IsRunOf d lists es
run_of d lists out es made run = record {
  calls = record {
    legal = run.legal;
    ended = run.ended;
    printable = run.printable;
    calls = run.calls;
    others = run.others;
    fresh = run.fresh;
    tables = run.tables;
    text = refl;
  };
  last = made.last out [] es run;
}

-- a run whose text is told is summed up by its last document
pub summed : (d : Document) (lists : List (List Line)) (chests : List (List FilterState)) (es : List Entry)
    (text : Result (String Global) AllocError) (told : Result Replies AllocError)
    → IsMade d lists → chests ≡ [] → IfOk text (λ t. IsTextOf (string_bytes t) d lists chests es) → OnOk told (IsOk text)
    → IfOk told (λ t. string_bytes t.text ≡ summary_of (document_of d es (latest_of es)))
    → IfOk told (λ t. WhetherFailed t.save_failed (save_faults es))
    → IfOk told (SumsUp d lists es)
summed d lists chests es (Ok text) (Ok told) made none is played sum failed =
    let run =
    run_of d lists (string_bytes text) es made
    (subst (λ (cs : List (List FilterState)). IsTextOf (string_bytes text) d lists cs es) none is) in
    record { run = run; text = sum ∙ ap summary_of run.last; failed = failed }
summed d lists chests es (Err e) (Ok told) made none is played sum failed = let bad : false ≡ true = played in cc
summed d lists chests es text (Err e) made none is played sum failed = tt

-- without memory for a core nothing was played
pub nothing_summed : (k now : ShelfState) (d : Document) (lists : List (List Line)) (e : AllocError) → now ≡ k → IsDocument d
    → IsSummedUp k now d lists (Err e)
nothing_summed k now d lists e same within =
    subst (λ (n : ShelfState). IsSummedUp k n d lists (Err e)) (sym same)
    (record {
      entries = [];
      legal = IsLegal-empty d;
      front = front_none lists [];
      versions = first_within d within;
      shelf = opened_right k d;
      sum = tt;
    })

-- the history of a core that was played on, and the shelf that comes back
pub summed_on : {D : Type 0} (see : D → ShelfState) (old new : Editing D) (back : D) (lists : List (List Line))
    (chests : List (List FilterState)) (text : Result (String Global) AllocError) (told : Result Replies AllocError)
    → new.history.base ≡ old.history.base → new.opening ≡ old.opening → IsLegal new.history.base new.history.entries
    → AreWithin new.history.base new.history.entries → IsRight see new back → IsFrontOf lists chests new.history.entries
    → IsMade old.history.base lists → chests ≡ []
    → IfOk text (λ t. IsTextOf (string_bytes t) old.history.base lists chests new.history.entries) → OnOk told (IsOk text)
    → IfOk told (λ t. string_bytes t.text ≡ summary_of (last_document new.history))
    → IfOk told (λ t. WhetherFailed t.save_failed (save_faults new.history.entries))
    → IsSummedUp (see old.opening) (see back) old.history.base lists told
summed_on {D} see old new back lists chests text told base opening legal versions right front made none is played sum failed =
    let es = new.history.entries in
    record {
      entries = es;
      legal = subst (λ (b : Document). IsLegal b es) base legal;
      front = subst (λ (cs : List (List FilterState)). IsFrontOf lists cs es) none front;
      versions = subst (λ (b : Document). AreWithin b es) base versions;
      shelf =
          subst (λ (o : D). ShelfIsRight (see o) old.history.base es (see back)) opening
          (subst (λ (b : Document). ShelfIsRight (see new.opening) b es (see back)) base right);
      sum = summed old.history.base lists chests es text told made none is played
          (subst (λ (b : Document). IfOk told (λ t. string_bytes t.text ≡ summary_of (document_of b es (latest_of es)))) base sum)
          failed;
    }

-- the same of the document, the sessions and the shelf with which the core was opened
pub same_sum : (k first now : ShelfState) (d base : Document) (lists others : List (List Line)) (told : Result Replies AllocError)
    → first ≡ k → base ≡ d → others ≡ lists
    → (IsMade base others → IsSummedUp first now base others told) → IsMade d lists → IsSummedUp k now d lists told
same_sum k first now d base lists others told opening same_document same_lists sum made =
    subst (λ (x : Document). IsSummedUp k now x lists told) same_document
    (subst (λ (ls : List (List Line)). IsSummedUp k now base ls told) same_lists
    (subst (λ (o : ShelfState). IsSummedUp o now base others told) opening
    (sum (subst (λ (x : Document). IsMade x others) (sym same_document)
    (subst (λ (ls : List (List Line)). IsMade d ls) (sym same_lists) made)))))

-- ---- the file

last_left : (base : Document) (es : List Entry) (v : ℕ) (name : List ℕ) (opened_disk now : Option Disk) → names es ≡ version v ∷ []
    → Between opened_disk now (DiskIsRight name base es)
    → IfSome now (λ disk. (c : Content) → MayLeave disk name c → IsVersion base es v c)
last_left base es v name None None is right = tt
last_left base es v name None (Some now) is right = absurd right
last_left base es v name (Some old) None is right = tt
last_left base es v name (Some old) (Some now) is right =
    λ c may. only c (subst (IsIn base es old name c) is (right.leaves c may)) where
      only : (c : Content) → IsIn base es old name c (version v ∷ []) → IsVersion base es v c
      only c (inl this) = this
      only c (inr bad) = absurd bad

-- the first save on a shelf that was not loaded from since
pub saved_as_now : (before first now : ShelfState) (name : List ℕ) (d : Document) → now.loads ≡ first.loads
    → IsSavedOn (opened before first name) d Done first → IsSavedOn (opened before now name) d Done first
saved_as_now before first now name d same saved = record {
  selected = saved.selected;
  loads = sym same;
  reading = saved.reading;
  saving = saved.saving;
  untouched = done_not_memory;
  closed = saved.closed;
  contents = saved.contents;
}

-- ---- what is written

module _ (d : Document) (lists : List (List Line)) (sessions : IsMade d lists) (opening first now : ShelfState)
    (saved : IsSavedOn opening d Done first) where
  made_history : (told : Result Replies AllocError) (summed_up : IsSummedUp first now d lists told)
      → IsMadeHistory opening now d summed_up.entries
  made_history told summed_up = record {
    first = first;
    saved = saved;
    legal = summed_up.legal;
    versions = summed_up.versions;
    shelf = summed_up.shelf;
  }

  summary_is : (told : Replies) (P : ℕ → Type 0) (summed_up : IsSummedUp first now d lists (Ok told))
      → ((n : ℕ) → WhetherFailed told.save_failed n → P n)
      → IsSummary opening now d lists P (string_bytes told.text)
  summary_is told P summed_up fails =
      let entries = summed_up.entries in
      let run = summed_up.sum.run.calls in
      let same : file_name first ≡ file_name opening = ap (λ (o : Option (List ℕ)). unwrap_or o []) saved.selected in
      record {
        entries = entries;
        history = made_history (Ok told) summed_up;
        run = summed_up.sum.run;
        text = summed_up.sum.text;
        file = λ none.
            let last =
            last_is_saved d entries run.legal run.ended run.printable (sessions.ends (printed d entries) [] entries run) none in
            last_left d entries (latest_of entries) (file_name opening) first.disk now.disk last
            (subst (λ (n : List ℕ). Between first.disk now.disk (DiskIsRight n d entries)) same summed_up.shelf.contents);
        failed = fails (save_faults entries) summed_up.sum.failed;
      }

  pub made_comes : {K : Type 0} (held : K → Option (List ℕ)) (faults : K → ℕ) (Untouched Failed Saved : Type 0) (old new : K)
      (told : Result Replies AllocError) (result : Result (Unit {0}) Stopped)
      → ((entries : List Entry) → IsMadeHistory opening now d entries → IsFrontOf lists [] entries → Saved)
      → IsSummedUp first now d lists told → WritesReplies held faults old new told result
      → Comes held faults (λ ending out. IsSummary opening now d lists (HaveFailed ending) out) Untouched Failed Saved old new result
  made_comes held faults U F S old new (Ok told) (Ok x) cut summed_up writes =
      (string_bytes told.text, summary_is told NoneFailed summed_up (none_failed told.save_failed writes.1), writes.0)
  made_comes held faults U F S old new (Ok told) (Err SaveFault) cut summed_up writes =
      (string_bytes told.text, summary_is told SomeFailed summed_up (some_failed told.save_failed writes.1), writes.0)
  made_comes held faults U F S old new (Ok told) (Err (Rejected why)) cut summed_up writes = absurd writes
  made_comes held faults U F S old new (Ok told) (Err SinkFault) cut summed_up writes =
      (string_bytes told.text, summary_is told AnyFailed summed_up (λ n h. tt), writes)
  made_comes held faults U F S old new (Ok told) (Err SourceFault) cut summed_up writes = absurd writes
  made_comes held faults U F S old new (Ok told) (Err BadHead) cut summed_up writes = absurd writes
  made_comes held faults U F S old new (Ok told) (Err (BadLine bad)) cut summed_up writes = absurd writes
  made_comes held faults U F S old new (Ok told) (Err ShelfFault) cut summed_up writes = absurd writes
  made_comes held faults U F S old new (Ok told) (Err (Refused refused)) cut summed_up writes = absurd writes
  made_comes held faults U F S old new (Ok told) (Err (NotFlattened why)) cut summed_up writes = absurd writes
  made_comes held faults U F S old new (Ok told) (Err Memory) cut summed_up writes = absurd writes
  made_comes held faults U F S old new (Err e) result cut summed_up writes =
      subst (λ (r : Result (Unit {0}) Stopped).
      Comes held faults (λ ending out. IsSummary opening now d lists (HaveFailed ending) out) U F S
      old new r) (sym writes.0)
      ((ap held writes.1, ap faults writes.1), cut summed_up.entries (made_history (Err e) summed_up) summed_up.front)

-- ---- why it stops

pub made_stops : {K : Type 0} (held : K → Option (List ℕ)) (faults : K → ℕ) (old new : K) (told : Result Replies AllocError)
    (result : Result (Unit {0}) Stopped)
    → WritesReplies held faults old new told result → StopsMaking result
made_stops held faults old new (Ok told) (Ok x) writes = tt
made_stops held faults old new (Ok told) (Err SourceFault) writes = absurd writes
made_stops held faults old new (Ok told) (Err BadHead) writes = absurd writes
made_stops held faults old new (Ok told) (Err (BadLine bad)) writes = absurd writes
made_stops held faults old new (Ok told) (Err ShelfFault) writes = absurd writes
made_stops held faults old new (Ok told) (Err (Refused refused)) writes = absurd writes
made_stops held faults old new (Ok told) (Err (NotFlattened why)) writes = absurd writes
made_stops held faults old new (Ok told) (Err SaveFault) writes = tt
made_stops held faults old new (Ok told) (Err (Rejected why)) writes = absurd writes
made_stops held faults old new (Ok told) (Err SinkFault) writes = tt
made_stops held faults old new (Ok told) (Err Memory) writes = absurd writes
made_stops held faults old new (Err e) result writes = subst StopsMaking (sym writes.0) tt

pub made_cause : {K : Type 0} (held : K → Option (List ℕ)) (faults : K → ℕ) (old new : K) (before after : ShelfState) (name : List ℕ)
    (seed : ℕ) (told : Result Replies AllocError) (result : Result (Unit {0}) Stopped)
    → after.reading ≡ before.reading → WritesReplies held faults old new told result
    → ShelfCauseOf before after (make name seed) result
made_cause held faults old new before after name seed (Ok told) (Ok x) same writes = same
made_cause held faults old new before after name seed (Ok told) (Err SourceFault) same writes = absurd writes
made_cause held faults old new before after name seed (Ok told) (Err BadHead) same writes = absurd writes
made_cause held faults old new before after name seed (Ok told) (Err (BadLine bad)) same writes = absurd writes
made_cause held faults old new before after name seed (Ok told) (Err ShelfFault) same writes = absurd writes
made_cause held faults old new before after name seed (Ok told) (Err (Refused refused)) same writes = absurd writes
made_cause held faults old new before after name seed (Ok told) (Err (NotFlattened why)) same writes = absurd writes
made_cause held faults old new before after name seed (Ok told) (Err SaveFault) same writes = same
made_cause held faults old new before after name seed (Ok told) (Err (Rejected why)) same writes = same
made_cause held faults old new before after name seed (Ok told) (Err SinkFault) same writes = same
made_cause held faults old new before after name seed (Ok told) (Err Memory) same writes = absurd writes
made_cause held faults old new before after name seed (Err e) result same writes =
    subst (ShelfCauseOf before after (make name seed)) (sym writes.0) same
