-- What a talk over a file comes to.
use Rattle.std.proofs.Common.{◌≡◌, ℕ, Bool, List, Some, None, refl, sym, subst}
use Rattle.std.specs.Prelude.{Option}
use Rattle.spec_document.specs.Document.{Document}
use Rattle.spec_history.specs.History.{replay}
use Rattle.spec_history.specs.Kept.{IsLegal}
use Rattle.spec_run.specs.Failed.{WhetherFailed}
use Rattle.spec_run.specs.Versions.{AreWithin}
use Rattle.spec_saves.specs.Names.{save_faults}
use Rattle.spec_saves.specs.Shelf.{ShelfIsRight}
use Rattle.spec_serve.specs.Said.{all_said, told_text}
use Rattle.xl_commands.specs.Outcome.{Given, IsUntouched}
use Rattle.xl_history.specs.Editing.{Editing, IsRight}
use Rattle.xl_ports.specs.State.{ShelfState}
use Rattle.xl_serve.specs.Causes.{HasEndCause}
use Rattle.xl_serve.specs.Talking.{HasSaid, IsKeptOf}
use Rattle.xl_serve.specs.declared.ends.TalkEnd.{TalkEnd}
use Rattle.xl_serving.specs.Opened.{IsOpened}
use Rattle.xl_serving.specs.Served.{IsTalked, Serves, ShelfGoes}
use Rattle.xl_serving.specs.Written.{IsWritten}
use Rattle.xl_serving.proofs.Histories.{history_of, shelf_goes_on, shelf_opened}
use Rattle.xl_serving.proofs.Statuses.{none_told, talk_told}

pub some_same : {A : Type 0} {x y : A} → Some x ≡ Some y → x ≡ y
some_same is = cc

-- ---- without memory before the first line

module _ {K S : Type 0} (held : K → Option (List ℕ)) (faults : K → ℕ) (count : S → ℕ) where
  pub none_ends : (given : Given) (name : List ℕ) (before mid after : ShelfState) (d : Document) (was : S) (begun : K) (status : ℕ)
      → IsOpened name before mid d → after ≡ mid → status ≡ 8
      → Serves held faults count given (Some name) before after was was begun begun status × ShelfGoes (Some name) before after status
  none_ends given name before mid after d was begun status there same is = (
    none_told held faults count given (Some name) before after was was begun begun status is (refl, refl)
        (record { untouched = subst (IsUntouched before) (sym same) there.untouched; unread = refl }),
    shelf_opened name before mid after d status there same,
  )

-- ---- the core that was talked over, and the shelf that it gave back

pub record IsTalkedOver {D : Type 0} (see : D → ShelfState) (opening back : D) (base : Document) (core : Editing D) : Type 0 where
  pub base_is : core.history.base ≡ base
  pub opening_is : core.opening ≡ opening
  pub legal : IsLegal core.history.base core.history.entries
  pub ended : (replay core.history.base core.history.entries).out ≡ None
  pub versions : AreWithin core.history.base core.history.entries
  pub right : IsRight see core back

module _ {D K S : Type 0} (see : D → ShelfState) (held : K → Option (List ℕ)) (faults : K → ℕ) (count : S → ℕ) where
  -- what stands in the end was written by how it ended
  abbrev pub Ends : (base : Editing D) (mid last : K) (out : List ℕ) → TalkEnd → (status : ℕ) → Type 0
  Ends core mid last out end status = (begun : K) (told : List ℕ) → IsKeptOf held faults begun mid told out end
      → (failed : Bool) × WhetherFailed failed (save_faults core.history.entries)
      × IsWritten held faults begun last told core.history.entries end failed status

  pub talk_ends : (given : Given) (name : List ℕ) (before : ShelfState) (opening back : D) (base : Document) (core : Editing D)
      (was now : S) (begun mid last : K) (out : List ℕ) (end : TalkEnd) (status : ℕ) → IsOpened name before (see opening) base
      → IsTalkedOver see opening back base core
      → HasSaid held faults base given.chests given.left begun mid out core.history.entries end
      → HasEndCause (count was) (count now) end → Ends core mid last out end status
      → Serves held faults count given (Some name) before (see back) was now begun last status
      × ShelfGoes (Some name) before (see back) status
  talk_ends given name before opening back base core was now begun mid last out end status there over said cause ends =
      let es = core.history.entries in
      let right : ShelfIsRight (see opening) base es (see back) =
      subst (λ (o : D). ShelfIsRight (see o) base es (see back)) over.opening_is
      (subst (λ (b : Document). ShelfIsRight (see core.opening) b es (see back)) over.base_is over.right) in
      let legal = subst (λ (b : Document). IsLegal b es) over.base_is over.legal in
      let versions = subst (λ (b : Document). AreWithin b es) over.base_is over.versions in
      let talk : IsTalked given (Some name) before (see back) end =
      record {
        name = name;
        asked = refl;
        document = base;
        lines = said.lines;
        turns = said.turns;
        entries = es;
        talk = said.talk;
        first = said.first;
        stops = said.stops;
        entered = said.entries;
        history = history_of there (see back) es right legal versions;
        ended = subst (λ (b : Document). (replay b es).out ≡ None) over.base_is over.ended;
      } in
      let written = ends begun (told_text base (all_said said.turns)) said.kept in (
        talk_told held faults count given (Some name) before (see back) was now begun last end written.0 talk status written.1 cause written.2,
        shelf_goes_on there (see back) es right status,
      )
