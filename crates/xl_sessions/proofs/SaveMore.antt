-- What one save more makes of what a session has made.
use Rattle.std.proofs.Common.{◌≡◌, ℕ, List, [], ◌∷◌, ◌++◌, length, inl, inr, refl, ap, ◌∙◌, subst, sym}
use mathlib.Core.List.{IsPrefix}
use Rattle.spec_document.specs.Document.{Document}
use Rattle.spec_filters.specs.declared.FilterState.{FilterState}
use Rattle.spec_history.specs.Machine.{Reply, saved}
use Rattle.spec_history.specs.History.{Entry, starts, ends, latest_of, next_index}
use Rattle.spec_history.specs.Kept.{IsFreshReply, IsLegal}
use Rattle.xl_ports.specs.State.{ShelfState}
use Rattle.spec_script.specs.Script.{Line, save}
use Rattle.spec_seats.specs.Picked.{picked, IsCaughtUp}
use Rattle.spec_seats.specs.Digests.{digests_in}
use Rattle.spec_seats.specs.Made.{HasMade, IsOf}
use Rattle.spec_tables.specs.Tables.{filters_along}
use Rattle.spec_seats.proofs.More.{before_end, with_save, picked_two, made_save, caught_up_last}
use Rattle.spec_tables.proofs.Along.{filters_append}
use Rattle.spec_seats.proofs.Shown.{digests_save}
use Rattle.spec_world.specs.declared.SaveEnd.{SaveEnd}
use Rattle.spec_world.specs.declared.SaveEnd.TheVariants.{Done, Fault, Memory}
use Rattle.spec_world.specs.Events.{end_reply}
use Rattle.xl_studio.specs.Editing.{start_of}
use Rattle.xl_studio.specs.Calling.{Known}
use Rattle.xl_studio.specs.Moments.{entries_in}
use Rattle.xl_studio.specs.Saving.{IsSaved, IsWhole, end_behind}
use Rattle.xl_studio.specs.Seats.{history_of}
use Rattle.xl_studio.proofs.Grown.{entries-prefix}
use Rattle.xl_run.specs.Printing.{IsPrinted}
use Rattle.xl_sessions.proofs.CallMore.{at_both, full_is_not_printed, printed_memory}
use Rattle.xl_sessions.proofs.Made.{saved_entries, saved_places}

abbrev pub start_more : (session index version : ℕ) → Entry
start_more session index version = record { session = session; index = index; kind = starts; reply = saved version }

abbrev pub end_more : (session index : ℕ) → Reply → Entry
end_more session index reply = record { session = session; index = index; kind = ends; reply = reply }

-- After others had made their entries the save was started; others made some until its end. The places of a session have these two
-- more.
pub record IsSaveMore (session : ℕ) (reply : Reply) (places : List ℕ) (es : List Entry) (places_then : List ℕ)
    (es_then : List Entry) : Type 0 where
  pub entered : List Entry
  pub between : List Entry
  pub index : ℕ
  pub version : ℕ
  pub begins : IsPrefix es entered
  pub fresh : (seen : ℕ) → IsFreshReply seen reply
  pub places_are : places_then ≡ with_save places entered (start_more session index version) between
  pub entries_are : es_then ≡ before_end entered (start_more session index version) between ++ end_more session index reply ∷ []

fresh_end : (how : SaveEnd) (version seen : ℕ) → IsFreshReply seen (end_reply how version)
fresh_end Done version seen = tt
fresh_end Fault version seen = tt
fresh_end Memory version seen = tt

module _ {K : Type 0} where
  pub whole_more : (see : K → ShelfState) (opening : K) (base : Document) (session : ℕ) (reply : Reply) (old new : Known K)
      → IsWhole see opening base session reply old new
      → IsSaveMore session reply old.made (entries_in old.front) new.made (entries_in new.front)
  whole_more see opening base session reply old new whole =
      let es = entries_in whole.entered in
      let s : Entry = start_of (history_of base whole.entered) session in
      let t : Entry = end_behind es session reply in
      record {
        entered = es;
        between = entries_in whole.between;
        index = next_index es session;
        version = latest_of es;
        begins = entries-prefix old.front whole.entered whole.begins;
        fresh = λ seen. subst (IsFreshReply seen) (sym whole.reply_is) (fresh_end whole.how (latest_of es) seen);
        places_are = whole.made ∙ saved_places old.made es (entries_in whole.between) s;
        entries_are = ap entries_in whole.front ∙ saved_entries whole.entered whole.between s t whole.shelf;
      }

  pub save_more : (see : K → ShelfState) (opening : K) (base : Document) (session : ℕ) (reply : Reply) (old new : Known K)
      → IsSaved see opening base session reply old new → IsPrinted reply
      → IsSaveMore session reply old.made (entries_in old.front) new.made (entries_in new.front)
  save_more see opening base session reply old new is printed = elim is.is [
    | inl full ↦ absurd (full_is_not_printed reply printed full.reply_is)
    | inr whole ↦ whole_more see opening base session reply old new whole
  ]

module _ {session : ℕ} {reply : Reply} {places : List ℕ} {es : List Entry} {places_then : List ℕ} {es_then : List Entry}
    (of : IsOf session places es) (more : IsSaveMore session reply places es places_then es_then) where
  pub save_up : IsCaughtUp places_then es_then
  save_up =
      let s = start_more session more.index more.version in
      let t = end_more session more.index reply in
      at_both IsCaughtUp (with_save places more.entered s more.between) places_then
      (before_end more.entered s more.between ++ t ∷ []) es_then more.places_are more.entries_are
      (caught_up_last (places ++ length more.entered ∷ []) (before_end more.entered s more.between) t)

  -- a save uses no filter
  pub save_filters : (filters : List FilterState)
      → filters_along filters (picked places_then es_then) ≡ filters_along filters (picked places es)
  save_filters filters =
      let s = start_more session more.index more.version in
      let t = end_more session more.index reply in
      let mine = picked places es in
      ap (filters_along filters) ((λ i. picked (more.places_are i) (more.entries_are i))
      ∙ picked_two places es more.entered s more.between t more.begins of.within)
      ∙ filters_append filters (mine ++ s ∷ []) (t ∷ []) ∙ filters_append filters mine (s ∷ [])

  -- and shows no tile
  pub save_told : (base : Document) → IsLegal base es
      → digests_in base es_then (picked places_then es_then) ≡ digests_in base es (picked places es)
  save_told base legal =
      let s = start_more session more.index more.version in
      let t = end_more session more.index reply in
      (λ i. digests_in base (more.entries_are i) (picked (more.places_are i) (more.entries_are i)))
      ∙ digests_save base places es more.entered s more.between t legal more.begins of.within refl refl

-- it has made a save more
pub save_made : (session : ℕ) (filters : List FilterState) (lines : List Line) (reply : Reply) (places : List ℕ) (es : List Entry)
    (places_then : List ℕ) (es_then : List Entry)
    → HasMade session filters lines places es → IsSaveMore session reply places es places_then es_then → IsPrinted reply
    → HasMade session filters (lines ++ save ∷ []) places_then es_then
save_made session filters lines reply places es places_then es_then made more printed =
    let s = start_more session more.index more.version in
    let t = end_more session more.index reply in
    at_both (HasMade session filters (lines ++ save ∷ [])) (with_save places more.entered s more.between) places_then
    (before_end more.entered s more.between ++ t ∷ []) es_then more.places_are more.entries_are
    (made_save session filters lines places es more.entered s more.between t made more.begins refl refl refl refl refl refl
    (printed_memory reply printed) (λ seen. tt) more.fresh)
