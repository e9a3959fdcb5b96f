-- What one call more makes of what a session has made.
use Rattle.std.proofs.Common.{◌≡◌, ℕ, Bool, true, false, List, [], ◌∷◌, ◌++◌, length, None, refl, sym, ap, ◌∙◌, subst}
use Rattle.std.specs.Prelude.{MatchBool}
use mathlib.Core.List.{IsPrefix}
use Rattle.spec_document.specs.Document.{Document}
use Rattle.spec_filters.specs.declared.FilterState.{FilterState}
use Rattle.spec_history.specs.Machine as machine
use Rattle.spec_history.specs.Machine.{Call, Reply, tile_of}
use Rattle.spec_history.specs.History.{Entry, asked, latest_of}
use Rattle.spec_history.specs.Kept.{IsFreshReply, IsLegal}
use Rattle.spec_script.specs.Script.{Line, call}
use Rattle.spec_tables.specs.Tables.{expected_tables, used_by}
use Rattle.spec_tables.proofs.Made.{filters_made}
use Rattle.spec_text.specs.Text.{is_save_memory}
use Rattle.spec_seats.specs.Picked.{picked, IsCaughtUp}
use Rattle.spec_seats.specs.Digests.{asks_tile, digest_in, digests_in}
use Rattle.spec_seats.specs.Made.{HasMade, IsOf}
use Rattle.spec_tables.specs.Tables.{edits_made, filters_along}
use Rattle.spec_seats.proofs.More.{picked_one, made_call, caught_up_last}
use Rattle.spec_tables.proofs.Along.{filters_append}
use Rattle.spec_seats.proofs.Shown.{digests_one}
use Rattle.xl_studio.specs.History.{Shows}
use Rattle.xl_studio.specs.declared.moment.Moment.{Moment}
use Rattle.xl_studio.specs.declared.moment.Moment.TheVariants.{Made}
use Rattle.xl_studio.specs.Calling.{called_entry, Known, IsCalled}
use Rattle.xl_studio.specs.Moments.{entries_in}
use Rattle.xl_studio.proofs.Grown.{entries-append, entries-prefix}
use Rattle.xl_sessions.specs.Playing.{said}
use Rattle.xl_run.specs.Printing.{IsPrinted}

-- After others had made their entries the call was made, as the next entry. The places of a session have that one more.
pub record IsCallMore (session : ℕ) (c : Call) (tables : List (List ℕ)) (reply : Reply) (places : List ℕ) (es : List Entry)
    (places_then : List ℕ) (es_then : List Entry) : Type 0 where
  pub entered : List Entry
  pub index : ℕ
  pub begins : IsPrefix es entered
  pub places_are : places_then ≡ places ++ length entered ∷ []
  pub entries_are : es_then ≡ entered ++ record { session = session; index = index; kind = asked c tables; reply = reply } ∷ []

abbrev pub entry_more : (session : ℕ) → Call → (tables : List (List ℕ)) → Reply → (index : ℕ) → Entry
entry_more session c tables reply index = record { session = session; index = index; kind = asked c tables; reply = reply }

-- a fact of places and of a history goes along two equations
pub at_both : (P : List ℕ → List Entry → Type 0) (places places_then : List ℕ) (es es_then : List Entry) → places_then ≡ places
    → es_then ≡ es → P places es → P places_then es_then
at_both P places places_then es es_then p q is = subst (λ ps. P ps es_then) (sym p) (subst (P places) (sym q) is)

-- ---- where it is answered by a reply that is printed

pub full_is_not_printed : (reply : Reply) → IsPrinted reply → reply ≡ machine.history_full → ⊥
full_is_not_printed reply printed is = subst IsPrinted is printed

pub printed_memory : (reply : Reply) → IsPrinted reply → is_save_memory reply ≡ false
printed_memory (machine.changed version group next) is = refl
printed_memory (machine.refused index cause) is = refl
printed_memory (machine.moved now) is = refl
printed_memory machine.nothing_to_undo is = refl
printed_memory machine.nothing_to_redo is = refl
printed_memory (machine.not_top top) is = refl
printed_memory (machine.tile_of version) is = refl
printed_memory (machine.stale have seen) is = refl
printed_memory (machine.no_stack node) is = refl
printed_memory machine.outside_tile is = refl
printed_memory (machine.top_is group version) is = refl
printed_memory (machine.saved version) is = refl
printed_memory (machine.save_fault version) is = refl
printed_memory (machine.save_memory version) is = absurd is
printed_memory machine.history_full is = absurd is

module _ {K : Type 0} where
  more_where : (full : Bool) (session : ℕ) (c : Call) (tables : List (List ℕ)) (reply : Reply) (old new : Known K)
      (entered : List (Moment K)) → IsPrefix old.front entered → IsPrinted reply
      → MatchBool full ((reply ≡ machine.history_full) × (new.front ≡ entered) × (new.made ≡ old.made))
      ((new.front ≡ entered ++ Made (called_entry (entries_in entered) session c tables reply) None ∷ [])
      × (new.made ≡ old.made ++ length (entries_in entered) ∷ []))
      → IsCallMore session c tables reply old.made (entries_in old.front) new.made (entries_in new.front)
  more_where true session c tables reply old new entered begins printed is =
      absurd (full_is_not_printed reply printed is.0)
  more_where false session c tables reply old new entered begins printed is =
      let e : Entry = called_entry (entries_in entered) session c tables reply in
      record {
        entered = entries_in entered;
        index = e.index;
        begins = entries-prefix old.front entered begins;
        places_are = is.1;
        entries_are = ap entries_in is.0 ∙ entries-append entered (Made e None ∷ []);
      }

  pub call_more : (base : Document) (session : ℕ) (c : Call) (tables : List (List ℕ)) (reply : Reply) (old new : Known K)
      → IsCalled base session c tables reply old new → IsPrinted reply
      → IsCallMore session c tables reply old.made (entries_in old.front) new.made (entries_in new.front)
  call_more base session c tables reply old new called printed =
      more_where _ session c tables reply old new called.entered called.begins printed called.made

-- ---- what follows

module _ {session : ℕ} {c : Call} {tables : List (List ℕ)} {reply : Reply} {places : List ℕ} {es : List Entry}
    {places_then : List ℕ} {es_then : List Entry}
    (of : IsOf session places es) (more : IsCallMore session c tables reply places es places_then es_then) where
  -- the session has seen the last version
  pub call_up : IsCaughtUp places_then es_then
  call_up =
      at_both IsCaughtUp (places ++ length more.entered ∷ []) places_then
      (more.entered ++ entry_more session c tables reply more.index ∷ []) es_then more.places_are more.entries_are
      (caught_up_last places more.entered (entry_more session c tables reply more.index))

  picked_more : picked places_then es_then ≡ picked places es ++ entry_more session c tables reply more.index ∷ []
  picked_more =
      let e = entry_more session c tables reply more.index in
      (λ i. picked (more.places_are i) (more.entries_are i)) ∙ picked_one places es more.entered e more.begins of.within

  pub call_filters : (filters : List FilterState)
      → filters_along filters (picked places_then es_then) ≡ used_by (filters_along filters (picked places es)) (edits_made c reply)
  call_filters filters =
      let e = entry_more session c tables reply more.index in
      ap (filters_along filters) picked_more ∙ filters_append filters (picked places es) (e ∷ [])
      ∙ filters_made (filters_along filters (picked places es)) c tables reply

  pub call_told : (base : Document) → IsLegal base es
      → digests_in base es_then (picked places_then es_then)
      ≡ digests_in base es (picked places es) ++ digest_in base es_then (asked c tables) reply
  call_told base legal =
      let e = entry_more session c tables reply more.index in
      (λ i. digests_in base (more.entries_are i) (picked (more.places_are i) (more.entries_are i)))
      ∙ digests_one base places es more.entered e legal more.begins of.within
      ∙ ap (λ all. digests_in base es (picked places es) ++ digest_in base all (asked c tables) reply) (sym more.entries_are)

-- it has made a call more
pub call_made : (session : ℕ) (filters : List FilterState) (lines : List Line) (c : Call) (reply : Reply) (places : List ℕ)
    (es : List Entry) (places_then : List ℕ) (es_then : List Entry)
    → HasMade session filters lines places es → IsCaughtUp places es
    → IsCallMore session c (expected_tables (filters_along filters (picked places es)) (asked c []) reply)
    reply places es places_then es_then
    → IsPrinted reply → IsFreshReply (latest_of es) reply
    → HasMade session filters (lines ++ call c ∷ []) places_then es_then
call_made session filters lines c reply places es places_then es_then made up more printed fresh =
    let tables : List (List ℕ) = expected_tables (filters_along filters (picked places es)) (asked c []) reply in
    let e = entry_more session c tables reply more.index in
    at_both (HasMade session filters (lines ++ call c ∷ [])) (places ++ length more.entered ∷ []) places_then
    (more.entered ++ e ∷ []) es_then more.places_are more.entries_are
    (made_call session filters lines places es more.entered e c tables made up more.begins refl refl refl
    (printed_memory reply printed) fresh)

-- where no tile was asked for nothing is said
said_none : (reply : Reply) (bytes : List ℕ) → said false reply bytes ≡ []
said_none (tile_of version) bytes = refl
said_none reply bytes = refl

-- what is said of the call is the digest of the tile that it is shown
pub call_said : (base : Document) (es : List Entry) (c : Call) (tables : List (List ℕ)) (reply : Reply) (bytes : List ℕ)
    → Shows (record { base = base; entries = es }) c reply bytes
    → said (asks_tile c) reply bytes ≡ digest_in base es (asked c tables) reply
call_said base es (machine.tile stack at) tables (tile_of version) bytes shown = ap (λ bs. said true (tile_of version) bs) shown
call_said base es (machine.tile stack at) tables reply bytes shown = refl
call_said base es (machine.peek stack at) tables (tile_of version) bytes shown = ap (λ bs. said true (tile_of version) bs) shown
call_said base es (machine.peek stack at) tables reply bytes shown = refl
call_said base es (machine.edit guard edits) tables reply bytes shown = said_none reply bytes
call_said base es (machine.undo named) tables reply bytes shown = said_none reply bytes
call_said base es machine.redo tables reply bytes shown = said_none reply bytes
call_said base es machine.top tables reply bytes shown = said_none reply bytes
