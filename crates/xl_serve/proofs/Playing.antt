-- What each kind of a session's line makes.
use Rattle.std.proofs.Common.{◌≡◌, inl, inr, ℕ, ◌+◌, ◌≤◌, Bool, false, cond, List, [], ◌∷◌, ◌++◌, length, None, refl, sym, ap, ◌∙◌, subst, arith, append-nil}
use Rattle.std.proofs.Common.{append_assoc, slice_set}
use Rattle.std.specs.Prelude.{Option, Result, Ok, Err, OnErr, codes}
use Rattle.spec_filters.specs.declared.FilterState.{FilterState}
use Rattle.spec_history.specs.declared.TheConstants.{MAX_ENTRIES}
use Rattle.spec_history.specs.Machine.{Call, Reply}
use Rattle.spec_history.specs.History.{Entry, asked, ends, is_changed, next_index, latest_of, mine}
use Rattle.spec_history.specs.Kept.{IsFreshReply}
use Rattle.spec_history.proofs.Growing.{latest_of-snoc}
use Rattle.spec_script.specs.Script as script
use Rattle.spec_script.specs.Fits.{dropped_by}
use Rattle.spec_serve.specs.declared.TheConstants.{ROOM_FOR_SAVES}
use Rattle.spec_serve.specs.Hearing.{plays}
use Rattle.spec_serve.specs.Said.{Said, entered, full, entry_text, told_line, short_line}
use Rattle.spec_serve.specs.Talk.{IsAnswer, IsTurn, MayEnd}
use Rattle.spec_tables.specs.Agrees.{Agrees}
use Rattle.spec_tables.specs.Tables.{expected_tables, filters_along}
use Rattle.spec_tables.proofs.Chests.{some_list}
use Rattle.spec_text.specs.Printed.{spaced, line_text}
use Rattle.spec_world.specs.declared.SaveEnd.{SaveEnd}
use Rattle.spec_world.specs.declared.SaveEnd.TheVariants.{Done, Fault, Memory}
use Rattle.spec_world.specs.Events.{end_reply}
use Rattle.xl_history.specs.Editing.{start_of}
use Rattle.xl_history.specs.History.{History, version}
use Rattle.xl_play.specs.Playing.{with_save, shown_of}
use Rattle.xl_serve.specs.Standing.{SeatState, seat_of, IsSeated, HasFilters}
use Rattle.xl_serve.specs.Played.{IsReplied, IsCut, IsPlayed}
use Rattle.xl_run.proofs.Chests.{stocked_after, stocked_without, agrees_without}
use Rattle.xl_serve.proofs.Seats.{own_one}
use Rattle.xl_serve.proofs.Texts.{one_text, two_texts}

pub on_err : {T E P : Type 0} → P → (r : Result T E) → OnErr r P
on_err p (Ok x) = tt
on_err p (Err e) = p

-- the turn of an entry, behind which the end of a save may stand
entry_turn : (session number : ℕ) (line : script.Line) (e : Entry) (behind : List Said) → MayEnd behind
    → IsAnswer number (plays session line) (entered e ∷ []) → IsTurn number (plays session line) (entered e ∷ behind)
entry_turn session number line e behind may_end answers = record {
  before = [];
  answer = entered e ∷ [];
  behind = behind;
  parts = refl;
  may_end = (tt, may_end);
  answers = answers;
}

-- ---- a call

module _ (old new : History) (session : ℕ) (c : Call) (seen then_seen : ℕ) (before after : List (Option FilterState))
    (bytes : List ℕ) (reply : Reply) where
  abbrev call_entry : List (List ℕ) → Entry
  call_entry tables =
      record { session = session; index = next_index old.entries session; kind = asked c tables; reply = reply }

  call_entries : (filters : List FilterState) → Agrees before filters → IsReplied old session c seen before after bytes reply new
      → new.entries ≡ old.entries ++ call_entry (expected_tables filters (asked c []) reply) ∷ []
  call_entries filters agrees is = ap (λ (h : History). h.entries) (is.grown filters agrees)

  pub call_played : (index : ℕ) (digest text : List ℕ) → IsReplied old session c seen before after bytes reply new
      → then_seen ≡ version new
      → ((es : List Entry) (e : Entry) → new.entries ≡ es ++ e ∷ [] → index ≡ e.index)
      → digest ≡ shown_of reply bytes → text ≡ line_text session index digest reply
      → IsPlayed session (script.call c) old new (seat_of seen before) (seat_of then_seen after) text
  call_played index digest text is now indexed shown printed =
      let some = some_list before in
      let tables : List (List ℕ) = expected_tables some.0 (asked c []) reply in
      let e = call_entry tables in
      let es : new.entries ≡ old.entries ++ e ∷ [] = call_entries some.0 some.1 is in
      let index_is : index ≡ next_index old.entries session = indexed old.entries e es in
      record {
        answered = λ number. record {
          turn = entered e ∷ [];
          is_turn = entry_turn session number (script.call c) e [] tt (inl (e, refl, refl, refl));
          entries = es;
          said = (tt, tt);
          text_is = printed ∙ ap (λ (i : ℕ). line_text session i digest reply) index_is
              ∙ ap (λ (d : List ℕ). line_text session (next_index old.entries session) d reply) (shown ∙ is.shown tables)
              ∙ sym (one_text new.base new.entries (entered e));
        };
        more = e ∷ [];
        entries = es;
        own = (refl, tt);
        seated = λ filters seated.
            let along = filters_along filters (mine old.entries session) in
            let own = call_entries along seated.agrees is in
            let entry = call_entry (expected_tables along (asked c []) reply) in
            subst (λ (l : List Entry). IsSeated filters l session (seat_of then_seen after)) (sym own)
            (own_one filters old.entries entry session (seat_of seen before) (seat_of then_seen after) refl is.fresh refl
            (is.used.states along seated.agrees) (now ∙ ap latest_of own) seated);
        has = λ given dropped has. stocked_after given dropped before after is.used.slots has;
      }

  -- memory ran out for its line
  pub call_cut : IsReplied old session c seen before after bytes reply new → IsCut session (script.call c) old new
  call_cut is =
      let some = some_list before in
      let e = call_entry (expected_tables some.0 (asked c []) reply) in
      inr (
        entered e ∷ [],
        λ number. entry_turn session number (script.call c) e [] tt (inl (e, refl, refl, refl)),
        call_entries some.0 some.1 is,
      )

-- ---- a save in its place

-- no end of a save says anything of a tile, or changes the document
end_fresh : (how : SaveEnd) (v seen : ℕ) → IsFreshReply seen (end_reply how v)
end_fresh Done v seen = tt
end_fresh Fault v seen = tt
end_fresh Memory v seen = tt

end_stays : (how : SaveEnd) (v : ℕ) → is_changed (end_reply how v) ≡ false
end_stays Done v = refl
end_stays Fault v = refl
end_stays Memory v = refl

no_change : (es : List Entry) (e : Entry) → is_changed e.reply ≡ false → latest_of (es ++ e ∷ []) ≡ latest_of es
no_change es e same =
    let none : latest_of es + 0 ≡ latest_of es = omega arith in
    latest_of-snoc es e ∙ ap (λ (b : Bool). latest_of es + cond b 1 0) same ∙ none

module _ (old new : History) (session : ℕ) (seen then_seen : ℕ) (chest : List (Option FilterState)) (how : SaveEnd) where
  abbrev started : Entry
  started = start_of old session

  abbrev ended : Entry
  ended = record {
    session = session;
    index = next_index old.entries session;
    kind = ends;
    reply = end_reply how (version old);
  }

  start_latest : latest_of (old.entries ++ started ∷ []) ≡ version old
  start_latest = no_change old.entries started refl

  end_latest : latest_of ((old.entries ++ started ∷ []) ++ ended ∷ []) ≡ version old
  end_latest = no_change (old.entries ++ started ∷ []) ended (end_stays how (version old)) ∙ start_latest

  split : (old.entries ++ started ∷ []) ++ ended ∷ [] ≡ old.entries ++ started ∷ ended ∷ []
  split = append_assoc old.entries (started ∷ []) (ended ∷ [])

  save_turn : (number : ℕ) → IsTurn number (plays session script.save) (entered started ∷ entered ended ∷ [])
  save_turn number = entry_turn session number script.save started (entered ended ∷ []) tt (inl (started, refl, refl, refl))

  -- memory ran out for its lines
  pub save_cut : new ≡ with_save old session (end_reply how (version old)) → IsCut session script.save old new
  save_cut is = inr (entered started ∷ entered ended ∷ [], save_turn, ap (λ (h : History). h.entries) is)

  pub save_played : (index : ℕ) (first last text : List ℕ) → new ≡ with_save old session (end_reply how (version old))
      → then_seen ≡ version old → ((es : List Entry) (e : Entry) → new.entries ≡ es ++ e ∷ [] → index ≡ e.index)
      → first ≡ told_line session index (codes "saving" ++ spaced (version old))
      → last ≡ told_line session index (entry_text [] ends (end_reply how (version old))) → text ≡ first ++ last
      → IsPlayed session script.save old new (seat_of seen chest) (seat_of then_seen chest) text
  save_played index first last text is now indexed first_is last_is joined =
      let es : new.entries ≡ old.entries ++ started ∷ ended ∷ [] = ap (λ (h : History). h.entries) is in
      let index_is : index ≡ next_index old.entries session = indexed (old.entries ++ started ∷ []) ended (es ∙ sym split) in
      record {
        answered = λ number. record {
          turn = entered started ∷ entered ended ∷ [];
          is_turn = save_turn number;
          entries = es;
          said = (tt, (tt, tt));
          text_is = joined ∙ ap (λ (l : List ℕ). l ++ last) first_is
              ∙ ap (λ (l : List ℕ). told_line session index (codes "saving" ++ spaced (version old)) ++ l) last_is
              ∙ ap (λ (i : ℕ). told_line session i (codes "saving" ++ spaced (version old))
              ++ told_line session i (entry_text [] ends (end_reply how (version old)))) index_is
              ∙ sym (two_texts new.base new.entries (entered started) (entered ended));
        };
        more = started ∷ ended ∷ [];
        entries = es;
        own = (refl, (refl, tt));
        seated = λ filters seated.
            let first_seat = own_one filters old.entries started session (seat_of seen chest) (seat_of then_seen chest) refl tt refl
            seated.agrees (now ∙ sym start_latest) seated in
            subst (λ (l : List Entry). IsSeated filters l session (seat_of then_seen chest)) (split ∙ sym es)
            (own_one filters (old.entries ++ started ∷ []) ended session (seat_of then_seen chest) (seat_of then_seen chest) refl
            (end_fresh how (version old) then_seen) refl first_seat.agrees (now ∙ sym end_latest) first_seat);
        has = λ given dropped has. has;
      }

save_by : (old new : History) (session v : ℕ) (how : SaveEnd) (reply : Reply) → v ≡ version old → reply ≡ end_reply how v
    → new ≡ with_save old session reply → new ≡ with_save old session (end_reply how (version old))
save_by old new session v how reply now is_end is = is ∙ ap (with_save old session) (is_end ∙ ap (end_reply how) now)

-- the same of a reply and a version that are these
pub save_played_by : (old new : History) (session seen v : ℕ) (chest : List (Option FilterState)) (how : SaveEnd) (reply : Reply)
    (index : ℕ) (text : List ℕ) → v ≡ version old → reply ≡ end_reply how v → new ≡ with_save old session reply
    → ((es : List Entry) (e : Entry) → new.entries ≡ es ++ e ∷ [] → index ≡ e.index)
    → text ≡ told_line session index (codes "saving" ++ spaced v) ++ told_line session index (entry_text [] ends (end_reply how v))
    → IsPlayed session script.save old new (seat_of seen chest) (seat_of v chest) text
save_played_by old new session seen v chest how reply index text now is_end is indexed printed =
    save_played old new session seen v chest how index _ _ text (save_by old new session v how reply now is_end is) now indexed
    (ap (λ (n : ℕ). told_line session index (codes "saving" ++ spaced n)) now)
    (ap (λ (n : ℕ). told_line session index (entry_text [] ends (end_reply how n))) now) printed

pub save_cut_by : (old new : History) (session v : ℕ) (how : SaveEnd) (reply : Reply) → v ≡ version old → reply ≡ end_reply how v
    → new ≡ with_save old session reply → IsCut session script.save old new
save_cut_by old new session v how reply now is_end is =
    save_cut old new session 0 0 [] how (save_by old new session v how reply now is_end is)

-- ---- no entry

abbrev pub IsAskedFor : script.Line → Type 0
IsAskedFor (script.call c) = Unit {0}
IsAskedFor script.save = Unit {0}
IsAskedFor (script.forget slot) = ⊥

full_with : (h : History) (session : ℕ) (line : script.Line) (seat : SeatState) (text : List ℕ)
    → ((number : ℕ) → IsAnswer number (plays session line) (full session ∷ []))
    → MAX_ENTRIES ≤ length h.entries + ROOM_FOR_SAVES → text ≡ short_line session (codes "full")
    → ((given : ℕ) (dropped : List ℕ) → HasFilters given dropped seat.chest → HasFilters given (dropped_by dropped line) seat.chest)
    → IsPlayed session line h h seat seat text
full_with h session line seat text answers room is has = record {
  answered = λ number. record {
    turn = full session ∷ [];
    is_turn = record {
      before = [];
      answer = full session ∷ [];
      behind = [];
      parts = refl;
      may_end = (tt, tt);
      answers = answers number;
    };
    entries = sym (append-nil h.entries);
    said = (room, tt);
    text_is = is ∙ sym (one_text h.base h.entries (full session));
  };
  more = [];
  entries = sym (append-nil h.entries);
  own = tt;
  seated = λ filters seated. seated;
  has = has;
}

-- a history that has room for saves alone
pub full_played : (h : History) (session : ℕ) (line : script.Line) (seat : SeatState) (text : List ℕ)
    → IsAskedFor line → MAX_ENTRIES ≤ length h.entries + ROOM_FOR_SAVES → text ≡ short_line session (codes "full")
    → IsPlayed session line h h seat seat text
full_played h session (script.call c) seat text asks room is = full_with h session (script.call c) seat text (λ number. inr refl) room is (λ given dropped has. has)
full_played h session script.save seat text asks room is = full_with h session script.save seat text (λ number. inr refl) room is (λ given dropped has. has)
full_played h session (script.forget slot) seat text asks room is = absurd asks

-- a filter is dropped
pub forget_played : (h : History) (session slot seen : ℕ) (before after : List (Option FilterState)) (text : List ℕ)
    → after ≡ slice_set before slot None → text ≡ []
    → IsPlayed session (script.forget slot) h h (seat_of seen before) (seat_of seen after) text
forget_played h session slot seen before after text dropped is = record {
  answered = λ number. record {
    turn = [];
    is_turn = record { before = []; answer = []; behind = []; parts = refl; may_end = (tt, tt); answers = refl };
    entries = sym (append-nil h.entries);
    said = tt;
    text_is = is;
  };
  more = [];
  entries = sym (append-nil h.entries);
  own = tt;
  seated = λ filters seated. record {
    fresh = seated.fresh;
    seen = seated.seen;
    tables = seated.tables;
    agrees = subst (λ (chest : List (Option FilterState)). Agrees chest (filters_along filters (mine h.entries session))) (sym dropped)
        (agrees_without before (filters_along filters (mine h.entries session)) slot seated.agrees);
  };
  has = λ given gone has.
      subst (λ (chest : List (Option FilterState)). HasFilters given (gone ++ slot ∷ []) chest) (sym dropped)
      (stocked_without given gone before slot has);
}
