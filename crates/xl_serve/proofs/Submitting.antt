-- A call that is submitted, in a history that has room for it.
use Rattle.spec_history.specs.declared.TheConstants.{MAX_ENTRIES}
use Rattle.std.proofs.Common.{◌≡◌, ℕ, ◌+◌, ◌≤◌, List, [], ◌∷◌, length, refl, ap, sym, ◌∙◌, subst, arith, append-nil}
use Rattle.std.specs.Prelude.{Option, Result, Ok, Err, IfOk, OnErr, IsSome}
use Rattle.spec_document.specs.Document.{Document}
use Rattle.spec_filters.specs.declared.FilterState.{FilterState}
use Rattle.spec_history.specs.Machine.{Call, edit, undo, redo, tile, peek, top, Reply, State, latest}
use Rattle.spec_history.specs.History.{Entry, asked, replay, next_index, latest_of}
use Rattle.spec_history.specs.Kept.{IsLegal}
use Rattle.spec_history.proofs.Growing.{replay-snoc, out-answer}
use Rattle.spec_history.proofs.Versions.{latest_of-legal}
use Rattle.spec_serve.specs.Seen.{seen_by}
use Rattle.spec_tables.specs.Agrees.{Agrees, IsAfter}
use Rattle.spec_tables.specs.Tables.{expected_tables}
use Rattle.spec_tables.proofs.Chests.{some_list}
use Rattle.spec_text.specs.Text.{shown_digest}
use Rattle.xl_answers.specs.Printed.{HasText}
use Rattle.xl_calls.specs.declared.reply.Reply as code
use Rattle.xl_calls.specs.Replies.{reply_of}
use Rattle.xl_history.specs.Editing.{Editing, world, IsSubmitted, KeepsShelf, IsAsBefore}
use Rattle.xl_history.specs.History.{History, Shows}
use Rattle.xl_serve.specs.Played.{IsReady, GoesOn, IsReplied}
use Rattle.xl_play.specs.Playing.{shown_of}
use Rattle.xl_play.proofs.Answered.{IsSaid, reply_said, said_fresh}
use Rattle.xl_serve.proofs.Seats.{seen_is_there}
use Rattle.xl_play.proofs.Submitted.{HasRoom, AnswersBy, IsTaken, taken, reply_shown, text_of}

-- which tables the entry has does not matter to the digest
same_digest : (base : Document) (es : List Entry) (c : Call) (tables others : List (List ℕ)) (reply : Reply)
    → shown_digest base es (asked c tables) reply ≡ shown_digest base es (asked c others) reply
same_digest base es (edit guard edits) tables others reply = refl
same_digest base es (undo named) tables others reply = refl
same_digest base es redo tables others reply = refl
same_digest base es (tile stack at) tables others reply = refl
same_digest base es (peek stack at) tables others reply = refl
same_digest base es top tables others reply = refl

module _ {D : Type 0} where
  -- nothing was done
  pub same_goes_on : (old new : Editing D) → IsReady old → IsAsBefore old new → GoesOn old new
  same_goes_on old new ready same = record {
    ready = record {
      inside = subst (λ (o : Option D). IsSome o) (sym same.shelf) ready.inside;
      legal = subst (λ (h : History). IsLegal h.base h.entries) (sym same.history) ready.legal;
      ended = ap (λ (h : History). (replay h.base h.entries).out) same.history ∙ ready.ended;
    };
    base_is = ap (λ (h : History). h.base) same.history;
    opening_is = same.opening;
    longer = ([], append-nil old.history.entries ∙ sym (ap (λ (h : History). h.entries) same.history));
  }

  pub stays_on : (core : Editing D) → IsReady core → GoesOn core core
  stays_on core ready =
      record { ready = ready; base_is = refl; opening_is = refl; longer = ([], append-nil core.history.entries) }

  module _ (old new : Editing D) (session : ℕ) (c : Call) (seen : ℕ) (before : List (Option FilterState)) where
    room_of : IsReady old → length old.history.entries + 2 ≤ MAX_ENTRIES → HasRoom old.history
    room_of ready room = record { free = room; ended = ready.ended }

    abbrev entry_with : Reply → List (List ℕ) → Entry
    entry_with reply tables =
        record { session = session; index = next_index old.history.entries session; kind = asked c tables; reply = reply }

    one_taken : (reply : Reply) → IsReady old → length old.history.entries + 2 ≤ MAX_ENTRIES
        → AnswersBy before old session c seen reply new
        → (tables : List (List ℕ)) × IsTaken old session c seen tables reply new
    one_taken reply ready room answers =
        let some = some_list before in
        let tables = expected_tables some.0 (asked c []) reply in
        (tables, taken old session c seen tables reply new (room_of ready room) (answers some.0 some.1))

    call_goes_on : (reply : Reply) → IsReady old → length old.history.entries + 2 ≤ MAX_ENTRIES
        → AnswersBy before old session c seen reply new → KeepsShelf old new → IsLegal new.history.base new.history.entries
        → GoesOn old new
    call_goes_on reply ready room answers keeps legal =
        let is = one_taken reply ready room answers in
        let h = old.history in
        let e = entry_with reply is.0 in
        record {
          ready = record {
            inside = subst (λ (o : Option D). IsSome o) (sym keeps.shelf) ready.inside;
            legal = legal;
            ended = ap (λ (g : History). (replay g.base g.entries).out) is.1.grown
                ∙ ap (λ (s : State). s.out) (replay-snoc h.base h.entries e)
                ∙ out-answer h.base (replay h.base h.entries) c is.0 ∙ ready.ended;
          };
          base_is = ap (λ (g : History). g.base) is.1.grown;
          opening_is = keeps.opening;
          longer = (e ∷ [], sym (ap (λ (g : History). g.entries) is.1.grown));
        }

    pub seen_there : IsReady old → seen ≡ seen_by old.history.entries session → seen ≤ latest_of old.history.entries
    seen_there ready seen_is = let there = seen_is_there old.history.entries session in omega (arith, seen_is, there)

    pub submit_goes_on : {X E : Type 0} (r : Result X E) (reply : X → Reply) → IsReady old
        → length old.history.entries + 2 ≤ MAX_ENTRIES
        → ((filters : List FilterState) → Agrees before filters
        → IfOk r (λ x. IsSubmitted old session c seen (expected_tables filters (asked c []) (reply x)) (reply x) new))
        → KeepsShelf old new → IsLegal new.history.base new.history.entries → OnErr r (IsAsBefore old new) → GoesOn old new
    submit_goes_on (Ok x) reply ready room answers keeps legal same = call_goes_on (reply x) ready room answers keeps legal
    submit_goes_on (Err e) reply ready room answers keeps legal same = same_goes_on old new ready same

    one_said : (reply : Reply) → IsReady old → length old.history.entries + 2 ≤ MAX_ENTRIES
        → seen ≡ seen_by old.history.entries session → AnswersBy before old session c seen reply new → IsSaid seen reply
    one_said reply ready room seen_is answers =
        let is = one_taken reply ready room answers in
        let there = seen_is_there old.history.entries session in
        let now = latest_of-legal old.history.base old.history.entries ready.legal in
        let le : seen ≤ latest (world old).state = omega (arith, seen_is, there, now) in
        subst (IsSaid seen) (sym is.1.replied) (reply_said old.history.base (world old) c seen is.0 le)

    one_shown : (reply : Reply) (bytes : List ℕ) → IsReady old → length old.history.entries + 2 ≤ MAX_ENTRIES
        → AnswersBy before old session c seen reply new → Shows new.history c reply bytes → (tables : List (List ℕ))
        → shown_of reply bytes ≡ shown_digest new.history.base new.history.entries (asked c tables) reply
    one_shown reply bytes ready room answers shows tables =
        let is = one_taken reply ready room answers in
        let h = new.history in
        subst (λ (r : Reply). Shows h c r bytes → shown_of r bytes ≡ shown_digest h.base h.entries (asked c is.0) r)
        (sym is.1.replied) (reply_shown h old.history.base (world old) c seen is.0 bytes) shows
        ∙ same_digest h.base h.entries c is.0 tables reply

    pub submit_replied : {X E : Type 0} (after : List (Option FilterState)) (r : Result X E) (reply : X → Reply) (bytes : List ℕ) → IsReady old
        → length old.history.entries + 2 ≤ MAX_ENTRIES → seen ≡ seen_by old.history.entries session
        → ((filters : List FilterState) → Agrees before filters
        → IfOk r (λ x. IsSubmitted old session c seen (expected_tables filters (asked c []) (reply x)) (reply x) new))
        → IfOk r (λ x. IsAfter before after c (reply x)) → IfOk r (λ x. Shows new.history c (reply x) bytes)
        → IfOk r (λ x. IsReplied old.history session c seen before after bytes (reply x) new.history)
    submit_replied after (Err e) reply bytes ready room seen_is answers used shows = tt
    submit_replied after (Ok x) reply bytes ready room seen_is answers used shows = record {
      grown = λ filters agrees.
          (taken old session c seen (expected_tables filters (asked c []) (reply x)) (reply x) new (room_of ready room)
          (answers filters agrees)).grown;
      used = used;
      fresh = said_fresh seen (reply x) (one_said (reply x) ready room seen_is answers);
      shown = one_shown (reply x) bytes ready room answers shows;
    }

    pub submit_text : {E : Type 0} (r : Result code.Reply E) → IsReady old → length old.history.entries + 2 ≤ MAX_ENTRIES
        → seen ≡ seen_by old.history.entries session
        → ((filters : List FilterState) → Agrees before filters
        → IfOk r (λ x. IsSubmitted old session c seen (expected_tables filters (asked c []) (reply_of x)) (reply_of x) new))
        → IfOk r HasText
    submit_text (Err e) ready room seen_is answers = tt
    submit_text (Ok x) ready room seen_is answers = text_of seen x (one_said (reply_of x) ready room seen_is answers)
