-- The text of a history of calls and saves, and how it grows by one.
use Rattle.std.proofs.Common.{◌≡◌, ℕ, false, List, [], ◌∷◌, ◌++◌, refl, ap, sym, ◌∙◌, eq-eqb, append-nil, append_assoc}
use Rattle.std.proofs.Common.{subst, flat_map}
use Rattle.std.specs.List.{AllByRecursion}
use Rattle.std.proofs.lemmas.List.Concat.{flat_map-append}
use Rattle.std.proofs.lemmas.List.Elements.{filter_map-append}
use Rattle.spec_document.specs.Document.{Document}
use Rattle.spec_history.specs.Machine.{Call, Reply, tile_of, stale, saved, State, initial, latest}
use Rattle.spec_history.specs.History.{Entry, Kind, asked, starts, ends, next_index, latest_of, after_entry}
use Rattle.spec_history.specs.History.{replay_from, replay, EndsWith, RunFrom}
use Rattle.spec_history.specs.Kept.{IsFreshReply, IsFresh, IsLegal}
use Rattle.spec_text.specs.Printed.{line_text}
use Rattle.spec_text.specs.Text.{IsPrintable, entry_line, end_reply, is_save_memory, shown_digest, made_by, IsAlone}
use Rattle.xl_play.specs.Playing.{AreOf, ArePlayed, lines_in}
use Rattle.spec_text.specs.Text.{calls_along}
use Rattle.spec_history.proofs.Growing.{replay-snoc, replay-append, IsLegal-empty, out-answer}
use Rattle.xl_play.proofs.Alone.{alone_call, alone_save}
use Rattle.xl_play.proofs.Answered.{IsSaid, said_fresh, said_printable}
use Rattle.spec_text.proofs.Ends.{no_end_at_next, end_behind}
use Rattle.xl_play.proofs.Plain.{both_own}
use Rattle.xl_play.proofs.Seen.{fresh_more}
use Rattle.xl_play.proofs.Stays.{lines_stay}

-- ---- one more

pub played_none : (base : Document) → ArePlayed base [] []
played_none base =
    record { legal = IsLegal-empty base; ended = refl; own = tt; printable = tt; fresh = tt; alone = λ none. tt; text = refl }

printable_more : (es more : List Entry) → AllByRecursion IsPrintable es → AllByRecursion IsPrintable more
    → AllByRecursion IsPrintable (es ++ more)
printable_more [] more first also = also
printable_more (x ∷ es) more first also = (first.0, printable_more es more first.1 also)

lines_more : (base : Document) (es more : List Entry) (out : List ℕ) → ArePlayed base es out
    → lines_in base (es ++ more) ≡ out ++ flat_map (entry_line base (es ++ more)) more
lines_more base es more out played =
    flat_map-append (entry_line base (es ++ more)) es more
    ∙ ap (λ (front : List ℕ). front ++ flat_map (entry_line base (es ++ more)) more)
    (lines_stay base es more played.legal played.ended ∙ sym played.text)

-- the entry of a session's next call, and both of its next save
abbrev pub next_entry : List Entry → (session : ℕ) → Kind → Reply → Entry
next_entry es session kind reply = record { session = session; index = next_index es session; kind = kind; reply = reply }

abbrev pub next_save : List Entry → (session : ℕ) → (started ended : Reply) → List Entry
next_save es session started ended = next_entry es session starts started ∷ next_entry es session ends ended ∷ []

-- the text with the line of a call behind it
pub played_call : (base : Document) (es : List Entry) (out : List ℕ) (c : Call) (tables : List (List ℕ)) (reply : Reply)
    → ArePlayed base es out → IsSaid (latest_of es) reply → IsAlone base es (asked c tables) reply []
    → IsLegal base (es ++ next_entry es 0 (asked c tables) reply ∷ [])
    → ArePlayed base (es ++ next_entry es 0 (asked c tables) reply ∷ [])
    (out ++ line_text 0 (next_index es 0)
    (shown_digest base (es ++ next_entry es 0 (asked c tables) reply ∷ []) (asked c tables) reply) reply)
played_call base es out c tables reply played said alone legal =
    let e : Entry = next_entry es 0 (asked c tables) reply in
    record {
      legal = legal;
      ended = ap (λ (s : State). s.out) (replay-snoc base es e) ∙ out-answer base (replay base es) c tables ∙ played.ended;
      own = both_own es (e ∷ []) 0 played.own (refl, tt);
      printable = printable_more es (e ∷ []) played.printable (said_printable (latest_of es) reply said, tt);
      fresh = fresh_more es e played.own refl played.fresh (said_fresh (latest_of es) reply said);
      alone = alone_call base es e played.alone alone;
      text = sym (lines_more base es (e ∷ []) out played
          ∙ ap (λ (line : List ℕ). out ++ line) (append-nil (entry_line base (es ++ e ∷ []) e)));
    }

-- the line of a save is that of its end
saved_line : (base : Document) (es : List Entry) (session : ℕ) (started ended : Reply) → IsLegal base es
    → end_reply (es ++ next_save es session started ended) session (next_index es session) started ≡ ended
saved_line base es session started ended legal =
    let index = next_index es session in
    end_behind es (next_save es session started ended) session index started (no_end_at_next base es session legal.run)
    ∙ rw (eq-eqb session session refl, eq-eqb index index refl) refl

-- the entries behind others are a run from where these end
pub run_behind : (base : Document) (s : State) (earlier es more : List Entry) → RunFrom base s earlier (es ++ more)
    → RunFrom base (replay_from base s es) (earlier ++ es) more
run_behind base s earlier [] more run = subst (λ (l : List Entry). RunFrom base s l more) (sym (append-nil earlier)) run
run_behind base s earlier (e ∷ es) more run =
    subst (λ (l : List Entry). RunFrom base (replay_from base s (e ∷ es)) l more) (append_assoc earlier (e ∷ []) es)
    (run_behind base (after_entry base s e) (earlier ++ e ∷ []) es more run.1)

fresh_end : (seen now : ℕ) (r : Reply) → EndsWith now r → IsFreshReply seen r
fresh_end seen now (tile_of version) is = absurd is
fresh_end seen now (stale have said) is = absurd is
fresh_end seen now r is = tt

-- the text with the line of a save behind it
pub played_save : (base : Document) (es : List Entry) (out : List ℕ) (started ended : Reply) → ArePlayed base es out
    → is_save_memory started ≡ false → is_save_memory ended ≡ false → IsLegal base (es ++ next_save es 0 started ended)
    → ArePlayed base (es ++ next_save es 0 started ended) (out ++ line_text 0 (next_index es 0) [] ended)
played_save base es out started ended played start_printed end_printed legal =
    let s : Entry = next_entry es 0 starts started in
    let e : Entry = next_entry es 0 ends ended in
    let more : List Entry = s ∷ e ∷ [] in
    let run = run_behind base (initial base) [] es more legal.run in
    let started_at : started ≡ saved (latest (replay base es)) = run.0.2 in
    let ended_as : EndsWith (latest (replay base es)) ended = run.1.0.2 in
    let first_own : AreOf 0 (es ++ s ∷ []) = both_own es (s ∷ []) 0 played.own (refl, tt) in
    let first_fresh : IsFresh (es ++ s ∷ []) 0 =
    fresh_more es s played.own refl played.fresh (subst (IsFreshReply (latest_of es)) (sym started_at) tt) in
    record {
      legal = legal;
      ended = ap (λ (t : State). t.out) (replay-append base es more);
      own = both_own es more 0 played.own (refl, (refl, tt));
      printable = printable_more es more played.printable (start_printed, (end_printed, tt));
      fresh = subst (λ (l : List Entry). IsFresh l 0) (append_assoc es (s ∷ []) (e ∷ []))
          (fresh_more (es ++ s ∷ []) e first_own refl first_fresh
          (fresh_end (latest_of (es ++ s ∷ [])) (latest (replay base es)) ended ended_as));
      alone = alone_save base es s e (latest (replay base es)) played.alone refl refl started_at ended_as end_printed;
      text = sym (
          lines_more base es more out played
          ∙ ap (λ (line : List ℕ). out ++ line) (append-nil (entry_line base (es ++ more) s))
          ∙ ap (λ (r : Reply). out ++ line_text 0 (next_index es 0) [] r) (saved_line base es 0 started ended played.legal)
          );
    }

pub calls_behind : (es more : List Entry) → calls_along (es ++ more) ≡ calls_along es ++ calls_along more
calls_behind es more = filter_map-append (λ (x : Entry). made_by x.kind) es more
