-- A talk that goes on by a line.
use Rattle.std.proofs.Common.{◌≡◌, ℕ, ◌+◌, ◌<◌, Bool, true, false, cond, List, [], ◌∷◌, ◌++◌, length, map, refl, sym, ap, ◌∙◌, subst, get_or, eq-eqb, ne_eqb}
use Rattle.std.proofs.Common.{slice_set}
use Rattle.std.specs.Prelude.{◌==◌, ◌≢◌, Option, slice_index, slice_index_or}
use Rattle.std.proofs.lemmas.Bool.{eqb-true}
use Rattle.std.proofs.lemmas.List.{get_or-set_same, get_or-set_other, length-set}
use Rattle.spec_document.specs.Document.{Document}
use Rattle.spec_filters.specs.declared.FilterState.{FilterState}
use Rattle.spec_history.specs.History.{Entry}
use Rattle.spec_script.specs.Fits.{dropped_by}
use Rattle.spec_script.specs.Script.{Line, list_at}
use Rattle.spec_serve.specs.Hearing.{Asks, plays, Hearing, Heard, hear, start_hearing}
use Rattle.spec_serve.specs.Said.{Said, entries_of, all_said, texts_in, AreSaid}
use Rattle.spec_serve.specs.Talk.{IsTurn, AreTurns}
use Rattle.spec_serve.proofs.Stays.{entries-append}
use Rattle.xl_history.specs.History.{History}
use Rattle.xl_run.specs.Filters.{FitsChest}
use Rattle.xl_serve.specs.Played.{IsAnswered, IsPlayed}
use Rattle.xl_serve.specs.Serving.{Now, chest_at, seat_at, Stands, StandsOn}
use Rattle.xl_serve.specs.Standing.{SeatState, seat_of, IsSeated, heard_from, session_at, HasFilters, IsHearing}
use Rattle.xl_run.proofs.Chests.{line_fits}
use Rattle.xl_serve.proofs.Heard.{IsHeardFit, dropped_then, AsksFit}
use Rattle.xl_serve.proofs.Seats.{others_stay}
use Rattle.xl_serve.proofs.Turns.{turns_more, heard_more, all_more, said_more}
use Rattle.xl_window.specs.Viewing as viewing

each_session : (own : ℕ) (P : ℕ → Type 0) → P own → ((s : ℕ) → own ≢ s → P s) → (s : ℕ) → P s
each_session own P here other s = go (own == s) refl where
  go : (b : Bool) → (own == s) ≡ b → P s
  go true q = subst P (eqb-true own s q) here
  go false q = other s (λ e. let bad : true ≡ false = sym (eq-eqb own s e) ∙ q in cc)

module _ (base : Document) (filters : List (List FilterState)) (lines : List (List ℕ)) (turns : List (List Said)) (number : ℕ)
    (line : List ℕ) (old : Now) (here : number ≡ 1 + length lines) (stands : Stands base filters lines turns old) where
  abbrev first : Hearing
  first = start_hearing (map length filters)

  is_number : 1 + length lines ≡ number
  is_number = sym here

  -- what the next line asks for
  next_asks : (heard : Heard) → heard ≡ hear number line old.hearing
      → hear (1 + length lines) line (heard_from 1 first lines) ≡ heard
  next_asks heard is =
      ap (λ n. hear n line (heard_from 1 first lines)) is_number ∙ ap (hear number line) (sym stands.heard) ∙ sym is

  turn_more : (heard : Heard) → heard ≡ hear number line old.hearing → (turn : List Said) → IsTurn number heard.asks turn
      → AreTurns 1 first (lines ++ line ∷ []) (turns ++ turn ∷ [])
  turn_more heard is turn is_turn =
      turns_more 1 first lines turns line turn stands.turn
      (subst (λ (h : Heard). IsTurn (1 + length lines) h.asks turn) (sym (next_asks heard is))
      (subst (λ n. IsTurn n heard.asks turn) here is_turn))

  heard_then : (heard : Heard) → heard ≡ hear number line old.hearing → heard.hearing ≡ heard_from 1 first (lines ++ line ∷ [])
  heard_then heard is =
      sym (heard_more 1 first lines line ∙ ap (λ (h : Heard). h.hearing) (next_asks heard is))

  entries_then : (new : History) (turn : List Said) → new.entries ≡ old.history.entries ++ entries_of turn
      → new.entries ≡ entries_of (all_said (turns ++ turn ∷ []))
  entries_then new turn is =
      is ∙ ap (λ (es : List Entry). es ++ entries_of turn) stands.entries
      ∙ sym (ap entries_of (all_more turns turn) ∙ entries-append (all_said turns) turn)

  said_then : (turn : List Said) → AreSaid old.history.base old.history.entries turn → AreSaid base [] (all_said (turns ++ turn ∷ []))
  said_then turn are =
      subst (AreSaid base []) (sym (all_more turns turn))
      (said_more base [] (all_said turns) turn stands.said
      (subst (λ (es : List Entry). AreSaid base es turn) stands.entries
      (subst (λ (b : Document). AreSaid b old.history.entries turn) stands.base_is are)))

  -- a line of a session that was played
  pub played_on : (session : ℕ) (played : Line) (heard : Heard) (seen : ℕ) (chest : List (Option FilterState)) (text : List ℕ) (new : Now)
      → heard ≡ hear number line old.hearing → heard.asks ≡ plays session played → IsHeardFit old.hearing heard
      → IsPlayed session played old.history new.history (seat_at old session) (seat_of seen chest) text
      → new.history.base ≡ old.history.base → new.hearing ≡ heard.hearing
      → new.seen ≡ slice_set old.seen session seen → new.chests ≡ slice_set old.chests session chest
      → viewing.GoesOn new.viewed new.history
      → StandsOn base filters lines turns line text new
  played_on session played heard seen chest text new is asks fit made base_is hearing seen_is chests_is viewed =
      let answered = made.answered number in
      let asked : AsksFit old.hearing (plays session played) = subst (AsksFit old.hearing) asks fit.asked in
      let lt = asked.0 in
      let in_seen : session < length old.seen = subst (λ n. session < n) (sym stands.eight_seen) lt in
      let in_chests : session < length old.chests = subst (λ n. session < n) (sym stands.eight_chests) lt in
      let own_seat : seat_at new session ≡ seat_of seen chest =
      (λ i. seat_of (own_seen in_seen seen_is i) (own_chest in_chests chests_is i)) in
      let same_seen : (s : ℕ) → session ≢ s → slice_index new.seen s ≡ slice_index old.seen s =
      (λ s apart. ap (λ (l : List ℕ). get_or l s 0) seen_is ∙ get_or-set_other old.seen session s seen 0 (λ q. apart (sym q))) in
      let same_chest : (s : ℕ) → session ≢ s → chest_at new s ≡ chest_at old s =
      (λ s apart. ap (λ (l : List (List (Option FilterState))). get_or l s []) chests_is
      ∙ get_or-set_other old.chests session s chest [] (λ q. apart (sym q))) in
      record {
        last = answered.turn;
        stands = record {
          base_is = base_is ∙ stands.base_is;
          entries = entries_then new.history answered.turn answered.entries;
          said = said_then answered.turn answered.said;
          turn = turn_more heard is answered.turn
              (subst (λ (a : Asks). IsTurn number a answered.turn) (sym asks) answered.is_turn);
          heard = hearing ∙ heard_then heard is;
          hearing_is = subst IsHearing (sym hearing) fit.hearing;
          seated = each_session session
              (λ s. s < 8 → IsSeated (list_at filters s) new.history.entries s (seat_at new s))
              (λ below. subst (IsSeated (list_at filters session) new.history.entries session) (sym own_seat)
              (made.seated (list_at filters session) (stands.seated session below)))
              (λ s apart below.
              subst (IsSeated (list_at filters s) new.history.entries s) (λ i. seat_of (sym (same_seen s apart) i) (sym (same_chest s apart) i))
              (subst (λ (es : List Entry). IsSeated (list_at filters s) es s (seat_at old s)) (sym made.entries)
              (others_stay (list_at filters s) old.history.entries made.more session s (seat_at old s) apart made.own
              (stands.seated s below))));
          has = each_session session
              (λ s. s < 8 → HasFilters (session_at new.hearing s).filters (session_at new.hearing s).dropped (chest_at new s))
              (λ below.
              subst (λ (h : Hearing). HasFilters (session_at h session).filters (session_at h session).dropped (chest_at new session)) (sym hearing)
              (subst (λ n. HasFilters n (session_at heard.hearing session).dropped (chest_at new session)) (sym (fit.filters session))
              (subst (λ (d : List ℕ). HasFilters (session_at old.hearing session).filters d (chest_at new session)) (sym (own_dropped heard asks fit))
              (subst (HasFilters (session_at old.hearing session).filters (dropped_by (session_at old.hearing session).dropped played))
              (sym (ap (λ (seat : SeatState). seat.chest) own_seat))
              (made.has (session_at old.hearing session).filters (session_at old.hearing session).dropped (stands.has session below))))))
              (λ s apart below.
              subst (λ (h : Hearing). HasFilters (session_at h s).filters (session_at h s).dropped (chest_at new s)) (sym hearing)
              (subst (λ n. HasFilters n (session_at heard.hearing s).dropped (chest_at new s)) (sym (fit.filters s))
              (subst (λ (d : List ℕ). HasFilters (session_at old.hearing s).filters d (chest_at new s)) (sym (other_dropped heard asks fit s apart))
              (subst (HasFilters (session_at old.hearing s).filters (session_at old.hearing s).dropped) (sym (same_chest s apart))
              (stands.has s below)))));
          viewed = viewed;
          eight_seen = ap length seen_is ∙ length-set old.seen session seen ∙ stands.eight_seen;
          eight_chests = ap length chests_is ∙ length-set old.chests session chest ∙ stands.eight_chests;
        };
        text_is = answered.text_is;
      } where
        own_seen : session < length old.seen → new.seen ≡ slice_set old.seen session seen → slice_index new.seen session ≡ seen
        own_seen within seen_is = ap (λ (l : List ℕ). get_or l session 0) seen_is ∙ get_or-set_same old.seen session seen 0 within

        own_chest : session < length old.chests → new.chests ≡ slice_set old.chests session chest → chest_at new session ≡ chest
        own_chest within chests_is =
            ap (λ (l : List (List (Option FilterState))). get_or l session []) chests_is
            ∙ get_or-set_same old.chests session chest [] within

        own_dropped : (heard : Heard) → heard.asks ≡ plays session played → IsHeardFit old.hearing heard
            → (session_at heard.hearing session).dropped ≡ dropped_by (session_at old.hearing session).dropped played
        own_dropped heard asks fit =
            fit.dropped session ∙ ap (λ (a : Asks). dropped_then a session (session_at old.hearing session).dropped) asks
            ∙ ap (λ (b : Bool). cond b (dropped_by (session_at old.hearing session).dropped played) (session_at old.hearing session).dropped)
            (eq-eqb session session refl)

        other_dropped : (heard : Heard) → heard.asks ≡ plays session played → IsHeardFit old.hearing heard → (s : ℕ) → session ≢ s
            → (session_at heard.hearing s).dropped ≡ (session_at old.hearing s).dropped
        other_dropped heard asks fit s apart =
            fit.dropped s ∙ ap (λ (a : Asks). dropped_then a s (session_at old.hearing s).dropped) asks
            ∙ ap (λ (b : Bool). cond b (dropped_by (session_at old.hearing s).dropped played) (session_at old.hearing s).dropped)
            (ne_eqb session s apart)

  -- a line that makes no entry, and leaves the sessions as they are
  pub answered_on : (heard : Heard) (text : List ℕ) (new : Now) → heard ≡ hear number line old.hearing
      → IsHeardFit old.hearing heard → ((s : ℕ) (dropped : List ℕ) → dropped_then heard.asks s dropped ≡ dropped)
      → IsAnswered number heard.asks old.history old.history text
      → new.history ≡ old.history → new.hearing ≡ heard.hearing → new.seen ≡ old.seen → new.chests ≡ old.chests
      → viewing.GoesOn new.viewed new.history
      → StandsOn base filters lines turns line text new
  answered_on heard text new is fit none answered same hearing seen_is chests_is viewed =
      let seat : (s : ℕ) → seat_at new s ≡ seat_at old s =
      (λ s i. seat_of (slice_index (seen_is i) s) (slice_index_or (chests_is i) s [])) in
      record {
        last = answered.turn;
        stands = record {
          base_is = ap (λ (h : History). h.base) same ∙ stands.base_is;
          entries = entries_then new.history answered.turn (ap (λ (h : History). h.entries) same ∙ answered.entries);
          said = said_then answered.turn answered.said;
          turn = turn_more heard is answered.turn answered.is_turn;
          heard = hearing ∙ heard_then heard is;
          hearing_is = subst IsHearing (sym hearing) fit.hearing;
          seated = λ s below.
              subst (IsSeated (list_at filters s) new.history.entries s) (sym (seat s))
              (subst (λ (h : History). IsSeated (list_at filters s) h.entries s (seat_at old s)) (sym same) (stands.seated s below));
          has = λ s below.
              subst (λ (h : Hearing). HasFilters (session_at h s).filters (session_at h s).dropped (chest_at new s)) (sym hearing)
              (subst (λ n. HasFilters n (session_at heard.hearing s).dropped (chest_at new s)) (sym (fit.filters s))
              (subst (λ (d : List ℕ). HasFilters (session_at old.hearing s).filters d (chest_at new s))
              (sym (fit.dropped s ∙ none s (session_at old.hearing s).dropped))
              (subst (HasFilters (session_at old.hearing s).filters (session_at old.hearing s).dropped)
              (sym (ap (λ (x : SeatState). x.chest) (seat s))) (stands.has s below))));
          viewed = viewed;
          eight_seen = ap length seen_is ∙ stands.eight_seen;
          eight_chests = ap length chests_is ∙ stands.eight_chests;
        };
        text_is = answered.text_is ∙ ap (λ (h : History). texts_in h.base h.entries answered.turn) (sym same);
      }

  -- what a line asks for may be played
  pub may_play : (session : ℕ) (played : Line) (heard : Heard) → heard.asks ≡ plays session played → IsHeardFit old.hearing heard
      → FitsChest (chest_at old session) played
  may_play session played heard asks fit =
      let asked : AsksFit old.hearing (plays session played) = subst (AsksFit old.hearing) asks fit.asked in
      line_fits (session_at old.hearing session).filters (session_at old.hearing session).dropped (chest_at old session) played
      (stands.has session asked.0) asked.1
