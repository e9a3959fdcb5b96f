-- The outcomes of eight sessions whose seats were joined are a text.
use Rattle.std.proofs.Common.{◌≡◌, ℕ, zero, suc, ◌+◌, ◌<◌, ◌≤◌, Bool, true, List, [], ◌∷◌, length, map, flat_map, refl, sym}
use Rattle.std.proofs.Common.{◌∙◌, ap, subst, arith}
use Rattle.std.specs.Prelude.{slice_index_or, None}
use Rattle.std.specs.List.{list_all}
use Rattle.std.proofs.lemmas.Bool.{and_parts}
use Rattle.std.proofs.lemmas.List.{length-map}
use Rattle.std.proofs.lemmas.List.Concat.{flat_map-cons}
use mathlib.Core.List.{IsPrefix}
use Rattle.spec_document.specs.Document.{Document}
use Rattle.spec_filters.specs.declared.FilterState.{FilterState}
use Rattle.spec_history.specs.History.{Entry, replay, mine}
use Rattle.spec_history.specs.Kept.{IsLegal}
use Rattle.spec_run.specs.Fronts.{AreBegun, IsFrontOf}
use Rattle.spec_script.specs.Script.{Line}
use Rattle.spec_text.specs.Text.{IsTextOf, printed}
use Rattle.spec_seats.specs.Digests.{digests_in}
use Rattle.spec_seats.specs.Ended.{AreEnded}
use Rattle.spec_seats.specs.Made.{IsOf, HasMade}
use Rattle.spec_seats.specs.Picked.{picked}
use Rattle.spec_seats.proofs.Entries.{picked-none}
use Rattle.spec_seats.proofs.More.{of_grows, made_grows, picked_grown}
use Rattle.spec_seats.proofs.Shown.{digests_grow}
use Rattle.spec_seats.proofs.Whole.{mine_picked, no_save_out, seats_make_text}
use Rattle.xl_turn.specs.Sums.{total, times, same, below}
use Rattle.xl_turn.specs.Seats.{IsEachOnce}
use Rattle.xl_turn.proofs.Totals.{total_append}
use Rattle.xl_sessions.specs.Outcomes.{FromFirst, IsOutcome}
use Rattle.spec_script.specs.Script.{list_at}
use Rattle.xl_sessions.proofs.Zips.{from_first_map}

-- ---- an outcome, as the history grows

pub outcome_grows : (base : Document) (session : ℕ) (filters : List FilterState) (lines : List Line) (es new : List Entry)
    (places : List ℕ) (shown : List (List ℕ)) (done : Bool)
    → IsLegal base es → IsPrefix es new → IsOutcome base session filters lines es places shown done
    → IsOutcome base session filters lines new places shown done
outcome_grows base session filters lines es new places shown done legal begins is = record {
  of = of_grows session places es new begins is.of;
  begun = subst (AreBegun filters lines) (sym (picked_grown places es new begins is.of.within)) is.begun;
  made = λ all. made_grows session filters lines places es new begins (is.made all);
  told = λ all. is.told all ∙ sym (digests_grow base places es new legal begins is.of.within);
}

-- ---- the places of all

module _ {P : Type 0} (places_of : P → List ℕ) where
  total_of_all : (x : ℕ) (ps : List P)
      → total (λ (places : List ℕ). times x places) (map places_of ps) ≡ times x (flat_map places_of ps)
  total_of_all x [] = refl
  total_of_all x (p ∷ ps) =
      ap (λ n. times x (places_of p) + n) (total_of_all x ps)
      ∙ sym (total_append (same x) (places_of p) (flat_map places_of ps))
      ∙ ap (times x) (sym (flat_map-cons places_of p ps))

  pub once_each : (n : ℕ) (ps : List P) → IsEachOnce n (flat_map places_of ps)
      → (x : ℕ) → total (λ (places : List ℕ). times x places) (map places_of ps) ≡ below n x
  once_each n ps once x = total_of_all x ps ∙ once x

-- ---- by the number of the session

module _ {P A : Type 0} (f : P → List A) (Q : ℕ → List A → Type 0) where
  at_session : (first n : ℕ) (ps : List P) → n < length ps → FromFirst (λ session p. Q session (f p)) first ps
      → Q (first + n) (slice_index_or (map f ps) n [])
  at_session first n [] lt all = absurd (omega (arith, lt))
  at_session first zero (p ∷ ps) lt all =
      let same : first ≡ first + 0 = omega arith in
      subst (λ (k : ℕ). Q k (f p)) same all.0
  at_session first (suc n) (p ∷ ps) lt all =
      let same : suc first + n ≡ first + suc n = omega arith in
      subst (λ (k : ℕ). Q k (slice_index_or (map f ps) n [])) same
      (at_session (suc first) n ps (omega (arith, lt)) all.1)

-- past the last list there is none
none_past : (lists : List (List ℕ)) (n : ℕ) → length lists ≤ n → slice_index_or lists n [] ≡ []
none_past [] n le = refl
none_past (ns ∷ lists) zero le = absurd (omega (arith, le))
none_past (ns ∷ lists) (suc n) le = none_past lists n (omega (arith, le))

-- ---- all sessions together

module _ {P : Type 0} (places_of : P → List ℕ) (shown_of : P → List (List ℕ)) (done_of : P → Bool) (es : List Entry) where
  -- the outcome of a session in the whole history
  abbrev pub HasOutcome : (base : Document) → (chests : List (List FilterState)) → (lists : List (List Line)) → (session : ℕ) → P
      → Type 0
  HasOutcome base chests lists session p =
      IsOutcome base session (list_at chests session) (list_at lists session) es (places_of p) (shown_of p) (done_of p)

  abbrev pub Own : (session : ℕ) → P → Type 0
  Own session p = IsOf session (places_of p) es

  abbrev Made : (chests : List (List FilterState)) → (lists : List (List Line)) → (session : ℕ) → P → Type 0
  Made chests lists session p = HasMade session (list_at chests session) (list_at lists session) (places_of p) es

  abbrev Told : (base : Document) → (session : ℕ) → P → Type 0
  Told base session p = shown_of p ≡ digests_in base es (picked (places_of p) es)

  where_done : (base : Document) (chests : List (List FilterState)) (lists : List (List Line)) (first : ℕ) (ps : List P)
      → list_all done_of ps ≡ true → FromFirst (HasOutcome base chests lists) first ps
      → FromFirst (λ session p. Made chests lists session p × Told base session p) first ps
  where_done base chests lists first [] all outs = tt
  where_done base chests lists first (p ∷ ps) all outs =
      let both = and_parts (done_of p) (list_all done_of ps) all in
      ((outs.0.made both.0, outs.0.told both.0), where_done base chests lists (suc first) ps both.1 outs.1)

  told_at : (base : Document) (first n : ℕ) (ps : List P) → n < length ps → FromFirst (Told base) first ps
      → list_at (map shown_of ps) n ≡ digests_in base es (picked (slice_index_or (map places_of ps) n []) es)
  told_at base first n [] lt all = absurd (omega (arith, lt))
  told_at base first zero (p ∷ ps) lt all = all.0
  told_at base first (suc n) (p ∷ ps) lt all = told_at base (suc first) n ps (omega (arith, lt)) all.1

  module _ (ps : List P) (eight : length ps ≡ 8) (once : IsEachOnce (length es) (flat_map places_of ps))
      (own : FromFirst Own 0 ps) where
    abbrev places : List (List ℕ)
    places = map places_of ps

    eight_lists : length places ≡ 8
    eight_lists = length-map ps places_of ∙ eight

    each_once : (x : ℕ) → total (λ (ps : List ℕ). times x ps) places ≡ below (length es) x
    each_once = once_each places_of (length es) ps once

    of_session : (Q : ℕ → List ℕ → Type 0) → FromFirst (λ session p. Q session (places_of p)) 0 ps → (session : ℕ) → session < 8
        → Q session (slice_index_or places session [])
    of_session Q all session lt =
        let same : 0 + session ≡ session = omega arith in
        subst (λ (k : ℕ). Q k (slice_index_or places session [])) same
        (at_session places_of Q 0 session ps (omega (arith, lt, eight)) all)

    each_is_of : (session : ℕ) → session < 8 → IsOf session (slice_index_or places session []) es
    each_is_of = of_session (λ session own. IsOf session own es) own

    -- no save is out
    pub none_is_out : (base : Document) → (replay base es).out ≡ None
    none_is_out base = no_save_out es places eight_lists each_once base each_is_of

    pub saves_have_ended : (session : ℕ) → session < 8 → AreEnded (mine es session)
    saves_have_ended session lt =
        subst AreEnded (sym (mine_picked es places eight_lists each_once each_is_of session)) (each_is_of session lt).ended

    -- what was made is of the first calls of each
    pub makes_a_front : (base : Document) (chests : List (List FilterState)) (lists : List (List Line))
        → FromFirst (HasOutcome base chests lists) 0 ps → IsFrontOf lists chests es
    makes_a_front base chests lists outs =
        let Begun : ℕ → List ℕ → Type 0 = λ session own. AreBegun (list_at chests session) (list_at lists session) (picked own es) in
        record {
          begun = λ session lt.
              subst (AreBegun (list_at chests session) (list_at lists session))
              (sym (mine_picked es places eight_lists each_once each_is_of session))
              (of_session Begun
              (from_first_map (HasOutcome base chests lists) (λ s p. Begun s (places_of p)) 0 ps (λ s p out. out.begun) outs) session lt);
          others = λ session le.
              mine_picked es places eight_lists each_once each_is_of session
              ∙ ap (λ own. picked own es) (none_past places session (omega (arith, le, eight_lists))) ∙ picked-none 0 es;
        }

    module _ (base : Document) (chests : List (List FilterState)) (lists : List (List Line))
        (outs : FromFirst (HasOutcome base chests lists) 0 ps) (all : list_all done_of ps ≡ true) where
      all_done : FromFirst (λ session p. Made chests lists session p × Told base session p) 0 ps
      all_done = where_done base chests lists 0 ps all outs

      -- where all lines were played, the digests are those of what each session was shown
      pub digests_are : (session : ℕ) → session < 8 → list_at (map shown_of ps) session ≡ digests_in base es (mine es session)
      digests_are session lt =
          told_at base 0 session ps (omega (arith, lt, eight))
          (from_first_map (λ s p. Made chests lists s p × Told base s p) (Told base) 0 ps (λ s p both. both.1) all_done)
          ∙ ap (digests_in base es) (sym (mine_picked es places eight_lists each_once each_is_of session))

      -- and the printed lines are a text of the script
      pub makes_a_text : IsLegal base es → IsTextOf (printed base es) base lists chests es
      makes_a_text legal =
          seats_make_text es places eight_lists each_once base lists chests legal
          (of_session (λ session own. HasMade session (list_at chests session) (list_at lists session) own es)
          (from_first_map (λ s p. Made chests lists s p × Told base s p) (Made chests lists) 0 ps (λ s p both. both.0) all_done))
