-- What a call or a save leaves of the number of entries, and what is known where the history was full for it.
use Rattle.std.proofs.Common.{◌≡◌, ℕ, ◌+◌, ◌<◌, ◌≤◌, Bool, true, false, List, [], ◌∷◌, ◌++◌, length, Option, Some, None}
use Rattle.std.proofs.Common.{refl, sym, ap, ◌∙◌, subst, arith, length-append, inl, inr}
use Rattle.std.proofs.lemmas.Bool.{leb-true}
use Rattle.std.specs.Prelude.{MatchBool, Result, Ok, Err, IfOk, IfErr, IsErrAnd, OnErr}
use Rattle.spec_document.specs.Document.{Document}
use Rattle.spec_filters.specs.declared.FilterState.{FilterState}
use Rattle.spec_history.specs.declared.TheConstants.{MAX_ENTRIES}
use Rattle.spec_history.specs.Machine.{Call, Reply, Saving, saved, save_fault, save_memory, history_full}
use Rattle.spec_history.specs.History.{Entry, replay}
use Rattle.spec_history.specs.Kept.{IsLegal}
use Rattle.xl_ports.specs.State.{ShelfState}
use Rattle.spec_world.specs.World.{entries_owed}
use Rattle.spec_world.specs.declared.SaveEnd.{SaveEnd}
use Rattle.spec_world.specs.declared.SaveEnd.TheVariants.{Done, Fault, Memory}
use Rattle.spec_world.specs.Events.{end_reply}
use Rattle.xl_studio.specs.History.{is_full}
use Rattle.spec_script.specs.Script.{Line}
use Rattle.xl_sessions.specs.Full.{most_made, MakesAtMost, FindsFull, IsStoppedAtFull}
use Rattle.xl_run.specs.declared.unplayed.Unplayed.{Unplayed}
use Rattle.xl_run.specs.declared.unplayed.Unplayed.TheVariants.{HistoryFull}
use Rattle.xl_sessions.proofs.CallMore.{full_is_not_printed}
use Rattle.xl_sessions.proofs.Counts.{made_more}
use Rattle.xl_run.proofs.Lined.{last_is_printed}
use Rattle.xl_studio.specs.declared.moment.Moment.{Moment}
use Rattle.xl_studio.specs.declared.moment.Moment.TheVariants.{Made}
use Rattle.xl_studio.specs.Answered.{IsReplied}
use Rattle.xl_studio.specs.Calling.{called_entry, Known, HasHeard}
use Rattle.xl_studio.specs.Moments.{entries_in}
use Rattle.xl_studio.specs.Saving.{IsSaved, IsWhole}
use Rattle.xl_studio.specs.Seats.{history_of}
use Rattle.xl_studio.proofs.Answered.{called_with}
use Rattle.xl_studio.proofs.Grown.{entries-append}

owed_le : (out : Option Saving) → entries_owed out ≤ 1
owed_le None = omega arith
owed_le (Some out) = omega arith

no_room : (base : Document) (es : List Entry) → is_full (record { base = base; entries = es }) ≡ true
    → MAX_ENTRIES < length es + 2
no_room base es full =
    let most : MAX_ENTRIES ≤ length es + entries_owed (replay base es).out =
    leb-true MAX_ENTRIES (length es + entries_owed (replay base es).out) full in
    let owed = owed_le (replay base es).out in
    omega (arith, most, owed)

end_is_not_full : (how : SaveEnd) (version : ℕ) → end_reply how version ≡ history_full → ⊥
end_is_not_full Done version is = let bad : saved version ≡ history_full = is in cc
end_is_not_full Fault version is = let bad : save_fault version ≡ history_full = is in cc
end_is_not_full Memory version is = let bad : save_memory version ≡ history_full = is in cc

-- an error that is handed on
pub full_stop : {A : Type 0} (r : Result A Unplayed) (why : Unplayed) (P : Type 0) → IsErrAnd r (λ given. given ≡ why)
    → (why ≡ HistoryFull → P) → IfErr r (λ given. given ≡ HistoryFull → P)
full_stop (Ok a) why P is full = tt
full_stop (Err given) why P is full = λ so. full (sym is ∙ so)

module _ {K : Type 0} where
  heard_none : (old new : Known K) → new.made ≡ old.made → (most : ℕ) → MakesAtMost most old new
  heard_none old new same most = let size = ap length same in omega (arith, size)

  -- ---- a call

  count_where : (full : Bool) (P : Type 0) (session : ℕ) (c : Call) (tables : List (List ℕ)) (reply : Reply) (old new : Known K)
      (entered : List (Moment K))
      → MatchBool full (P × (new.front ≡ entered) × (new.made ≡ old.made))
      ((new.front ≡ entered ++ Made (called_entry (entries_in entered) session c tables reply) None ∷ [])
      × (new.made ≡ old.made ++ length (entries_in entered) ∷ []))
      → MakesAtMost 1 old new
  count_where true P session c tables reply old new entered is = heard_none old new is.2 1
  count_where false P session c tables reply old new entered is =
      let size = ap length is.1 in
      let one = length-append old.made (length (entries_in entered) ∷ []) in
      omega (arith, size, one)

  pub count_after_call : {E : Type 0} (R : Type 0) (reply_of : R → Reply) (r : Result R E) (base : Document) (session : ℕ) (c : Call)
      (before after : List (Option FilterState)) (bytes : List ℕ) (old new : Known K)
      → IfOk r (λ reply. IsReplied base session c before after bytes old new (reply_of reply))
      → OnErr r (HasHeard old new) → MakesAtMost 1 old new
  count_after_call R reply_of (Ok reply) base session c before after bytes old new replied heard =
      let with = called_with replied in
      count_where (is_full (history_of base with.1.entered)) _ session c with.0 (reply_of reply) old new with.1.entered with.1.made
  count_after_call R reply_of (Err e) base session c before after bytes old new replied heard = heard_none old new heard.made 1

  full_where : (full : Bool) (base : Document) (session : ℕ) (c : Call) (tables : List (List ℕ)) (reply : Reply) (old new : Known K)
      (entered : List (Moment K)) → is_full (history_of base entered) ≡ full
      → MatchBool full ((reply ≡ history_full) × (new.front ≡ entered) × (new.made ≡ old.made))
      ((new.front ≡ entered ++ Made (called_entry (entries_in entered) session c tables reply) None ∷ [])
      × (new.made ≡ old.made ++ length (entries_in entered) ∷ []))
      → IsLegal base (entries_in new.front) → reply ≡ history_full → FindsFull old new
  full_where true base session c tables reply old new entered test is legal so = record {
    none = heard_none old new is.2 0;
    full = subst (λ (ms : List (Moment K)). MAX_ENTRIES < length (entries_in ms) + 2) (sym is.1)
        (no_room base (entries_in entered) test);
  }
  full_where false base session c tables reply old new entered test is legal so =
      let e : Entry = called_entry (entries_in entered) session c tables reply in
      let last : entries_in new.front ≡ entries_in entered ++ e ∷ [] =
      ap entries_in is.0 ∙ entries-append entered (Made e None ∷ []) in
      absurd (full_is_not_printed reply
      (last_is_printed base (entries_in entered) e c tables refl (subst (IsLegal base) last legal)) so)

  pub full_after_call : {E : Type 0} (R : Type 0) (reply_of : R → Reply) (r : Result R E) (base : Document) (session : ℕ) (c : Call)
      (before after : List (Option FilterState)) (bytes : List ℕ) (old new : Known K)
      → IfOk r (λ reply. IsReplied base session c before after bytes old new (reply_of reply))
      → IsLegal base (entries_in new.front) → IfOk r (λ reply. reply_of reply ≡ history_full → FindsFull old new)
  full_after_call R reply_of (Ok reply) base session c before after bytes old new replied legal = λ so.
      let with = called_with replied in
      full_where (is_full (history_of base with.1.entered)) base session c with.0 (reply_of reply) old new with.1.entered refl
      with.1.made legal so
  full_after_call R reply_of (Err e) base session c before after bytes old new replied legal = tt

  -- ---- a line

  -- where a line found the history full, the session stops there
  pub stopped_at : (old new : Known K) (all left rest : List Line) (line : Line) → left ≡ line ∷ rest
      → length old.made + most_made left ≤ most_made all → (most_made (line ∷ []) ≡ 2) × FindsFull old new
      → IsStoppedAtFull all new
  stopped_at old new all left rest line turn up found =
      let none : length new.made ≤ length old.made + 0 = found.1.none in
      let more = made_more (length old.made) (length new.made + most_made (line ∷ [])) all left rest line turn up (omega (arith, none)) in
      let two = found.0 in
      record { fewer = omega (arith, more, two); full = found.1.full }

  -- ---- a save

  whole_count : (see : K → ShelfState) (opening : K) (base : Document) (session : ℕ) (reply : Reply) (old new : Known K)
      → IsWhole see opening base session reply old new → MakesAtMost 2 old new
  whole_count see opening base session reply old new whole =
      let n = length (entries_in whole.entered) in
      let m = length (entries_in whole.entered) + 1 + length (entries_in whole.between) in
      let size : length new.made ≡ length (old.made ++ n ∷ [] ++ m ∷ []) = ap length whole.made in
      let last = length-append (old.made ++ n ∷ []) (m ∷ []) in
      let one = length-append old.made (n ∷ []) in
      omega (arith, size, last, one)

  pub count_after_save : {E : Type 0} (R : Type 0) (reply_of : R → Reply) (r : Result R E) (see : K → ShelfState) (opening : K)
      (base : Document) (session : ℕ) (old new : Known K)
      → IfOk r (λ reply. IsSaved see opening base session (reply_of reply) old new) → OnErr r (HasHeard old new)
      → MakesAtMost 2 old new
  count_after_save R reply_of (Ok reply) see opening base session old new wrote heard = elim wrote.is [
    | inl full ↦ heard_none old new full.made 2
    | inr whole ↦ whole_count see opening base session (reply_of reply) old new whole
  ]
  count_after_save R reply_of (Err e) see opening base session old new wrote heard = heard_none old new heard.made 2

  pub full_after_save : {E : Type 0} (R : Type 0) (reply_of : R → Reply) (r : Result R E) (see : K → ShelfState) (opening : K)
      (base : Document) (session : ℕ) (old new : Known K)
      → IfOk r (λ reply. IsSaved see opening base session (reply_of reply) old new)
      → IfOk r (λ reply. reply_of reply ≡ history_full → FindsFull old new)
  full_after_save R reply_of (Ok reply) see opening base session old new wrote = λ so. elim wrote.is [
    | inl full ↦ record { none = heard_none old new full.made 0; full = full.few }
    | inr whole ↦ absurd (end_is_not_full whole.how _ (sym whole.reply_is ∙ so))
  ]
  full_after_save R reply_of (Err e) see opening base session old new wrote = tt
