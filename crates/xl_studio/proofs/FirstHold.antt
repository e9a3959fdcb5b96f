-- The first hold of a save: the list that was left, and what the seat knows then.
use Rattle.std.proofs.Common.{◌≡◌, ◌⊎◌, inl, inr, ℕ, zero, suc, ◌+◌, ◌-◌, ◌<◌, ◌≤◌, false, List, [], ◌∷◌, ◌++◌, length}
use Rattle.std.proofs.Common.{Option, Some, None, refl, sym, ap, ◌∙◌, subst, arith, length-append}
use Rattle.std.specs.Prelude.{Result, Ok, Err, IfOk, OnErr}
use mathlib.Core.List.{IsPrefix}
use Rattle.spec_document.specs.Document.{Document}
use Rattle.spec_history.specs.declared.TheConstants.{MAX_ENTRIES}
use Rattle.spec_history.specs.Machine.{history_full}
use Rattle.spec_history.specs.History.{Entry, starts}
use Rattle.spec_history.specs.Kept.{IsLegal}
use Rattle.spec_saves.specs.Shelf.{ShelfIsRight}
use Rattle.xl_ports.specs.State.{ShelfState}
use Rattle.xl_turn.specs.Sums.{times, same}
use Rattle.xl_turn.specs.Turns.{Closes, IsWithin}
use Rattle.xl_turn.specs.Seats.{MayLeave, made_after}
use Rattle.xl_turn.proofs.Fronts.{prefix_trans, prefix_self}
use Rattle.xl_turn.proofs.Totals.{same_self, same_true, times_last}
use Rattle.xl_history.specs.History.{document}
use Rattle.xl_history.specs.Editing.{Editing, start_of, out_of}
use Rattle.xl_history.specs.declared.saving.Begun.{Begun}
use Rattle.xl_history.specs.declared.saving.Begun.TheVariants.{Snapshot, Out, Full}
use Rattle.xl_studio.specs.declared.moment.Moment.{Moment}
use Rattle.xl_studio.specs.declared.moment.Moment.TheVariants.{Made}
use Rattle.xl_studio.specs.Moments.{entries_in, closed_with, closed_next, place_out, closed_by}
use Rattle.xl_studio.specs.State.{moments_of}
use Rattle.xl_studio.specs.Calling.{Known, HasHeard}
use Rattle.xl_studio.specs.Saving.{FoundNoRoom}
use Rattle.xl_studio.specs.Seats.{history_of}
use Rattle.xl_studio.specs.UnderWay.{AddsStart, Hands, HasStarted, AfterFirst, AfterWait}
use Rattle.xl_studio.proofs.Grown.{length-moments}
use Rattle.xl_studio.proofs.Seated.{back, never, last_closes, leaves_as, made_where, has_heard}

one_of_two : (a b : ℕ) → 0 < a + b → (0 < a) ⊎ (0 < b)
one_of_two zero b h = inr (omega arith)
one_of_two (suc a) b h = inl (omega arith)

module _ {K : Type 0} where
  -- nothing is added, or the start of a save
  pub record GrowsByStart (entered left : List (Moment K)) : Type 0 where
    pub is : (left ≡ entered) ⊎ ((e : Entry) × (handed : Option K) × (e.kind ≡ starts) × (left ≡ entered ++ Made e handed ∷ []))

  pub grows_by_start : {E : Type 0} (r : Result (Begun K) E) (base : Document) (entered left : List (Moment K)) (session : ℕ)
      → IfOk r (λ b. AddsStart base entered session b left) → OnErr r (left ≡ entered)
      → GrowsByStart entered left
  grows_by_start (Ok (Snapshot v d k)) base entered left session adds failed =
      record { is = inr (start_of (history_of base entered) session, Some k, refl, adds.0) }
  grows_by_start (Ok Out) base entered left session adds failed = record { is = inl adds }
  grows_by_start (Ok Full) base entered left session adds failed = record { is = inl adds.0 }
  grows_by_start (Err e) base entered left session adds failed = record { is = inl failed }

  -- a start closes no place
  pub start_may_leave : (start : ℕ) (made : List ℕ) (entered xs left : List (Moment K)) → entered ≡ xs → start ≤ length xs
      → GrowsByStart xs left → MayLeave closed_by start made entered left
  start_may_leave start made entered xs left is le grows = leaves_as closed_by start made entered xs left is (elim grows.is [
    | inl same ↦ inl same
    | inr more ↦ inr (
      Made more.0 more.1,
      more.3,
      λ j c.
          let at : closed_next {K = K} (place_out xs) (Made more.0 more.1) ≡ Some (start + j) =
          last_closes start xs (Made more.0 more.1) j le
          (subst (λ (l : List (Moment K)). Closes closed_by start l (length xs - start) j) more.3 c) in
          never (start + j) (closed_next {K = K} (place_out xs) (Made more.0 more.1)) (ap (closed_with (place_out xs)) more.2) at,
    )
  ])

  pub begins_with : (front entered left : List (Moment K)) → IsPrefix front entered → GrowsByStart entered left
      → IsPrefix front left
  begins_with front entered left p grows = prefix_trans front entered left p (elim grows.is [
    | inl same ↦ subst (IsPrefix entered) (sym same) (prefix_self entered)
    | inr more ↦ (Made more.0 more.1 ∷ [], sym more.3)
  ])

  -- ---- the places of the entries that the seat made

  pub one_place_more : (start : ℕ) (made made' : List ℕ) (entered left : List (Moment K)) (m : Moment K) → start ≡ 1
      → length entered ≡ length (entries_in entered) + 1
      → made' ≡ made_after start made entered left → left ≡ entered ++ m ∷ [] → made' ≡ made ++ length (entries_in entered) ∷ []
  one_place_more start made made' entered left m one size grown adds =
      (made_where false (Unit {0}) start made made' left entered left m one size refl grown adds).1

  places_within : (start : ℕ) (made : List ℕ) (entered : List (Moment K)) (m : Moment K) (n : ℕ) → start ≡ 1
      → length entered ≡ n + 1 → IsWithin start entered made
      → (i : ℕ) → 0 < times i (made ++ n ∷ []) → i + 1 < length (entered ++ m ∷ [])
  places_within start made entered m n one size within i h =
      let all : times i (made ++ n ∷ []) ≡ times i made + same i n = times_last i n made in
      let some : 0 < times i made + same i n = omega arith in
      let more : length (entered ++ m ∷ []) ≡ length entered + 1 = length-append entered (m ∷ []) in
      elim (one_of_two (times i made) (same i n) some) [
        | inl old ↦ let w = within i old in omega arith
        | inr new ↦ let e = same_true i n new in omega arith
      ]

  module _ (see : K → ShelfState) (held : Editing K) (session : ℕ) (old new : Known K) (start : ℕ) (one : start ≡ 1)
      (begins : IsPrefix old.front (moments_of held)) (legal : IsLegal held.history.base held.history.entries)
      (within : IsWithin start (moments_of held) old.made) (left : List (Moment K)) (is : new.front ≡ left) (grown : new.made
      ≡ made_after start old.made (moments_of held) left) where
    sized : length (moments_of held) ≡ length (entries_in (moments_of held)) + 1
    sized = length-moments held.history.base held.opening held.handed held.history.entries
        ∙ ap (λ (es : List Entry). length es + 1) (sym (back held))

    started : (v : ℕ) (d : Document) (k : K) → AddsStart held.history.base (moments_of held) session (Snapshot v d k) left
        → Hands see held (Snapshot v d k)
        → HasStarted see held.opening held.history.base session d k old new
    started v d k adds hands =
        let m : Moment K = Made (start_of (history_of held.history.base (moments_of held)) session) (Some k) in
        let places : new.made ≡ old.made ++ length (entries_in (moments_of held)) ∷ [] =
        one_place_more start old.made new.made (moments_of held) left m one sized grown adds.0 in
        let n : ℕ = length (entries_in (moments_of held)) in
        record {
          out = record {
            entered = moments_of held;
            sized = sized;
            legal = subst (IsLegal held.history.base) (sym (back held)) legal;
            front = is ∙ adds.0;
            own = let t : times n new.made ≡ times n old.made + same n n = ap (times n) places ∙ times_last n n old.made in
                let s = same_self n in omega arith;
            within = λ i h.
                let w : i + 1 < length (moments_of held ++ m ∷ []) =
                places_within start old.made (moments_of held) m n one sized within i
                (subst (λ (xs : List ℕ). 0 < times i xs) places h) in
                let l : length new.front ≡ length (moments_of held ++ m ∷ []) = ap length (is ∙ adds.0) in
                omega arith;
          };
          begins = begins;
          made = places;
          room = adds.1;
          snapshot =
              hands.0 ∙ ap (λ (es : List Entry). document (record { base = held.history.base; entries = es })) (sym (back held));
          right =
              subst (λ (es : List Entry). ShelfIsRight (see held.opening) held.history.base es (see k)) (sym (back held)) hands.1;
          selected = hands.2;
        }

    heard : left ≡ moments_of held → HasHeard old new
    heard same = has_heard old new start (moments_of held) (moments_of held) left refl begins same is grown

    no_room : left ≡ moments_of held → MAX_ENTRIES < length (entries_in (moments_of held)) + 2
        → out_of (history_of held.history.base (moments_of held)) ≡ None → FoundNoRoom held.history.base history_full old new
    no_room same few none =
        let h : HasHeard old new = heard same in
        let l : length (entries_in new.front) ≡ length (entries_in (moments_of held)) =
        ap (λ (ms : List (Moment K)). length (entries_in ms)) (is ∙ same) in
        record {
          reply_is = refl;
          begins = h.begins;
          made = h.made;
          few = omega arith;
          none_out = ap (λ (ms : List (Moment K)). out_of (history_of held.history.base ms)) (is ∙ same) ∙ none;
        }

    after_first : (b : Begun K) → AddsStart held.history.base (moments_of held) session b left → Hands see held b
        → AfterFirst see held.opening held.history.base session b old new
    after_first (Snapshot v d k) adds hands = started v d k adds hands
    after_first Out adds hands = heard adds
    after_first Full adds hands = no_room adds.0 adds.1 adds.2

    pub begun_first : {E : Type 0} (r : Result (Begun K) E) (opening : K) (base : Document) → opening ≡ held.opening
        → base ≡ held.history.base → IfOk r (λ b. AddsStart held.history.base (moments_of held) session b left)
        → IfOk r (λ b. Hands see held b) → IfOk r (λ b. AfterFirst see opening base session b old new)
    begun_first (Ok b) opening base same same' adds hands =
        subst (λ (k : K). AfterFirst see k base session b old new) (sym same)
        (subst (λ (d : Document). AfterFirst see held.opening d session b old new) (sym same') (after_first b adds hands))
    begun_first (Err e) opening base same same' adds hands = tt

  -- ---- one wait more

  heard_twice : (old mid new : Known K) → HasHeard old mid → HasHeard mid new → HasHeard old new
  heard_twice old mid new one two =
      record { begins = prefix_trans old.front mid.front new.front one.begins two.begins; made = two.made ∙ one.made }

  pub heard_more : (old mid new : Known K) → HasHeard old mid → HasHeard mid new → HasHeard old new
  heard_more old mid new one two = heard_twice old mid new one two

  started_later : (see : K → ShelfState) (opening : K) (base : Document) (session : ℕ) (d : Document) (k : K)
      (old mid new : Known K) → HasHeard old mid → HasStarted see opening base session d k mid new
      → HasStarted see opening base session d k old new
  started_later see opening base session d k old mid new heard s = record {
    out = s.out;
    begins = prefix_trans old.front mid.front s.out.entered heard.begins s.begins;
    made = s.made ∙ ap (λ (xs : List ℕ). xs ++ length (entries_in s.out.entered) ∷ []) heard.made;
    room = s.room;
    snapshot = s.snapshot;
    right = s.right;
    selected = s.selected;
  }

  no_room_later : (base : Document) (old mid new : Known K) → HasHeard old mid → FoundNoRoom base history_full mid new
      → FoundNoRoom base history_full old new
  no_room_later base old mid new heard f = record {
    reply_is = f.reply_is;
    begins = prefix_trans old.front mid.front new.front heard.begins f.begins;
    made = f.made ∙ heard.made;
    few = f.few;
    none_out = f.none_out;
  }

  -- what was not `Out`
  pub after_wait : (see : K → ShelfState) (opening : K) (base : Document) (session : ℕ) (b : Begun K) (old mid new : Known K)
      → HasHeard old mid → (b ≡ Out → ⊥) → AfterFirst see opening base session b mid new
      → AfterWait see opening base session b old new
  after_wait see opening base session (Snapshot v d k) old mid new heard found is =
      started_later see opening base session d k old mid new heard is
  after_wait see opening base session Out old mid new heard found is = found refl
  after_wait see opening base session Full old mid new heard found is = no_room_later base old mid new heard is
