-- A hold of the turn: what the list that was entered tells, that it may be left, and what the seat knows then.
use Rattle.std.proofs.Common.{◌≡◌, ℕ, ◌+◌, ◌-◌, ◌≤◌, Bool, true, false, cond, ltb, List, [], ◌∷◌, ◌++◌, length, take}
use Rattle.std.proofs.Common.{Option, Some, None, refl, sym, ap, ◌∙◌, subst, arith, length-append, inl, inr}
use Rattle.std.specs.Prelude.{MatchBool, Result, Ok, Err, IfOk, OnErr}
use Rattle.std.proofs.lemmas.List.Sums.{sum_by-append}
use Rattle.std.proofs.lemmas.Bool.{lt-ltb, le-ltb}
use Rattle.std.proofs.Math.Seq.{take-length}
use mathlib.Core.List.{IsPrefix}
use Rattle.spec_document.specs.Document.{Document}
use Rattle.spec_history.specs.Machine.{Call, Reply, history_full}
use Rattle.spec_history.specs.History.{Entry, Kind, asked, starts, ends, is_changed, latest_of}
use Rattle.spec_history.specs.Kept.{IsLegal}
use Rattle.xl_history.specs.History.{is_full, Shows}
use Rattle.xl_history.specs.Editing.{Editing}
use Rattle.xl_turn.specs.Turns.{Closes}
use Rattle.xl_turn.specs.Seats.{MayLeave, made_after}
use Rattle.xl_turn.proofs.Fronts.{prefix_trans, prefix_self}
use Rattle.xl_studio.specs.declared.moment.Moment.{Moment}
use Rattle.xl_studio.specs.declared.moment.Moment.TheVariants.{Opened, Made}
use Rattle.xl_studio.specs.Moments.{IsAsked, entries_in, closed_with, closed_next, place_out, closed_by}
use Rattle.xl_studio.specs.State.{moments_of}
use Rattle.xl_studio.specs.Calling.{called_entry, Adds, AddsCalls, Known, IsCalled, HasHeard}
use Rattle.xl_studio.specs.Seats.{history_of, IsFront}
use Rattle.xl_studio.proofs.Grown.{entries-moments, length-moments, entries-prefix}
use Rattle.xl_studio.proofs.StillOut.{closed_by-snoc}

-- ---- versions only grow

latest-append : (xs ys : List Entry) → latest_of (xs ++ ys) ≡ latest_of xs + latest_of ys
latest-append xs ys = sum_by-append (λ (e : Entry). cond (is_changed e.reply) 1 0) xs ys

pub latest_prefix : (xs ys : List Entry) → IsPrefix xs ys → latest_of xs ≤ latest_of ys
latest_prefix xs ys begins =
    let l = latest-append xs begins.0 in let m : latest_of (xs ++ begins.0) ≡ latest_of ys = ap latest_of begins.1 in omega arith

no_close : (out : Option ℕ) (k : Kind) → IsAsked k → closed_with out k ≡ None
no_close out (asked call tables) is = refl
no_close out starts is = absurd is
no_close out ends is = absurd is

pub never : {A : Type 0} (n : ℕ) (o : Option ℕ) → o ≡ None → o ≡ Some n → A
never n o p q = absurd (cc (p, q))

module _ {K : Type 0} where
  pub back : (c : Editing K) → entries_in (moments_of c) ≡ c.history.entries
  back c = entries-moments c.history.base c.opening c.handed c.history.entries

  -- ---- the list that was entered

  first_same : (b d : Document) (k l : K) (ms ns rest : List (Moment K)) → (Opened b k ∷ ms) ++ rest ≡ Opened d l ∷ ns → b ≡ d
  first_same b d k l ms ns rest e = cc

  pub base_entered : (opened held : Editing K) (front : List (Moment K)) → IsPrefix (moments_of opened) front
      → IsPrefix front (moments_of held) → opened.history.base ≡ held.history.base
  base_entered opened held front p q =
      let all = prefix_trans (moments_of opened) front (moments_of held) p q in
      first_same opened.history.base held.history.base opened.opening held.opening _ _ all.0 all.1

  shelf_same : (b d : Document) (k l : K) (ms ns rest : List (Moment K)) → (Opened b k ∷ ms) ++ rest ≡ Opened d l ∷ ns → k ≡ l
  shelf_same b d k l ms ns rest e = cc

  pub shelf_entered : (opened held : Editing K) (front : List (Moment K)) → IsPrefix (moments_of opened) front
      → IsPrefix front (moments_of held) → opened.opening ≡ held.opening
  shelf_entered opened held front p q =
      let all = prefix_trans (moments_of opened) front (moments_of held) p q in
      shelf_same opened.history.base held.history.base opened.opening held.opening _ _ all.0 all.1

  pub seen_entered : (front : List (Moment K)) (held : Editing K) (seen : ℕ) → IsPrefix front (moments_of held)
      → seen ≡ latest_of (entries_in front) → seen ≤ latest_of held.history.entries
  seen_entered front held seen begins is =
      let le = latest_prefix (entries_in front) (entries_in (moments_of held)) (entries-prefix front (moments_of held) begins) in
      let b : latest_of (entries_in (moments_of held)) ≡ latest_of held.history.entries = ap latest_of (back held) in
      omega arith

  -- ---- a call closes no place

  pub last_closes : (start : ℕ) (xs : List (Moment K)) (m : Moment K) (j : ℕ) → start ≤ length xs
      → Closes closed_by start (xs ++ m ∷ []) (length xs - start) j → closed_next {K = K} (place_out xs) m ≡ Some (start + j)
  last_closes start xs m j le c =
      let all : start + (length xs - start) + 1 ≡ length (xs ++ m ∷ []) = omega (arith, length-append xs (m ∷ [])) in
      let whole : take (start + (length xs - start) + 1) (xs ++ m ∷ []) ≡ xs ++ m ∷ [] = ap (λ n. take n (xs ++ m ∷ [])) all
      ∙ take-length (xs ++ m ∷ []) in
      sym (closed_by-snoc xs m) ∙ (ap closed_by (sym whole) ∙ c.2)

  -- what is left of a list that is told under another name
  pub leaves_as : (closes : List (Moment K) → Option ℕ) (start : ℕ) (made : List ℕ) (entered xs left : List (Moment K))
      → entered ≡ xs → MayLeave closes start made xs left → MayLeave closes start made entered left
  leaves_as closes start made entered xs left is may =
      subst (λ (l : List (Moment K)). MayLeave closes start made l left) (sym is) may

  pub call_may_leave : (start : ℕ) (made : List ℕ) (entered xs left : List (Moment K)) → entered ≡ xs → start ≤ length xs
      → AddsCalls xs left → MayLeave closed_by start made entered left
  call_may_leave start made entered xs left is le adds = leaves_as closed_by start made entered xs left is (elim adds.is [
    | inl same ↦ inl same
    | inr more ↦ inr (
      Made more.0 None,
      more.2,
      λ j c.
          let none : closed_next {K = K} (place_out xs) (Made more.0 None) ≡ Some (start + j) =
          last_closes start xs (Made more.0 None) j le
          (subst (λ (l : List (Moment K)). Closes closed_by start l (length xs - start) j) more.2 c) in
          never (start + j) (closed_next {K = K} (place_out xs) (Made more.0 None))
          (no_close (place_out xs) more.0.kind more.1) none,
    )
  ])

  pub start_within : (start : ℕ) (c : Editing K) → start ≡ 1 → start ≤ length (moments_of c)
  start_within start c is = let l = length-moments c.history.base c.opening c.handed c.history.entries in omega arith

  -- ---- what the seat knows then

  grows : (entered left : List (Moment K)) → AddsCalls entered left → IsPrefix entered left
  grows entered left adds = elim adds.is [
    | inl same ↦ subst (IsPrefix entered) (sym same) (prefix_self entered)
    | inr more ↦ (Made more.0 None ∷ [], sym more.2)
  ]

  pub begins_after : (front entered left : List (Moment K)) → IsPrefix front entered → AddsCalls entered left → IsPrefix front left
  begins_after front entered left p adds = prefix_trans front entered left p (grows entered left adds)

  -- the front after a hold, which the seat's number follows
  pub front_after : (opening : List (Moment K)) (base : Document) (start : ℕ) (front front' : List (Moment K)) (seen seen' : ℕ)
      (new : Editing K) → IsFront opening base start front seen
      → IsPrefix front front' → front' ≡ moments_of new → base ≡ new.history.base → IsLegal new.history.base new.history.entries
      → seen' ≡ latest_of new.history.entries
      → (start' : ℕ) → start' ≡ start → IsFront opening base start' front' seen'
  front_after opening base start front front' seen seen' new was begins is same legal now start' stays =
      let es : entries_in front' ≡ new.history.entries = ap entries_in is ∙ back new in
      record {
        start_is = stays ∙ was.start_is;
        begins = prefix_trans opening front front' was.begins begins;
        legal = subst (λ (b : Document). IsLegal b (entries_in front')) (sym same)
            (subst (λ (l : List Entry). IsLegal new.history.base l) (sym es) legal);
        seen_is = now ∙ ap latest_of (sym es);
      }

  pub made_where : (full : Bool) (P : Type 0) (start : ℕ) (made made' : List ℕ) (front' entered left : List (Moment K))
      (m : Moment K) → start ≡ 1 → length entered ≡ length (entries_in entered) + 1
      → front' ≡ left → made' ≡ made_after start made entered left
      → MatchBool full (P × (left ≡ entered)) (left ≡ entered ++ m ∷ [])
      → MatchBool full (P × (front' ≡ entered) × (made' ≡ made)) ((front' ≡ entered ++ m ∷ [])
      × (made' ≡ made ++ length (entries_in entered) ∷ []))
  made_where true P start made made' front' entered left m one size is grown adds =
      let stays : ltb (length entered) (length left) ≡ false =
      le-ltb (length entered) (length left) (let l = ap length adds.1 in omega arith) in
      (adds.0, is ∙ adds.1, grown ∙ ap (λ b. cond b (made ++ (length entered - start) ∷ []) made) stays)
  made_where false P start made made' front' entered left m one size is grown adds =
      let more : ltb (length entered) (length left) ≡ true =
      lt-ltb (length entered) (length left) (let l = ap length adds in omega (arith, length-append entered (m ∷ []))) in
      let place : length entered - start ≡ length (entries_in entered) = omega arith in
      (is ∙ adds, grown ∙ (ap (λ b. cond b (made ++ (length entered - start) ∷ []) made) more ∙ ap (λ n. made ++ n ∷ []) place))

  pub is_called : (base : Document) (session : ℕ) (call : Call) (tables : List (List ℕ)) (reply : Reply) (old new : Known K)
      (start : ℕ) (held : Editing K) (entered left : List (Moment K))
      → start ≡ 1 → entered ≡ moments_of held → base ≡ held.history.base → IsPrefix old.front (moments_of held) → new.front ≡ left
      → new.made ≡ made_after start old.made entered left
      → Adds held.history.base (moments_of held) session call tables reply left → IsCalled base session call tables reply old new
  is_called base session call tables reply old new start held entered left one told same begins is grown adds =
      let size : length (moments_of held) ≡ length (entries_in (moments_of held)) + 1 =
      length-moments held.history.base held.opening held.handed held.history.entries
      ∙ ap (λ (es : List Entry). length es + 1) (sym (back held)) in
      record {
        entered = moments_of held;
        begins = begins;
        made = made_where (is_full (history_of base (moments_of held))) (reply ≡ history_full) start old.made new.made new.front
            (moments_of held) left
            (Made (called_entry (entries_in (moments_of held)) session call tables reply) None) one size is (grown
            ∙ ap (λ l. made_after start old.made l left) told)
            (subst (λ (b : Document). MatchBool (is_full (history_of b (moments_of held))) ((reply ≡ history_full)
            × (left ≡ moments_of held))
            (left ≡ moments_of held ++ Made (called_entry (entries_in (moments_of held)) session call tables reply) None ∷ []))
            (sym same) adds.is);
      }

  pub has_heard : (old new : Known K) (start : ℕ) (entered xs left : List (Moment K)) → entered ≡ xs → IsPrefix old.front xs
      → left ≡ xs → new.front ≡ left → new.made ≡ made_after start old.made entered left → HasHeard old new
  has_heard old new start entered xs left told begins same is grown =
      let stays : ltb (length entered) (length left) ≡ false =
      le-ltb (length entered) (length left) (let l : length left ≡ length entered = ap length (same ∙ sym told) in
      omega arith) in
      record {
        begins = subst (IsPrefix old.front) (sym (is ∙ same)) begins;
        made = grown ∙ ap (λ b. cond b (old.made ++ (length entered - start) ∷ []) old.made) stays;
      }

  pub called_after : {E : Type 0} (R : Type 0) (reply_of : R → Reply) (tables_of : R
      → List (List ℕ)) (r : Result R E) (base : Document) (session : ℕ) (call : Call) (old new : Known K) (start : ℕ)
      (held : Editing K) (entered left : List (Moment K))
      → start ≡ 1 → entered ≡ moments_of held → base ≡ held.history.base → IsPrefix old.front (moments_of held) → new.front ≡ left
      → new.made ≡ made_after start old.made entered left
      → IfOk r (λ reply. Adds held.history.base (moments_of held) session call (tables_of reply) (reply_of reply) left)
      → IfOk r (λ reply. IsCalled base session call (tables_of reply) (reply_of reply) old new)
  called_after R reply_of tables_of
      (Ok reply) base session call old new start held entered left one told same begins is grown adds =
      is_called base session call (tables_of reply)
      (reply_of reply) old new start held entered left one told same begins is grown adds
  called_after R reply_of tables_of (Err e) base session call old new start held entered left one told same begins is grown adds =
      tt

  pub heard_after : {R E : Type 0} (r : Result R E) (old new : Known K) (start : ℕ) (entered xs left : List (Moment K))
      → entered ≡ xs → IsPrefix old.front xs → new.front ≡ left → new.made ≡ made_after start old.made entered left
      → OnErr r (left ≡ xs) → OnErr r (HasHeard old new)
  heard_after (Ok x) old new start entered xs left told begins is grown same = tt
  heard_after (Err e) old new start entered xs left told begins is grown same =
      has_heard old new start entered xs left told begins same is grown

  -- what is shown is of the history that the seat knows
  pub shown_after : {E : Type 0} (R : Type 0) (reply_of : R
      → Reply) (r : Result R E) (base : Document) (front' : List (Moment K)) (new : Editing K) (call : Call) (bytes : List ℕ)
      → base ≡ new.history.base → front' ≡ moments_of new
      → IfOk r (λ reply. Shows new.history call (reply_of reply) bytes)
      → IfOk r (λ reply. Shows (history_of base front') call (reply_of reply) bytes)
  shown_after R reply_of (Ok reply) base front' new call bytes same is shows =
      let es : new.history.entries ≡ entries_in front' = sym (back new) ∙ ap entries_in (sym is) in
      subst (λ (b : Document). Shows (record { base = b; entries = entries_in front' }) call (reply_of reply) bytes) (sym same)
      (subst (λ (l : List Entry). Shows (record { base = new.history.base; entries = l }) call (reply_of reply) bytes) es shows)
  shown_after R reply_of (Err e) base front' new call bytes same is shows = tt
