-- The second hold of a save: the save is still out, and its end is the next entry.
use Rattle.std.proofs.Common.{◌≡◌, inr, ℕ, ◌+◌, ◌-◌, ◌<◌, List, [], ◌∷◌, ◌++◌, length, Option, Some, None, refl, sym}
use Rattle.std.proofs.Common.{ap, ◌∙◌, subst, arith, append_assoc, length-append}
use Rattle.std.specs.Prelude.{is_some, fold, unwrap_or}
use Rattle.std.proofs.lemmas.List.Sums.{fold-append}
use mathlib.Core.List.{IsPrefix}
use Rattle.spec_document.specs.Document.{Document}
use Rattle.spec_history.specs.Machine.{Reply, State, Saving, latest}
use Rattle.spec_history.specs.History.{Entry, Kind, asked, starts, ends, after_entry, replay_from, replay, next_index, latest_of}
use Rattle.spec_history.specs.Kept.{IsLegal}
use Rattle.spec_history.proofs.Growing.{replay-append, replay-snoc}
use Rattle.spec_history.proofs.Versions.{latest_of-legal}
use Rattle.spec_world.specs.declared.SaveEnd.{SaveEnd}
use Rattle.spec_world.specs.Events.{end_reply, IsOutOf}
use Rattle.spec_saves.specs.Names.{Named, the_old, names, after_one, after_kind, version_out}
use Rattle.xl_ports.specs.State.{ShelfState}
use Rattle.spec_saves.specs.Returns.{Returns}
use Rattle.xl_turn.specs.Sums.{times}
use Rattle.xl_turn.specs.Turns.{Closes, IsClosed}
use Rattle.xl_turn.specs.Seats.{MayLeave, made_after}
use Rattle.xl_history.specs.Editing.{Editing, last_of, start_of, end_of, out_of, index_out, ComesBack}
use Rattle.xl_snapshot.specs.Saving.{IsCodedOn, IsSavedOn}
use Rattle.xl_snapshot.proofs.ComesBack.{comes_back}
use Rattle.xl_snapshot.proofs.Later.{returns_later}
use Rattle.xl_studio.specs.declared.moment.Moment.{Moment}
use Rattle.xl_studio.specs.declared.moment.Moment.TheVariants.{Opened, Made}
use Rattle.xl_studio.specs.Moments.{IsAsked, AreAsked, entries_in, out_from, place_out, closed_next, closed_by}
use Rattle.xl_studio.specs.State.{moments_of, IsKept}
use Rattle.xl_studio.specs.Calling.{Known}
use Rattle.xl_studio.specs.Saving.{IsWhole, IsWholeBy}
use Rattle.xl_studio.specs.Seats.{history_of}
use Rattle.xl_studio.specs.UnderWay.{AddsEnd, IsUnderWay, HasStarted, HasEnded, MayComeBack}
use Rattle.xl_studio.proofs.Grown.{length-moments, entries-append}
use Rattle.xl_studio.proofs.StillOut.{out_stays, out-append, place_out-snoc, only_calls, out_with-asked}
use Rattle.xl_studio.proofs.Seated.{back, last_closes, leaves_as}
use Rattle.xl_studio.proofs.Handed.{last_handed_is}
use Rattle.xl_studio.proofs.FirstHold.{one_place_more}

-- ---- calls leave the save out, and name no file

out_after_calls : (base : Document) (s : State) (es : List Entry) → AreAsked es → (replay_from base s es).out ≡ s.out
out_after_calls base s [] are = refl
out_after_calls base s (e ∷ es) are = out_after_calls base (after_entry base s e) es are.1 ∙ out_stays base s e e.kind are.0

named_by_call : (ns : List Named) (k : Kind) (reply : Reply) → IsAsked k → after_kind ns k reply ≡ ns
named_by_call ns (asked call tables) reply is = refl
named_by_call ns starts reply is = absurd is
named_by_call ns ends reply is = absurd is

named_by_calls : (ns : List Named) (es : List Entry) → AreAsked es → fold after_one ns es ≡ ns
named_by_calls ns [] are = refl
named_by_calls ns (e ∷ es) are =
    ap (λ (ms : List Named). fold after_one ms es) (named_by_call ns e.kind e.reply are.0) ∙ named_by_calls ns es are.1

names_after_calls : (es more : List Entry) → AreAsked more → names (es ++ more) ≡ names es
names_after_calls es more are = fold-append after_one (the_old ∷ []) es more ∙ named_by_calls (names es) more are

place_after_calls : {K : Type 0} (n : ℕ) (out : Option ℕ) (ms : List (Moment K)) → AreAsked (entries_in ms)
    → out_from n out ms ≡ out
place_after_calls n out [] are = refl
place_after_calls n out (Opened base shelf ∷ ms) are = place_after_calls (n + 1) out ms are
place_after_calls n out (Made e handed ∷ ms) are =
    ap (λ o. out_from (n + 1) o ms) (out_with-asked n out e.kind are.0) ∙ place_after_calls (n + 1) out ms are.1

some_same : (m n : ℕ) → Some m ≡ Some n → m ≡ n
some_same m n is = ap (λ (o : Option ℕ). unwrap_or o 0) is

-- ---- the save that is under way

module _ {K : Type 0} (base : Document) (session : ℕ) (handed : K) (old : Known K) (u : IsUnderWay base session handed old) where
  start_is : Entry
  start_is = start_of (history_of base u.entered) session

  pub saving : Saving
  saving = record {
    session = session;
    index = next_index (entries_in u.entered) session;
    version =
        latest (replay base (entries_in u.entered));
  }

  pub front_entries : entries_in old.front ≡ entries_in u.entered ++ start_of (history_of base u.entered) session ∷ []
  front_entries =
      ap entries_in u.front ∙ entries-append u.entered (Made (start_of (history_of base u.entered) session) (Some handed) ∷ [])

  pub out_is : (replay base (entries_in old.front)).out
      ≡ Some (record {
        session = session;
        index = next_index (entries_in u.entered) session;
        version =
            latest (replay base (entries_in u.entered));
      })
  out_is =
      ap (λ (es : List Entry). (replay base es).out) front_entries
      ∙ ap (λ (s : State). s.out) (replay-snoc base (entries_in u.entered) (start_of (history_of base u.entered) session))

  pub place_is : place_out old.front ≡ Some (length u.entered)
  place_is = ap place_out u.front ∙ place_out-snoc u.entered (Made (start_of (history_of base u.entered) session) (Some handed))

module _ {K : Type 0} (base : Document) (session : ℕ) (handed : K) (old : Known K) (u : IsUnderWay base session handed old)
    (legal : IsLegal base (entries_in old.front)) (held : Editing K) (same : base ≡ held.history.base)
    (begins : IsPrefix old.front (moments_of held)) (kept : IsKept held) (start : ℕ) (one : start ≡ 1)
    (closed : IsClosed closed_by start (moments_of held) old.made) where
  pub calls_alone : AreAsked (entries_in begins.0)
  calls_alone =
      let whole : IsLegal base (entries_in (moments_of held)) =
      subst (λ (b : Document). IsLegal b (entries_in (moments_of held))) (sym same)
      (subst (IsLegal held.history.base) (sym (back held)) kept.right.legal) in
      let size = u.sized in
      let long : length old.front ≡ length u.entered + 1 = ap length u.front
      ∙ length-append u.entered (Made (start_of (history_of base u.entered) session) (Some handed) ∷ []) in
      let place : length u.entered - start ≡ length (entries_in u.entered) = omega arith in
      only_calls base old.front (moments_of held) old.made start (length u.entered) begins whole
      (place_is base session handed old u) (ap is_some (out_is base session handed old u)) (omega arith) (omega arith)
      (subst (λ (n : ℕ). 0 < times n old.made) (sym place) u.own) (λ i h. let w = u.within i h in omega arith) closed

  entries_are : entries_in old.front ++ entries_in begins.0 ≡ held.history.entries
  entries_are = sym (entries-append old.front begins.0) ∙ (ap entries_in begins.1 ∙ back held)

  out_later : (replay base (entries_in old.front ++ entries_in begins.0)).out ≡ (replay base (entries_in old.front)).out
  out_later =
      ap (λ (s : State). s.out) (replay-append base (entries_in old.front) (entries_in begins.0))
      ∙ out_after_calls base (replay base (entries_in old.front)) (entries_in begins.0) calls_alone

  out_held : out_of held.history ≡ (replay base (entries_in old.front)).out
  out_held =
      ap (λ (b : Document). (replay b held.history.entries).out) (sym same)
      ∙ (ap (λ (es : List Entry). (replay base es).out) (sym entries_are) ∙ out_later)

  pub is_out : IsOutOf (out_of held.history) session
  is_out = subst (λ (o : Option Saving). IsOutOf o session) (sym (out_held ∙ out_is base session handed old u)) refl

  pub may_come_back : (see : K → ShelfState) (opening : K) (how : SaveEnd) (shelf : K) → opening ≡ held.opening
      → Returns (see opening) (see handed) base (entries_in old.front) how (see shelf) → ComesBack see held how shelf
  may_come_back see opening how shelf first r =
      let later = returns_later base (entries_in old.front) (entries_in begins.0) legal
      (names_after_calls (entries_in old.front) (entries_in begins.0) calls_alone) out_later (see opening) (see handed)
      (see shelf) how r in
      let list : (u.entered ++ Made (start_of (history_of base u.entered) session) (Some handed) ∷ [])
      ++ begins.0 ≡ moments_of held = ap (λ (ms : List (Moment K)). ms ++ begins.0) (sym u.front) ∙ begins.1 in
      let last : last_of held.opening held.handed ≡ handed =
      last_handed_is held u.entered begins.0
      (start_of (history_of base u.entered) session) handed kept.each_start list calls_alone in
      subst (λ (k : K). Returns (see held.opening) (see k) held.history.base held.history.entries how (see shelf)) (sym last)
      (subst (λ (k : K). Returns (see k) (see handed) held.history.base held.history.entries how (see shelf)) first
      (subst (λ (b : Document). Returns (see opening) (see handed) b held.history.entries how (see shelf)) same
      (subst (λ (es : List Entry). Returns (see opening) (see handed) base es how (see shelf)) entries_are later)))

  place_held : place_out (moments_of held) ≡ Some (length u.entered)
  place_held =
      ap place_out (sym begins.1)
      ∙ (out-append 0 None old.front begins.0
      ∙ (place_after_calls (0 + length old.front) (place_out old.front) begins.0 calls_alone ∙ place_is base session handed old u))

  -- the end closes the place of the start, which is the seat's
  pub end_may_leave : (how : SaveEnd) (reply : Reply) (made : List ℕ) (entered left : List (Moment K)) → entered ≡ moments_of held
      → made ≡ old.made → AddsEnd held.history.base (moments_of held) session how reply left
      → MayLeave closed_by start made entered left
  end_may_leave how reply made entered left is own adds =
      let xs : List (Moment K) = moments_of held in
      let m : Moment K = Made (end_of (history_of held.history.base xs) session reply) None in
      let long = length-moments held.history.base held.opening held.handed held.history.entries in
      leaves_as closed_by start made entered xs left is (inr (
        m,
        adds.left_is,
        λ j c.
            let at : closed_next {K = K} (place_out xs) m ≡ Some (start + j) =
            last_closes start xs m j (omega arith)
            (subst (λ (l : List (Moment K)). Closes closed_by start l (length xs - start) j) adds.left_is c) in
            let place : length u.entered ≡ start + j = some_same (length u.entered) (start + j) (sym place_held ∙ at) in
            let size = u.sized in
            let number : length (entries_in u.entered) ≡ j = omega arith in
            subst (λ (ps : List ℕ). 0 < times j ps) (sym own) (subst (λ (n : ℕ). 0 < times n old.made) number u.own),
      ))

  pub begins_after_end : (how : SaveEnd) (reply : Reply) (left front : List (Moment K))
      → AddsEnd held.history.base (moments_of held) session how reply left → front ≡ left → IsPrefix old.front front
  begins_after_end how reply left front adds is =
      let m : Moment K = Made (end_of (history_of held.history.base (moments_of held)) session reply) None in (
        begins.0 ++ m ∷ [],
        sym (append_assoc old.front begins.0 (m ∷ []))
            ∙ (ap (λ (ms : List (Moment K)). ms ++ m ∷ []) begins.1 ∙ sym (is ∙ adds.left_is)),
      )

  pub has_ended : (how : SaveEnd) (reply : Reply) (new : Known K) (left : List (Moment K))
      → AddsEnd held.history.base (moments_of held) session how reply left → new.front ≡ left
      → new.made ≡ made_after start old.made (moments_of held) left → HasEnded base session how reply old new
  has_ended how reply new left adds is grown =
      let xs : List (Moment K) = moments_of held in
      let out : out_of (history_of held.history.base xs) ≡ out_of (history_of base old.front) =
      ap (λ (es : List Entry). (replay held.history.base es).out) (back held) ∙ out_held in
      let m : ℕ → Moment K = λ i. Made (record { session = session; index = i; kind = ends; reply = reply }) None in
      let size : length xs ≡ length (entries_in xs) + 1 =
      length-moments held.history.base held.opening held.handed held.history.entries
      ∙ ap (λ (es : List Entry). length es + 1) (sym (back held)) in
      let places : new.made ≡ old.made ++ length (entries_in xs) ∷ [] =
      one_place_more start old.made new.made xs left
      (m (index_out (out_of (history_of held.history.base xs)))) one size grown adds.left_is in
      let count : length (entries_in xs) ≡ length (entries_in old.front) + length (entries_in begins.0) =
      ap (λ (ms : List (Moment K)). length (entries_in ms)) (sym begins.1)
      ∙ (ap length (entries-append old.front begins.0) ∙ length-append (entries_in old.front) (entries_in begins.0)) in
      record {
        between = begins.0;
        calls = calls_alone;
        reply_is = adds.reply_is ∙ ap (λ (o : Option Saving). end_reply how (version_out o)) out;
        front = is ∙ (adds.left_is ∙ (ap (λ (o : Option Saving). xs ++ m (index_out o) ∷ []) out
            ∙ ap (λ (ms : List (Moment K)). ms ++ m (index_out (out_of (history_of base old.front))) ∷ []) (sym begins.1)));
        made = places ∙ ap (λ (n : ℕ). old.made ++ n ∷ []) count;
      }

-- ---- both holds

module _ {K : Type 0} where
  -- the shelf on which the snapshot was saved comes back as it has to
  returns_saved : (see : K → ShelfState) (opening : K) (base : Document) (session : ℕ) (d : Document) (handed shelf : K)
      (how : SaveEnd) (old mid : Known K) → (s : HasStarted see opening base session d handed old mid)
      → IsSavedOn (see handed) d how (see shelf)
      → Returns (see opening) (see handed) base (entries_in s.out.entered
      ++ start_of (history_of base s.out.entered) session ∷ []) how (see shelf)
  returns_saved see opening base session d handed shelf how old mid s saves =
      let es = entries_in s.out.entered in
      comes_back (see opening) (see handed) (see shelf) base es session
      (next_index es session) d how s.out.legal s.right s.snapshot saves

  -- it may come back
  pub saved_comes_back : (see : K → ShelfState) (opening : K) (base : Document) (session : ℕ) (d : Document) (handed shelf : K)
      (how : SaveEnd) (old mid : Known K) → HasStarted see opening base session d handed old mid
      → IsSavedOn (see handed) d how (see shelf) → MayComeBack see opening base session how shelf mid
  saved_comes_back see opening base session d handed shelf how old mid s saves = record {
    handed = handed;
    out = s.out;
    returns = subst (λ (xs : List Entry). Returns (see opening) (see handed) base xs how (see shelf))
        (sym (front_entries base session handed mid s.out))
        (returns_saved see opening base session d handed shelf how old mid s saves);
  }

  pub is_whole : (see : K → ShelfState) (opening : K) (base : Document) (session : ℕ) (d : Document) (handed shelf : K)
      (how : SaveEnd) (reply : Reply) (old mid new : Known K) → HasStarted see opening base session d handed old mid
      → IsSavedOn (see handed) d how (see shelf) → HasEnded base session how reply mid new
      → IsWhole see opening base session reply old new
  is_whole see opening base session d handed shelf how reply old mid new s saves e =
      let xs : List (Moment K) = s.out.entered in
      let es : List Entry = entries_in xs in
      let first : Moment K = Made (start_of (history_of base xs) session) (Some handed) in
      let m : ℕ → Moment K = λ i. Made (record { session = session; index = i; kind = ends; reply = reply }) None in
      let out = out_is base session handed mid s.out in
      let v : latest (replay base es) ≡ latest_of es = sym (latest_of-legal base es s.out.legal) in
      let count : length (entries_in mid.front) ≡ length es + 1 = ap length (front_entries base session handed mid s.out)
      ∙ length-append es (start_of (history_of base xs) session ∷ []) in
      record {
        entered = xs;
        shelf = handed;
        between = e.between;
        how = how;
        back = shelf;
        begins = s.begins;
        room = s.room;
        calls = e.calls;
        right = s.right;
        returns = returns_saved see opening base session d handed shelf how old mid s saves;
        closed = saves.closed;
        reply_is = e.reply_is ∙ (ap (λ (o : Option Saving). end_reply how (version_out o)) out ∙ ap (end_reply how) v);
        front = e.front
            ∙ (ap (λ (o : Option Saving). mid.front ++ e.between ++ m (index_out o) ∷ []) out
            ∙ ap (λ (ms : List (Moment K)). ms ++ e.between ++ m (next_index es session) ∷ []) s.out.front);
        made = e.made
            ∙ (ap (λ (n : ℕ). mid.made ++ (n + length (entries_in e.between)) ∷ []) count
            ∙ ap (λ (ps : List ℕ). ps ++ (length es + 1 + length (entries_in e.between)) ∷ []) s.made);
      }

  pub is_whole_by : (fits : List ℕ → List ℕ → Type 0) (see : K → ShelfState) (opening : K) (base : Document) (session : ℕ)
      (d : Document) (handed shelf : K) (how : SaveEnd) (reply : Reply) (old mid new : Known K)
      → HasStarted see opening base session d handed old mid
      → IsSavedOn (see handed) d how (see shelf) → IsCodedOn fits (see handed) d how (see shelf)
      → HasEnded base session how reply mid new → IsWholeBy fits see opening base session reply old new
  unfolding is_whole
  is_whole_by fits see opening base session d handed shelf how reply old mid new s saves coded e = record {
    whole = is_whole see opening base session d handed shelf how reply old mid new s saves e;
    coded = subst (λ (x : Document). IsCodedOn fits (see handed) x how (see shelf)) s.snapshot coded;
  }
