-- A save's start and its end leave the shelf right.
use Rattle.std.proofs.Common.{◌≡◌, ℕ, ◌+◌, ◌≤◌, List, [], ◌∷◌, ◌++◌, length, refl, sym}
use Rattle.std.proofs.Common.{◌∙◌, ap, subst, arith, length-append, add-zero}
use Rattle.std.specs.Prelude.{Option, Some, None, IsSome}
use Rattle.spec_document.specs.Document.{Document}
use Rattle.spec_history.specs.Machine.{Call, Reply, saved, State, Saving, latest}
use Rattle.spec_history.specs.History.{Entry, asked, starts, replay, EndsWith, MayEnd}
use Rattle.spec_history.proofs.Growing.{replay-snoc}
use Rattle.spec_world.specs.declared.SaveEnd.{SaveEnd}
use Rattle.spec_world.specs.declared.SaveEnd.TheVariants.{Done, Fault, Memory}
use Rattle.spec_world.specs.World.{entries_owed}
use Rattle.spec_world.specs.Events.{end_reply, IsOutOf}
use Rattle.spec_saves.specs.Names.{version_out, saves_started}
use Rattle.spec_saves.specs.Shelf.{ShelfIsRight}
use Rattle.spec_saves.specs.Returns.{Returns, end_entry}
use Rattle.spec_saves.proofs.Staying.{saves_started-snoc, stays_right}
use Rattle.spec_saves.proofs.Ending.{comes_back_right}
use Rattle.xl_history.specs.Editing.{last_of, index_out}
use Rattle.xl_history.specs.Holding.{IsPlace, at_hand, Holds}
use Rattle.xl_history.specs.Room.{owed_in}
use Rattle.xl_history.specs.declared.saving.ShelfPlace.{ShelfPlace}
use Rattle.xl_history.specs.declared.saving.ShelfPlace.TheVariants.{In, Out}
use Rattle.spec_standing.specs.Now.{Now, Stands}
use Rattle.spec_standing.proofs.GoesOn.{out-call}
use Rattle.spec_standing.proofs.SaveEntries.{stands_ended as ended}
use Rattle.xl_ports.specs.State.{ShelfState}

-- ---- what stands

ends_with : (how : SaveEnd) (version : ℕ) → EndsWith version (end_reply how version)
ends_with Done version = refl
ends_with Fault version = refl
ends_with Memory version = refl

may_end : (out : Option Saving) (session : ℕ) (how : SaveEnd) → IsOutOf out session
    → MayEnd out session (index_out out) (end_reply how (version_out out))
may_end None session how is = absurd is
may_end (Some out) session how is = (is, refl, ends_with how out.version)

owed_out : (out : Option Saving) (session : ℕ) → IsOutOf out session → entries_owed out ≡ 1
owed_out None session is = absurd is
owed_out (Some out) session is = refl

-- the save that is out ends with its version
pub stands_ended : (base : Document) (entries : List Entry) (now : Now) (made : List ℕ) (session : ℕ) (how : SaveEnd)
    → Stands base entries now made
    → IsOutOf (replay base entries).out session
    → Stands base (entries ++ end_entry base entries session (index_out (replay base entries).out) how ∷ []) now made
stands_ended base entries now made session how stands out =
    let o = (replay base entries).out in
    ended base entries now made session (index_out o) (end_reply how (version_out o)) stands (may_end o session how out)

-- ---- where the shelf is

pub none_out : {K : Type 0} (place : ShelfPlace K) (out : Option Saving) (k : K) → place ≡ In k → IsPlace place out → out ≡ None
none_out place out k is there = go out (subst (λ p. IsPlace p out) is there)
  where
    go : (out : Option Saving) → IsPlace (In k) out → out ≡ None
    go None there = refl
    go (Some out) there = absurd there

pub which_out : (K : Type 0) (index version : ℕ) (out : Option Saving) → IsPlace {K = K} (Out index version) out
    → (index ≡ index_out out) × (version ≡ version_out out)
which_out K index version None there = absurd there
which_out K index version (Some out) there = there

-- the entry that is owed is that of the save that is out
pub owed_is : (K : Type 0) (place : ShelfPlace K) (out : Option Saving) → IsPlace place out → owed_in place ≡ entries_owed out
owed_is K (In k) None there = refl
owed_is K (In k) (Some out) there = absurd there
owed_is K (Out index version) None there = absurd there
owed_is K (Out index version) (Some out) there = refl

pub last-snoc : {K : Type 0} (first : K) (ks : List K) (k : K) → last_of first (ks ++ k ∷ []) ≡ k
last-snoc first [] k = refl
last-snoc first (x ∷ ks) k = last-snoc x ks k

module _ {K : Type 0} (see : K → ShelfState) (base : Document) (entries : List Entry) (now : Now) (made : List ℕ)
    (stands : Stands base entries now made) (opening : K) (handed : List K) where
  -- a call leaves the shelf where it is
  pub holds_called : (place : ShelfPlace K) (room more : ℕ) (session index : ℕ) (call : Call) (tables : List (List ℕ)) (reply : Reply)
      → Holds see base entries opening handed place room
      → length entries + 1 + entries_owed (replay base entries).out ≤ more
      → Holds see base (entries ++ record { session = session; index = index; kind = asked call tables; reply = reply }
      ∷ []) opening handed place more
  holds_called place room more session index call tables reply holds enough =
      let e : Entry = record { session = session; index = index; kind = asked call tables; reply = reply } in
      let out = out-call base entries session index call tables reply in
      let owed : entries_owed (replay base (entries ++ e ∷ [])).out ≡ entries_owed (replay base entries).out =
      ap entries_owed out in
      let len : length (entries ++ e ∷ []) ≡ length entries + 1 = length-append entries (e ∷ []) in
      record {
        place_is = subst (IsPlace place) (sym out) holds.place_is;
        right = stays_right (see opening) (see (at_hand opening handed place)) base entries e stands.legal.run refl holds.right;
        selected = holds.selected;
        each_start = holds.each_start ∙ sym (saves_started-snoc entries e ∙ add-zero (saves_started entries));
        room_owed = omega (arith, owed, len, enough);
      }

  -- a start hands it out
  pub holds_started : (k : K) (room more : ℕ) (session index version : ℕ) → Holds see base entries opening handed (In k) room
      → version ≡ latest (replay base entries) → length entries + 2 ≤ more
      → Holds see base (entries ++ record { session = session; index = index; kind = starts; reply = saved version } ∷ []) opening
      (handed ++ k ∷ []) (Out index version) more
  holds_started k room more session index version holds last enough =
      let e : Entry = record { session = session; index = index; kind = starts; reply = saved version } in
      let state = replay-snoc base entries e in
      let owed : entries_owed (replay base (entries ++ e ∷ [])).out ≡ 1 = ap (λ t. entries_owed t.out) state in
      let len : length (entries ++ e ∷ []) ≡ length entries + 1 = length-append entries (e ∷ []) in
      let each = holds.each_start in
      record {
        place_is = subst (λ (t : State). IsPlace {K = K} (Out index version) t.out) (sym state) (refl, last);
        right = subst (λ (x : K). ShelfIsRight (see opening) base (entries ++ e ∷ []) (see x)) (sym (last-snoc opening handed k))
            (stays_right (see opening) (see k) base entries e stands.legal.run refl holds.right);
        selected = holds.selected;
        each_start = length-append handed (k ∷ []) ∙ (ap (λ n. n + 1) each ∙ sym (saves_started-snoc entries e));
        room_owed = omega (arith, owed, len, enough);
      }

  some_out : (out : Option Saving) (session : ℕ) → IsOutOf out session → IsSome out
  some_out None session is = absurd is
  some_out (Some out) session is = refl

  out_handed : (place : ShelfPlace K) (out : Option Saving) (session : ℕ) → IsPlace place out → IsOutOf out session
      → at_hand opening handed place ≡ last_of opening handed
  out_handed (In k) None session is of = absurd of
  out_handed (In k) (Some out) session is of = absurd is
  out_handed (Out index version) out session is of = refl

  -- an end takes it back
  pub holds_ended : (place : ShelfPlace K) (k : K) (room : ℕ) (session : ℕ) (how : SaveEnd)
      → Holds see base entries opening handed place room
      → IsOutOf (replay base entries).out session → Returns (see opening) (see (last_of opening handed)) base entries how (see k)
      → Holds see base (entries ++ end_entry base entries session (index_out (replay base entries).out) how ∷ []) opening handed
      (In k) room
  holds_ended place k room session how holds out back =
      let e = end_entry base entries session (index_out (replay base entries).out) how in
      let state = replay-snoc base entries e in
      let owed : entries_owed (replay base (entries ++ e ∷ [])).out ≡ 0 = ap (λ t. entries_owed t.out) state in
      let before = owed_out (replay base entries).out session out in
      let len : length (entries ++ e ∷ []) ≡ length entries + 1 = length-append entries (e ∷ []) in
      let enough = holds.room_owed in
      record {
        place_is = subst (λ (t : State). IsPlace (In k) t.out) (sym state) tt;
        right = comes_back_right (see opening) (see (last_of opening handed)) (see k) base entries session
            (index_out (replay base entries).out) how stands.legal.run
            (some_out (replay base entries).out session out)
            (subst (λ (x : K). ShelfIsRight (see opening) base entries (see x))
            (out_handed place (replay base entries).out session holds.place_is out) holds.right) back;
        selected = holds.selected;
        each_start = holds.each_start ∙ sym (saves_started-snoc entries e ∙ add-zero (saves_started entries));
        room_owed = omega (arith, owed, len, enough, before);
      }
