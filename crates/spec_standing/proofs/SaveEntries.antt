-- What stands stays as it is by the entries of a save, its start and its end.
use Rattle.std.proofs.Common.{◌≡◌, ℕ, ◌+◌, ◌<◌, ◌≤◌, Bool, true, false, cond, List, [], ◌∷◌, ◌++◌, length, refl, sym}
use Rattle.std.proofs.Common.{◌∙◌, ap, arith, length-append, add-zero}
use Rattle.std.specs.Prelude.{◌==◌, ◌&&◌, not, slice_index, slice_set, Option, Some, None}
use Rattle.spec_document.specs.Document.{Document}
use Rattle.spec_history.specs.Machine.{Reply, saved, save_fault, save_memory, Saving, latest}
use Rattle.spec_history.specs.History.{Entry, starts, ends, replay, next_index, is_end_kind, is_changed, EndsWith, MayEnd}
use Rattle.spec_history.specs.declared.TheConstants.{MAX_ENTRIES}
use Rattle.spec_history.proofs.Growing.{replay-snoc, next_index-snoc}
use Rattle.spec_world.specs.World.{entries_owed}
use Rattle.spec_standing.specs.Now.{Now, now_of, Stands}
use Rattle.spec_standing.proofs.GoesOn.{counted}
use Rattle.spec_standing.proofs.Pictures.{pictures-entry}

-- a save starts with the last version
pub stands_started : (base : Document) (entries : List Entry) (now : Now) (made : List ℕ) (session : ℕ)
    → Stands base entries now made → length made ≡ 8 → session < 8
    → (replay base entries).out ≡ None → length entries + 2 ≤ MAX_ENTRIES
    → Stands base (entries ++ record {
      session = session;
      index = slice_index made session;
      kind = starts;
      reply =
          saved now.version;
    } ∷ []) now
    (slice_set made session (slice_index made session + 1))
stands_started base entries now made session stands eight within none few =
    let s = replay base entries in
    let e : Entry = record { session = session; index = slice_index made session; kind = starts; reply = saved now.version } in
    let last : saved now.version ≡ saved (latest s) = ap (λ n. saved n.version) stands.is_now in
    let index : slice_index made session ≡ next_index entries session = stands.indices session within in
    let more : length (entries ++ e ∷ []) ≡ length entries + 1 = length-append entries (e ∷ []) in
    let owed : entries_owed (replay base (entries ++ e ∷ [])).out ≡ 1 = ap (λ t. entries_owed t.out) (replay-snoc base entries e) in
    let groups = stands.groups in
    let pictures = pictures-entry base entries now made e stands tt (index, none, last) tt refl (λ stack at. refl) in
    record {
      within = stands.within;
      small = stands.small;
      legal = pictures.legal;
      few = omega (arith, more, few, owed);
      is_now = stands.is_now ∙ ap (λ t. now_of base t now.cache) (sym (replay-snoc base entries e));
      groups = omega (arith, more, groups);
      indices = counted made entries e eight within refl stands.indices;
      pictures = pictures;
    }

end_unchanged : (version : ℕ) (reply : Reply) → EndsWith version reply → is_changed reply ≡ false
end_unchanged version (saved v) is = refl
end_unchanged version (save_fault v) is = refl
end_unchanged version (save_memory v) is = refl
end_unchanged version reply is = absurd is

-- what may be an end makes no version
may_unchanged : (out : Option Saving) (session index : ℕ) (reply : Reply) → MayEnd out session index reply
    → is_changed reply ≡ false
may_unchanged None session index reply may = absurd may
may_unchanged (Some out) session index reply may = end_unchanged out.version reply may.2

-- and is owed
may_owed : (out : Option Saving) (session index : ℕ) (reply : Reply) → MayEnd out session index reply → entries_owed out ≡ 1
may_owed None session index reply may = absurd may
may_owed (Some out) session index reply may = refl

abbrev one_where : Bool → ℕ
one_where b = cond b 1 0

never : (b : Bool) → one_where (b && false) ≡ 0
never true = refl
never false = refl

-- an end is not counted
not_counted : (entries : List Entry) (e : Entry) → e.kind ≡ ends → (s : ℕ) → next_index (entries ++ e ∷ []) s ≡ next_index entries s
not_counted entries e kind s =
    let test : one_where (e.session == s && not (is_end_kind e.kind)) ≡ one_where (e.session == s && false) =
    ap (λ k. one_where (e.session == s && not (is_end_kind k))) kind in
    next_index-snoc entries e s ∙ (ap (λ n. next_index entries s + n) (test ∙ never (e.session == s))
    ∙ add-zero (next_index entries s))

-- the save that is out ends
pub stands_ended : (base : Document) (entries : List Entry) (now : Now) (made : List ℕ) (session index : ℕ) (reply : Reply)
    → Stands base entries now made → MayEnd (replay base entries).out session index reply
    → Stands base (entries ++ record { session = session; index = index; kind = ends; reply = reply } ∷ []) now made
stands_ended base entries now made session index reply stands may =
    let s = replay base entries in
    let e : Entry = record { session = session; index = index; kind = ends; reply = reply } in
    let more : length (entries ++ e ∷ []) ≡ length entries + 1 = length-append entries (e ∷ []) in
    let owed : entries_owed (replay base (entries ++ e ∷ [])).out ≡ 0 = ap (λ t. entries_owed t.out) (replay-snoc base entries e) in
    let before = may_owed s.out session index reply may in
    let few = stands.few in
    let groups = stands.groups in
    let pictures = pictures-entry base entries now made e stands tt may tt (may_unchanged s.out session index reply may)
    (λ stack at. refl) in
    record {
      within = stands.within;
      small = stands.small;
      legal = pictures.legal;
      few = omega (arith, more, few, owed, before);
      is_now = stands.is_now ∙ ap (λ t. now_of base t now.cache) (sym (replay-snoc base entries e));
      groups = omega (arith, more, groups);
      indices = λ s here. stands.indices s here ∙ sym (not_counted entries e refl s);
      pictures = pictures;
    }
