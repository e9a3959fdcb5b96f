-- Every version that a save names is there.
use Rattle.std.proofs.Common.{ℕ, ◌<◌, ◌≤◌, List, [], ◌∷◌, ◌++◌, length, sym, subst, arith, append_assoc, length-append}
use Rattle.std.specs.Prelude.{fold, Option, Some, None}
use Rattle.std.specs.List.{AllByRecursion}
use Rattle.std.proofs.lemmas.List.{append-nil}
use Rattle.spec_document.specs.Document.{Document}
use Rattle.spec_history.specs.Machine.{Call, Reply, saved, save_fault, save_memory, Saving, State, latest, initial, answer}
use Rattle.spec_history.specs.History.{Kind, asked, starts, ends, Entry, EndsWith, MayEnd, MayBe, after_entry}
use Rattle.spec_history.specs.History.{replay_from, replay, RunFrom, Run}
use Rattle.spec_history.specs.History as history
use Rattle.spec_history.proofs.Growing.{out-answer}
use Rattle.spec_history.proofs.Versions.{IsSound, goes-answer}
use Rattle.spec_saves.specs.Names.{Named, the_old, version, after_end, after_kind, after_one, names, version_left, versions_of}
use Rattle.spec_saves.specs.Names.{saved_versions}

abbrev pub IsThere : (last : ℕ) → Named → Type 0
IsThere last the_old = Unit {0}
IsThere last (version v) = v ≤ last

abbrev pub IsOutThere : (last : ℕ) → Option Saving → Type 0
IsOutThere last None = Unit {0}
IsOutThere last (Some out) = out.version ≤ last

-- some name is there, and the versions of the names, of the save that is out and of those that have ended are
pub record IsBounded (last : ℕ) (saving : Option Saving) (ns : List Named) (vs : List ℕ) : Type 0 where
  pub some : 0 < length ns
  pub names : AllByRecursion (IsThere last) ns
  pub out : IsOutThere last saving
  pub versions : AllByRecursion (λ v. v ≤ last) vs

later_name : (a b : ℕ) → a ≤ b → (n : Named) → IsThere a n → IsThere b n
later_name a b le the_old there = tt
later_name a b le (version v) there = omega (arith, le, there)

later_names : (a b : ℕ) → a ≤ b → (ns : List Named) → AllByRecursion (IsThere a) ns → AllByRecursion (IsThere b) ns
later_names a b le [] all = tt
later_names a b le (n ∷ ns) all = (later_name a b le n all.0, later_names a b le ns all.1)

later_out : (a b : ℕ) → a ≤ b → (out : Option Saving) → IsOutThere a out → IsOutThere b out
later_out a b le None there = tt
later_out a b le (Some out) there = omega (arith, le, there)

later_versions : (a b : ℕ) → a ≤ b → (vs : List ℕ) → AllByRecursion (λ v. v ≤ a) vs → AllByRecursion (λ v. v ≤ b) vs
later_versions a b le [] all = tt
later_versions a b le (v ∷ vs) all = (omega (arith, le, all.0), later_versions a b le vs all.1)

pub one_more_name : (last : ℕ) (ns : List Named) (n : Named) → AllByRecursion (IsThere last) ns → IsThere last n
    → AllByRecursion (IsThere last) (ns ++ n ∷ [])
one_more_name last [] n all there = (there, tt)
one_more_name last (m ∷ ns) n all there = (all.0, one_more_name last ns n all.1 there)

one_more_version : (last : ℕ) (vs : List ℕ) (v : ℕ) → AllByRecursion (λ w. w ≤ last) vs → v ≤ last
    → AllByRecursion (λ w. w ≤ last) (vs ++ v ∷ [])
one_more_version last [] v all there = (there, tt)
one_more_version last (w ∷ vs) v all there = (all.0, one_more_version last vs v all.1 there)

no_more_versions : (last : ℕ) (vs : List ℕ) → AllByRecursion (λ w. w ≤ last) vs → AllByRecursion (λ w. w ≤ last) (vs ++ [])
no_more_versions last vs all = subst (AllByRecursion (λ w. w ≤ last)) (sym (append-nil vs)) all

-- ---- one entry

pub answered_later : (base : Document) (s : State) (call : Call) (tables : List (List ℕ)) → IsSound s
    → latest s ≤ latest (answer base s call tables).state
answered_later base s call tables sound = let more = (goes-answer base s call tables sound).more in omega (arith, more)

sound_kind : (base : Document) (s : State) (e : Entry) (kind : Kind) → IsSound s → IsSound (history.after_kind base s e kind)
sound_kind base s e (asked call tables) sound = (goes-answer base s call tables sound).sound
sound_kind base s e starts sound = record { some = sound.some; undo = sound.undo; redo = sound.redo }
sound_kind base s e ends sound = record { some = sound.some; undo = sound.undo; redo = sound.redo }

-- the version of the save that is out is there after an entry too
pub out_kind : (base : Document) (s : State) (e : Entry) (kind : Kind) → IsSound s → IsOutThere (latest s) s.out
    → IsOutThere (latest (history.after_kind base s e kind)) (history.after_kind base s e kind).out
out_kind base s e (asked call tables) sound there =
    let t = (answer base s call tables).state in
    later_out (latest s) (latest t) (answered_later base s call tables sound) t.out
    (subst (IsOutThere (latest s)) (sym (out-answer base s call tables)) there)
out_kind base s e starts sound there = omega arith
out_kind base s e ends sound there = tt

at_end : (last : ℕ) (ns : List Named) (vs : List ℕ) (out : Saving) (reply : Reply) → EndsWith out.version reply
    → IsBounded last (Some out) ns vs → IsBounded last None (after_end ns reply) (vs ++ version_left reply)
at_end last ns vs out (saved v) said bounded =
    let there = bounded.out in
    record {
      some = omega arith;
      names = (omega (arith, said, there), tt);
      out = tt;
      versions = one_more_version last vs v bounded.versions (omega (arith, said, there));
    }
at_end last ns vs out (save_fault v) said bounded =
    let there = bounded.out in
    record {
      some = simp length-append (omega arith);
      names = one_more_name last ns (version v) bounded.names (omega (arith, said, there));
      out = tt;
      versions = one_more_version last vs v bounded.versions (omega (arith, said, there));
    }
at_end last ns vs out (save_memory v) said bounded =
    record { some = bounded.some; names = bounded.names; out = tt; versions = no_more_versions last vs bounded.versions }
at_end last ns vs out reply said bounded = absurd said

may_end : (last : ℕ) (ns : List Named) (vs : List ℕ) (out : Option Saving) (session index : ℕ) (reply : Reply)
    → MayEnd out session index reply
    → IsBounded last out ns vs → IsBounded last None (after_end ns reply) (vs ++ version_left reply)
may_end last ns vs None session index reply may bounded = absurd may
may_end last ns vs (Some out) session index reply may bounded = at_end last ns vs out reply may.2 bounded

at_kind : (base : Document) (s : State) (earlier : List Entry) (e : Entry) (kind : Kind) (ns : List Named) (vs : List ℕ) → IsSound s
    → MayBe base s earlier e kind
    → IsBounded (latest s) s.out ns vs
    → IsBounded (latest (history.after_kind base s e kind)) (history.after_kind base s e kind).out (after_kind ns kind e.reply) (vs
    ++ versions_of kind e.reply)
at_kind base s earlier e (asked call tables) ns vs sound may bounded =
    let t = (answer base s call tables).state in
    let le = answered_later base s call tables sound in
    record {
      some = bounded.some;
      names = later_names (latest s) (latest t) le ns bounded.names;
      out = out_kind base s e (asked call tables) sound bounded.out;
      versions = no_more_versions (latest t) vs (later_versions (latest s) (latest t) le vs bounded.versions);
    }
at_kind base s earlier e starts ns vs sound may bounded =
    record {
      some = bounded.some;
      names = bounded.names;
      out = out_kind base s e starts sound bounded.out;
      versions = no_more_versions (latest s) vs bounded.versions;
    }
at_kind base s earlier e ends ns vs sound may bounded = may_end (latest s) ns vs s.out e.session e.index e.reply may bounded

-- ---- a history

along : (base : Document) (s : State) (earlier es : List Entry) (ns : List Named) (vs : List ℕ) → IsSound s
    → RunFrom base s earlier es
    → IsBounded (latest s) s.out ns vs
    → IsBounded (latest (replay_from base s es)) (replay_from base s es).out (fold after_one ns es) (vs ++ saved_versions es)
along base s earlier [] ns vs sound run bounded =
    record {
      some = bounded.some;
      names = bounded.names;
      out = bounded.out;
      versions =
          no_more_versions (latest s) vs bounded.versions;
    }
along base s earlier (e ∷ es) ns vs sound run bounded =
    let rest = along base (after_entry base s e) (earlier ++ e ∷ []) es (after_one ns e) (vs
    ++ versions_of e.kind e.reply) (sound_kind base s e e.kind sound) run.1
    (at_kind base s earlier e e.kind ns vs sound run.0 bounded) in
    let last = latest (replay_from base s (e ∷ es)) in
    record {
      some = rest.some;
      names = rest.names;
      out = rest.out;
      versions =
          subst (AllByRecursion (λ v. v ≤ last)) (append_assoc vs (versions_of e.kind e.reply) (saved_versions es)) rest.versions;
    }

pub bounded : (base : Document) (es : List Entry) → Run base es
    → IsBounded (latest (replay base es)) (replay base es).out (names es) (saved_versions es)
bounded base es run =
    along base (initial base) [] es (the_old ∷ []) [] (record { some = omega arith; undo = tt; redo = tt }) run
    (record { some = omega arith; names = (tt, tt); out = tt; versions = tt })
