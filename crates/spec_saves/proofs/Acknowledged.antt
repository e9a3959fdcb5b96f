-- The versions of acknowledged saves never fall.
use Rattle.std.proofs.Common.{ℕ, ◌<◌, ◌≤◌, List, [], ◌∷◌, ◌++◌, length, zero, suc, sym, subst, arith}
use Rattle.std.specs.Prelude.{slice_index_or, Option, Some, None}
use Rattle.std.specs.List.{cons_option}
use Rattle.std.specs.List.Sorted.{IsNonDecreasing}
use Rattle.spec_document.specs.Document.{Document}
use Rattle.spec_history.specs.Machine.{Reply, saved, save_fault, save_memory, Saving, State, latest, initial, answer}
use Rattle.spec_history.specs.History.{Kind, asked, starts, ends, Entry, EndsWith, MayEnd, MayBe, after_kind, after_entry, RunFrom}
use Rattle.spec_history.specs.Kept.{IsLegal}
use Rattle.spec_history.proofs.Growing.{out-answer}
use Rattle.spec_history.proofs.Versions.{IsSound, sound-initial, goes-step}
use Rattle.spec_saves.specs.Acknowledged.{version_saved, acknowledged, acknowledged_versions}
use Rattle.spec_saves.proofs.Bounds.{IsOutThere, answered_later, out_kind}

-- ---- numbers

-- the numbers never fall, and the first is no lower than this one
abbrev NeverFallFrom : (low : ℕ) → List ℕ → Type 0
NeverFallFrom low [] = Unit {0}
NeverFallFrom low (v ∷ vs) = (low ≤ v) × NeverFallFrom v vs

from_lower : (a b : ℕ) → a ≤ b → (vs : List ℕ) → NeverFallFrom b vs → NeverFallFrom a vs
from_lower a b le [] up = tt
from_lower a b le (v ∷ vs) up = let here = up.0 in (omega (arith, le, here), up.1)

none_lower : (low : ℕ) (vs : List ℕ) (k d : ℕ) → k < length vs → NeverFallFrom low vs → low ≤ slice_index_or vs k d
none_lower low [] k d lt up = absurd (omega (arith, lt))
none_lower low (v ∷ vs) zero d lt up = up.0
none_lower low (v ∷ vs) (suc k) d lt up =
    let here = up.0 in
    let later = none_lower v vs k d (omega (arith, lt)) up.1 in
    omega (arith, here, later)

non_decreasing : (low : ℕ) (vs : List ℕ) → NeverFallFrom low vs → IsNonDecreasing vs
non_decreasing low [] up i j d le lt = absurd (omega (arith, lt))
non_decreasing low (v ∷ vs) up zero zero d le lt = omega arith
non_decreasing low (v ∷ vs) up zero (suc j) d le lt = none_lower v vs j d (omega (arith, lt)) up.1
non_decreasing low (v ∷ vs) up (suc i) zero d le lt = absurd (omega (arith, le))
non_decreasing low (v ∷ vs) up (suc i) (suc j) d le lt = non_decreasing v vs up.1 i j d (omega (arith, le)) (omega (arith, lt))

-- ---- one entry

-- the lowest version of which a save may still be acknowledged
abbrev lowest_next : (last : ℕ) → Option Saving → ℕ
lowest_next last None = last
lowest_next last (Some out) = out.version

later_next : (a b : ℕ) → a ≤ b → (out : Option Saving) → lowest_next a out ≤ lowest_next b out
later_next a b le None = le
later_next a b le (Some out) = omega arith

at_end : (last : ℕ) (out : Saving) (reply : Reply) (vs : List ℕ) → out.version ≤ last → EndsWith out.version reply
    → NeverFallFrom last vs → NeverFallFrom out.version (cons_option (version_saved reply) vs)
at_end last out (saved v) vs there said up = (omega (arith, said), from_lower v last (omega (arith, said, there)) vs up)
at_end last out (save_fault v) vs there said up = from_lower out.version last there vs up
at_end last out (save_memory v) vs there said up = from_lower out.version last there vs up
at_end last out reply vs there said up = absurd said

may_end : (last : ℕ) (out : Option Saving) (session index : ℕ) (reply : Reply) (vs : List ℕ) → IsOutThere last out
    → MayEnd out session index reply → NeverFallFrom last vs
    → NeverFallFrom (lowest_next last out) (cons_option (version_saved reply) vs)
may_end last None session index reply vs there may up = absurd may
may_end last (Some out) session index reply vs there may up = at_end last out reply vs there may.2 up

-- what is acknowledged from an entry on is no lower than what could be before it
at_kind : (base : Document) (s : State) (earlier : List Entry) (e : Entry) (kind : Kind) (vs : List ℕ) → IsSound s
    → IsOutThere (latest s) s.out → MayBe base s earlier e kind
    → NeverFallFrom (lowest_next (latest (after_kind base s e kind)) (after_kind base s e kind).out) vs
    → NeverFallFrom (lowest_next (latest s) s.out) (cons_option (acknowledged kind e.reply) vs)
at_kind base s earlier e (asked call tables) vs sound there may up =
    let t = (answer base s call tables).state in
    let le = later_next (latest s) (latest t) (answered_later base s call tables sound) s.out in
    from_lower (lowest_next (latest s) s.out) (lowest_next (latest t) s.out) le vs
    (subst (λ out. NeverFallFrom (lowest_next (latest t) out) vs) (out-answer base s call tables) up)
at_kind base s earlier e starts vs sound there may up = subst (λ out. NeverFallFrom (lowest_next (latest s) out) vs) (sym may.1) up
at_kind base s earlier e ends vs sound there may up = may_end (latest s) s.out e.session e.index e.reply vs there may up

-- ---- a history

along : (base : Document) (s : State) (earlier es : List Entry) → IsSound s → IsOutThere (latest s) s.out
    → RunFrom base s earlier es → NeverFallFrom (lowest_next (latest s) s.out) (acknowledged_versions es)
along base s earlier [] sound there run = tt
along base s earlier (e ∷ es) sound there run =
    let after = (goes-step base s earlier e sound run.0).sound in
    let later = along base (after_entry base s e) (earlier ++ e ∷ []) es after (out_kind base s e e.kind sound there) run.1 in
    at_kind base s earlier e e.kind (acknowledged_versions es) sound there run.0 later

pub never_fall : (base : Document) (es : List Entry) → IsLegal base es → IsNonDecreasing (acknowledged_versions es)
never_fall base es legal =
    non_decreasing (latest (initial base)) (acknowledged_versions es)
    (along base (initial base) [] es (sound-initial base) tt legal.run)
