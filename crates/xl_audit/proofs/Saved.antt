-- A save's start passes, and its end passes or fails.
use Rattle.std.proofs.Common.{◌≡◌, ℕ, ◌+◌, Bool, true, false, List, [], ◌∷◌, ◌++◌, length, refl, sym, ◌∙◌, ap, subst, arith}
use Rattle.std.specs.Prelude.{Option, Some, None, slice_index, slice_set, slice_get, unwrap_or, IfSome}
use Rattle.std.proofs.lemmas.List.{length-set}
use Rattle.spec_filters.specs.declared.FilterState.{FilterState}
use Rattle.spec_history.specs.Machine as machine
use Rattle.spec_history.specs.Machine.{Reply, State, Saving, latest}
use Rattle.spec_history.specs.History.{Entry, starts, ends, replay, is_changed, EndsWith}
use Rattle.spec_history.proofs.Growing.{replay-snoc}
use Rattle.spec_script.specs.Script as lines
use Rattle.spec_script.specs.Script.{Line}
use Rattle.spec_tables.specs.Agrees.{Agrees}
use Rattle.spec_text.specs.declared.OrderWord.{OrderWord}
use Rattle.spec_audit.specs.Output.{Output}
use Rattle.spec_audit.specs.Walk.{Start, call_at, printed_at, entry_at, IsAllowed}
use Rattle.spec_audit.proofs.Going as going
use Rattle.spec_standing.specs.Now.{Now, Stands}
use Rattle.spec_standing.proofs.SaveEntries.{stands_started, stands_ended}
use Rattle.xl_judging.specs.Calls.{IsNoCall}
use Rattle.xl_judging.specs.Judging.{end_fits}
use Rattle.xl_audit.specs.Walking.{HasCome, IsNextWord, IsJudged, MayStand, filters_at}
use Rattle.xl_judging.specs.declared.versions.Versions.{Versions}
use Rattle.xl_audit.specs.declared.walk.Walk.{Walk}
use Rattle.xl_audit.proofs.Entering.{come_quietly}
use Rattle.xl_judging.proofs.Judged.{fits_end, end_is_fit}

-- no save is out where one starts
none_out : (out : Option Saving) (w : OrderWord) → MayStand out w lines.save false → out ≡ None
none_out None w may = refl
none_out (Some out) w may = absurd may

pub started : (s : Start) (o : Output) (earlier : List Entry) (w : OrderWord) (old new : Walk) (chest : List (Option FilterState))
    → IsNextWord s o earlier w → w.end ≡ false → IsNoCall (call_at s.scripts w) → HasCome s.base earlier old
    → Agrees chest (filters_at s earlier w.session)
    → new.made ≡ slice_set old.made w.session (slice_index old.made w.session + 1)
    → new.seen ≡ slice_set old.seen w.session old.standing.version → new.standing ≡ old.standing → new.versions ≡ old.versions
    → new.out ≡ old.standing.version → IsJudged s o earlier w true new chest
started s o earlier w old new chest next no_end no_call has agrees made seen same versions out =
    let st = replay s.base earlier in
    let v = old.standing.version in
    let place = slice_index old.made w.session in
    let digest = (printed_at o.replies w).digest in
    let line = next.line no_call in
    let none = none_out st.out w (subst (λ (l : Line). MayStand st.out w l false) line
    (subst (λ (b : Bool). MayStand st.out w (call_at s.scripts w) b) no_end next.stands)) in
    let e : Entry = record { session = w.session; index = place; kind = starts; reply = machine.saved v } in
    let version : v ≡ latest st = ap (λ (n : Now). n.version) has.stands.is_now in
    let counted = has.stands.indices w.session next.eight in
    let index : w.index ≡ place = next.index no_end ∙ sym counted in
    let is : entry_at s o earlier w ≡ e =
    going.entry_start s o earlier w line no_end
    ∙ (λ i. record { session = w.session; index = index i; kind = starts; reply = machine.saved (sym version i) }) in
    let A : ℕ → Type 0 = λ n. IsAllowed s.base earlier (record {
      session = w.session;
      index = place;
      kind = starts;
      reply = machine.saved n;
    }) digest in
    let allowed : IsAllowed s.base earlier e digest =
    subst A (sym version) (going.start_passes s.base earlier w.session place digest counted none) in
    let few = next.few no_end in
    let stands = stands_started s.base earlier old.standing old.made w.session has.stands has.eight_made next.eight none
    (omega (arith, few)) in
    let long = length-set old.made w.session (place + 1) in
    let old_long = has.eight_made in
    let after : IfSome (replay s.base (earlier ++ e ∷ [])).out (λ x. new.out ≡ x.version) =
    subst (λ (t : State). IfSome t.out (λ x. new.out ≡ x.version)) (sym (replay-snoc s.base earlier e)) (out ∙ version) in
    let come = come_quietly s.base earlier e old new has next.eight allowed.step tt refl (λ k t. refl)
    (subst (Stands s.base (earlier ++ e ∷ []) old.standing) (sym made) stands) same
    (ap (λ (xs : List ℕ). length xs) made ∙ omega (arith, long, old_long)) seen after
    (ap (λ (x : Versions). x.wanted.items) versions) (ap (λ (x : Versions). x.shares.items) versions) in
    let kept : Agrees chest (filters_at s (earlier ++ e ∷ []) w.session) =
    subst (Agrees chest) (sym (going.filters_here (unwrap_or (slice_get s.chests w.session) []) earlier e)) agrees in (
      subst (λ (x : Entry). IsAllowed s.base earlier x digest) (sym is) allowed,
      subst (λ (x : Entry). HasCome s.base (earlier ++ x ∷ []) new) (sym is) come,
      subst (λ (x : Entry). Agrees chest (filters_at s (earlier ++ x ∷ []) w.session)) (sym is) kept,
    )

-- the save that is out
record IsOut (out : Option Saving) (w : OrderWord) (version : ℕ) : Type 0 where
  saving : Saving
  is : out ≡ Some saving
  session : w.session ≡ saving.session
  index : w.index ≡ saving.index
  version_is : version ≡ saving.version

is_out : (out : Option Saving) (w : OrderWord) (line : Line) (version : ℕ) → MayStand out w line true
    → IfSome out (λ x. version ≡ x.version) → IsOut out w version
is_out None w line version may is = absurd may
is_out (Some x) w line version may is = record { saving = x; is = refl; session = may.0; index = may.1; version_is = is }

end_unchanged : (version : ℕ) (r : Reply) → EndsWith version r → is_changed r ≡ false
end_unchanged version (machine.changed v group next) is = absurd is
end_unchanged version r is = refl

pub ended : (s : Start) (o : Output) (earlier : List Entry) (w : OrderWord) (old new : Walk) (chest : List (Option FilterState))
    (passed : Bool) → IsNextWord s o earlier w → w.end ≡ true → HasCome s.base earlier old
    → Agrees chest (filters_at s earlier w.session)
    → passed ≡ end_fits old.out (printed_at o.replies w).reply → new.made ≡ old.made
    → new.seen ≡ slice_set old.seen w.session old.standing.version → new.standing ≡ old.standing → new.versions ≡ old.versions
    → new.out ≡ old.out → IsJudged s o earlier w passed new chest
ended s o earlier w old new chest passed next end has agrees judged made seen same versions out = go passed judged where
  st : State
  st = replay s.base earlier

  r : Reply
  r = (printed_at o.replies w).reply

  digest : List ℕ
  digest = (printed_at o.replies w).digest

  x : IsOut (replay s.base earlier).out w old.out
  x =
      is_out (replay s.base earlier).out w (call_at s.scripts w) old.out
      (subst (λ (b : Bool). MayStand (replay s.base earlier).out w (call_at s.scripts w) b) end next.stands) has.out

  e : Entry
  e = record { session = w.session; index = w.index; kind = ends; reply = (printed_at o.replies w).reply }

  is : entry_at s o earlier w ≡ e
  is = going.entry_end s o earlier w end

  go : (b : Bool) → b ≡ end_fits old.out (printed_at o.replies w).reply → IsJudged s o earlier w b new chest
  go true fits =
      let ends_so : EndsWith x.saving.version r =
      subst (λ (n : ℕ). EndsWith n r) x.version_is (fits_end old.out r (sym fits)) in
      let allowed : IsAllowed s.base earlier e digest =
      going.end_passes s.base earlier w.session w.index x.saving r digest x.is x.session x.index ends_so in
      let unchanged = end_unchanged x.saving.version r ends_so in
      let stands = stands_ended s.base earlier old.standing old.made w.session w.index r has.stands allowed.step in
      let none : (replay s.base (earlier ++ e ∷ [])).out ≡ None = ap (λ (t : State). t.out) (replay-snoc s.base earlier e) in
      let after : IfSome (replay s.base (earlier ++ e ∷ [])).out (λ y. new.out ≡ y.version) =
      subst (λ (y : Option Saving). IfSome y (λ z. new.out ≡ z.version)) (sym none) tt in
      let come = come_quietly s.base earlier e old new has next.eight allowed.step tt unchanged (λ k t. refl)
      (subst (Stands s.base (earlier ++ e ∷ []) old.standing) (sym made) stands) same
      (ap (λ (xs : List ℕ). length xs) made ∙ has.eight_made) seen after
      (ap (λ (y : Versions). y.wanted.items) versions) (ap (λ (y : Versions). y.shares.items) versions) in
      let kept : Agrees chest (filters_at s (earlier ++ e ∷ []) w.session) =
      subst (Agrees chest) (sym (going.filters_here (unwrap_or (slice_get s.chests w.session) []) earlier e)) agrees in (
        subst (λ (y : Entry). IsAllowed s.base earlier y digest) (sym is) allowed,
        subst (λ (y : Entry). HasCome s.base (earlier ++ y ∷ []) new) (sym is) come,
        subst (λ (y : Entry). Agrees chest (filters_at s (earlier ++ y ∷ []) w.session)) (sym is) kept,
      )
  go false fails = λ pass.
      let allowed : IsAllowed s.base earlier e digest =
      subst (λ (y : Entry). IsAllowed s.base earlier y (printed_at o.replies w).digest) is pass in
      let ends_so = going.passes_end s.base earlier w.session w.index x.saving r digest x.is allowed in
      let bad : false ≡ true =
      fails ∙ end_is_fit old.out r (subst (λ (n : ℕ). EndsWith n r) (sym x.version_is) ends_so) next.printable in
      cc
