-- What the entry of a word adds to what is known at a place of a walk.
use Rattle.std.proofs.Common.{◌≡◌, ℕ, ◌+◌, ◌<◌, Bool, true, false, cond, List, [], ◌∷◌, ◌++◌, length, refl, sym, ◌∙◌}
use Rattle.std.proofs.Common.{ap, subst, arith, inl, inr, eq-eqb}
use Rattle.std.specs.Prelude.{◌==◌, ◌⊎◌, Option, Some, None, Result, Ok, Err, slice_index, slice_set}
use Rattle.std.proofs.lemmas.Bool.Decides.{eqb_tells}
use Rattle.std.proofs.lemmas.List.{get_or-set_same, get_or-set_other}
use Rattle.spec_document.specs.declared.TileAt.{TileAt}
use Rattle.spec_document.specs.Document.{Document}
use Rattle.spec_edit.specs.Edit.{Edit}
use Rattle.spec_edit.specs.Apply.{At, Refused, apply_group}
use Rattle.spec_filters.specs.declared.FilterState.{FilterState}
use Rattle.spec_history.specs.Machine as machine
use Rattle.spec_history.specs.Machine.{Call, Reply, State, Saving, latest, document_at, names, stays, made, answer}
use Rattle.spec_history.specs.History.{Entry, Kind, asked, starts, ends, next_index, replay, is_changed, latest_of, mine, MayEnd, EndsWith, PeekAnswers}
use Rattle.spec_history.specs.Kept.{IsFreshReply, IsLegal, MeetsKept, kept}
use Rattle.spec_history.proofs.Growing.{latest_of-cons}
use Rattle.spec_history.proofs.Versions.{latest_of-legal}
use Rattle.spec_script.specs.Script as lines
use Rattle.spec_script.specs.Script.{Line}
use Rattle.spec_tables.specs.Acceptance.{refused_in}
use Rattle.spec_tables.specs.Tables.{edits_made, expected_tables, tables_for, filters_after, filters_along}
use Rattle.spec_tables.proofs.Accepted.{same_refused}
use Rattle.spec_text.specs.declared.OrderWord.{OrderWord}
use Rattle.spec_text.specs.Text.{shown_digest}
use Rattle.spec_audit.specs.Output.{Output}
use Rattle.spec_audit.specs.Walk.{Start, seen_by, call_at, printed_at, kind_of, reply_of, entry_at, IsAllowed}
use Rattle.spec_audit.specs.Deciding.{IsPlainCall}
use Rattle.spec_audit.proofs.Along.{now_after, seen_append, now_append, filters_snoc}
use Rattle.spec_audit.proofs.Links.{filters_at}

-- ---- the entry of a word

pub entry_call : (s : Start) (o : Output) (earlier : List Entry) (w : OrderWord) (c : Call) → call_at s.scripts w ≡ lines.call c
    → w.end ≡ false
    → entry_at s o earlier w ≡ record {
      session = w.session;
      index = w.index;
      kind =
          asked c (expected_tables (filters_at s earlier w.session) (asked c []) (printed_at o.replies w).reply);
      reply = (printed_at o.replies w).reply;
    }
entry_call s o earlier w c line end =
    let printed = (printed_at o.replies w).reply in
    let kind : Line → Bool → Kind = λ l b. kind_of (filters_at s earlier w.session) l printed b in
    let entry : Kind → Entry =
    λ k. record { session = w.session; index = w.index; kind = k; reply = reply_of s.base earlier k printed } in
    λ i. entry (kind (line i) (end i))

pub entry_start : (s : Start) (o : Output) (earlier : List Entry) (w : OrderWord) → call_at s.scripts w ≡ lines.save
    → w.end ≡ false
    → entry_at s o earlier w ≡ record {
      session = w.session;
      index = w.index;
      kind = starts;
      reply =
          machine.saved (latest (replay s.base earlier));
    }
entry_start s o earlier w line end =
    let printed = (printed_at o.replies w).reply in
    let kind : Line → Bool → Kind = λ l b. kind_of (filters_at s earlier w.session) l printed b in
    let entry : Kind → Entry =
    λ k. record { session = w.session; index = w.index; kind = k; reply = reply_of s.base earlier k printed } in
    λ i. entry (kind (line i) (end i))

pub entry_end : (s : Start) (o : Output) (earlier : List Entry) (w : OrderWord) → w.end ≡ true
    → entry_at s o earlier w ≡ record { session = w.session; index = w.index; kind = ends; reply = (printed_at o.replies w).reply }
entry_end s o earlier w end =
    let printed = (printed_at o.replies w).reply in
    let kind : Bool → Kind = λ b. kind_of (filters_at s earlier w.session) (call_at s.scripts w) printed b in
    let entry : Kind → Entry =
    λ k. record { session = w.session; index = w.index; kind = k; reply = reply_of s.base earlier k printed } in
    λ i. entry (kind (end i))

-- ---- a printed reply that is not the machine's fails, though its filters may have answered other tables

same_made : (s : State) (old : At) (es : List Edit) (filters : List FilterState) (reply printed : Reply) (r q : Result At Refused)
    → apply_group old es (tables_for filters (cond (is_changed reply) es [])) ≡ r
    → apply_group old es (tables_for filters (cond (is_changed printed) es [])) ≡ q
    → refused_in r ≡ refused_in q
    → reply ≡ (made s old es (tables_for filters (cond (is_changed reply) es [])) r).reply
    → printed ≡ (made s old es (tables_for filters (cond (is_changed printed) es [])) q).reply → printed ≡ reply
same_made s old es filters reply printed (Err a) (Err b) p q same is shown =
    let e : a ≡ b = cc in
    shown ∙ (λ i. machine.refused (sym e i).index (sym e i).cause) ∙ sym is
same_made s old es filters reply printed (Ok m) (Err b) p q same is shown = cc
same_made s old es filters reply printed (Err a) (Ok n) p q same is shown = cc
same_made s old es filters reply printed (Ok m) (Ok n) p q same is shown =
    let changed : is_changed reply ≡ true = ap is_changed is in
    let also : is_changed printed ≡ true = ap is_changed shown in
    let tables : is_changed printed ≡ is_changed reply = also ∙ sym changed in
    let e : Ok n ≡ Ok m = sym q ∙ (ap (λ (b : Bool). apply_group old es (tables_for filters (cond b es []))) tables ∙ p) in
    let f : n ≡ m = cc in
    shown ∙ (λ i. machine.changed (latest s + 1) s.next_group (f i).next) ∙ sym is

pub same_reply : (base : Document) (s : State) (c : Call) (filters : List FilterState) (reply printed : Reply) → IsPlainCall c
    → reply ≡ (answer base s c (tables_for filters (edits_made c reply))).reply
    → printed ≡ (answer base s c (tables_for filters (edits_made c printed))).reply → printed ≡ reply
same_reply base s (machine.edit guard es) filters reply printed plain is shown =
    let old : At = record { document = document_at base s (latest s); next = s.next_id } in
    let T : Reply → List (List ℕ) = λ r. tables_for filters (cond (is_changed r) es []) in
    let by : (b : Bool)
    → reply ≡ (cond b (made s old es (T reply) (apply_group old es (T reply))) (stays s (machine.moved (latest s)))).reply
    → printed ≡ (cond b (made s old es (T printed) (apply_group old es (T printed))) (stays s (machine.moved (latest s)))).reply
    → printed ≡ reply = λ b. elim b as (λ v.
    reply ≡ (cond v (made s old es (T reply) (apply_group old es (T reply))) (stays s (machine.moved (latest s)))).reply
    → printed ≡ (cond v (made s old es (T printed) (apply_group old es (T printed))) (stays s (machine.moved (latest s)))).reply
    → printed ≡ reply) [
      | true ↦ λ p q. same_made s old es filters reply printed (apply_group old es (T reply)) (apply_group old es (T printed)) refl refl
          (same_refused 0 old old es (T reply) (T printed) refl refl) p q
      | false ↦ λ p q. q ∙ sym p
    ] in
    by (names guard (latest s)) is shown
same_reply base s (machine.undo named) filters reply printed plain is shown = shown ∙ sym is
same_reply base s machine.redo filters reply printed plain is shown = shown ∙ sym is
same_reply base s (machine.tile stack at) filters reply printed plain is shown = shown ∙ sym is
same_reply base s (machine.peek stack at) filters reply printed plain is shown = absurd plain
same_reply base s machine.top filters reply printed plain is shown = shown ∙ sym is

-- ---- a peek of a tile that is not there

abbrev pub IsAway : Reply → Type 0
IsAway reply = ((node : ℕ) × (reply ≡ machine.no_stack node)) ⊎ (reply ≡ machine.outside_tile)

meets_away : (o : Option ℕ) (node : ℕ) → MeetsKept o (machine.no_stack node) × MeetsKept o machine.outside_tile
meets_away None node = (tt, tt)
meets_away (Some k) node = (tt, tt)

away_case : (P : Reply → Type 0) (reply : Reply) → IsAway reply → ((node : ℕ) → P (machine.no_stack node)) → P machine.outside_tile → P reply
away_case P reply away no_stack outside = elim away [
  | inl none ↦ subst P (sym none.1) (no_stack none.0)
  | inr out ↦ subst P (sym out) outside
]

pub away_passes : (base : Document) (earlier : List Entry) (session index stack : ℕ) (at : TileAt) (tables : List (List ℕ)) (reply : Reply)
    → index ≡ next_index earlier session → IsAway reply → (answer base (replay base earlier) (machine.peek stack at) tables).reply ≡ reply
    → IsAllowed base earlier (record { session = session; index = index; kind = asked (machine.peek stack at) tables; reply = reply }) []
away_passes base earlier session index stack at tables reply index_is away is =
    let st = replay base earlier in
    let P : Reply → Type 0 = λ plain. PeekAnswers base st stack plain reply in
    record {
      step = (
        index_is,
        subst P (sym is) (away_case (λ r. PeekAnswers base st stack r r) reply away (λ node. refl) refl),
      );
      fresh = away_case (IsFreshReply (seen_by earlier session)) reply away (λ node. tt) tt;
      kept = away_case (MeetsKept (kept base earlier stack at)) reply away (λ node. (meets_away (kept base earlier stack at) node).0)
          (meets_away (kept base earlier stack at) 0).1;
      shown = away_case (λ r. [] ≡ shown_digest base earlier (asked (machine.peek stack at) tables) r) reply away (λ node. refl) refl;
    }

pub passes_away : (base : Document) (earlier : List Entry) (session index stack : ℕ) (at : TileAt) (tables : List (List ℕ))
    (reply printed : Reply) (digest : List ℕ) → IsAway reply
    → (answer base (replay base earlier) (machine.peek stack at) tables).reply ≡ reply
    → IsAllowed base earlier (record { session = session; index = index; kind = asked (machine.peek stack at) tables; reply = printed })
    digest
    → (printed ≡ reply) × (digest ≡ [])
passes_away base earlier session index stack at tables reply printed digest away is allowed =
    let st = replay base earlier in
    let P : Reply → Type 0 = λ plain. PeekAnswers base st stack plain printed in
    let same : printed ≡ reply =
    away_case (λ r. PeekAnswers base st stack r printed → printed ≡ r) reply away (λ node e. e) (λ e. e) (subst P is allowed.step.1) in (
      same,
      allowed.shown ∙ ap (shown_digest base earlier (asked (machine.peek stack at) tables)) same
          ∙ away_case (λ r. shown_digest base earlier (asked (machine.peek stack at) tables) r ≡ []) reply away (λ node. refl) refl,
    )

-- ---- saves

pub start_passes : (base : Document) (earlier : List Entry) (session index : ℕ) (digest : List ℕ) → index ≡ next_index earlier session
    → (replay base earlier).out ≡ None
    → IsAllowed base earlier (record {
      session = session;
      index = index;
      kind = starts;
      reply = machine.saved (latest (replay base earlier));
    }) digest
start_passes base earlier session index digest index_is none = record { step = (index_is, none, refl); fresh = tt; kept = tt; shown = tt }

fresh_end : (version seen : ℕ) (r : Reply) → EndsWith version r → IsFreshReply seen r
fresh_end version seen (machine.saved v) is = tt
fresh_end version seen (machine.save_fault v) is = tt
fresh_end version seen (machine.save_memory v) is = tt
fresh_end version seen (machine.tile_of v) is = absurd is
fresh_end version seen (machine.stale have said) is = absurd is
fresh_end version seen (machine.changed v group next) is = tt
fresh_end version seen (machine.refused index cause) is = tt
fresh_end version seen (machine.moved now) is = tt
fresh_end version seen machine.nothing_to_undo is = tt
fresh_end version seen machine.nothing_to_redo is = tt
fresh_end version seen (machine.not_top group) is = tt
fresh_end version seen (machine.no_stack node) is = tt
fresh_end version seen machine.outside_tile is = tt
fresh_end version seen (machine.top_is group v) is = tt
fresh_end version seen machine.history_full is = tt

-- the end of the save that is out passes just where it ends with its version
pub end_passes : (base : Document) (earlier : List Entry) (session index : ℕ) (out : Saving) (printed : Reply) (digest : List ℕ)
    → (replay base earlier).out ≡ Some out → session ≡ out.session → index ≡ out.index → EndsWith out.version printed
    → IsAllowed base earlier (record { session = session; index = index; kind = ends; reply = printed }) digest
end_passes base earlier session index out printed digest is session_is index_is end =
    let P : Option Saving → Type 0 = λ x. MayEnd x session index printed in
    record {
      step = subst P (sym is) (session_is, index_is, end);
      fresh = fresh_end out.version (seen_by earlier session) printed end;
      kept = tt;
      shown = tt;
    }

pub passes_end : (base : Document) (earlier : List Entry) (session index : ℕ) (out : Saving) (printed : Reply) (digest : List ℕ)
    → (replay base earlier).out ≡ Some out
    → IsAllowed base earlier (record { session = session; index = index; kind = ends; reply = printed }) digest
    → EndsWith out.version printed
passes_end base earlier session index out printed digest is allowed =
    let P : Option Saving → Type 0 = λ x. MayEnd x session index printed in
    (subst P is allowed.step).2

-- ---- what was seen

now_latest : (now : ℕ) (es : List Entry) → now_after now es ≡ now + latest_of es
now_latest now [] = omega arith
now_latest now (e ∷ es) =
    let rest = now_latest (cond (is_changed e.reply) (now + 1) now) es in
    let counted = latest_of-cons e es in
    let sum = go (is_changed e.reply) in
    omega (arith, rest, counted, sum)
  where
    go : (b : Bool) → cond b (now + 1) now + latest_of es ≡ now + (cond b 1 0 + latest_of es)
    go true = omega arith
    go false = omega arith

-- the session of the last entry has seen the version that stands behind it, and the others what they had seen
pub seen_snoc : (base : Document) (earlier : List Entry) (e : Entry) (session : ℕ) → IsLegal base (earlier ++ e ∷ [])
    → seen_by (earlier ++ e ∷ []) session
    ≡ cond (e.session == session) (latest (replay base (earlier ++ e ∷ []))) (seen_by earlier session)
seen_snoc base earlier e session legal =
    let n = now_after 0 earlier in
    let counted : now_after 0 (earlier ++ e ∷ []) ≡ latest_of (earlier ++ e ∷ []) =
    let all = now_latest 0 (earlier ++ e ∷ []) in omega (arith, all) in
    let now : cond (is_changed e.reply) (n + 1) n ≡ latest (replay base (earlier ++ e ∷ [])) =
    sym (now_append 0 earlier e) ∙ (counted ∙ latest_of-legal base (earlier ++ e ∷ []) legal) in
    seen_append session 0 0 earlier (e ∷ []) ∙ ap (λ (v : ℕ). cond (e.session == session) v (seen_by earlier session)) now

-- so it is with the numbers that the code keeps
pub seen_set : (base : Document) (earlier : List Entry) (e : Entry) (seen : List ℕ) (version : ℕ) → IsLegal base (earlier ++ e ∷ [])
    → length seen ≡ 8 → e.session < 8 → version ≡ latest (replay base (earlier ++ e ∷ []))
    → ((session : ℕ) → session < 8 → slice_index seen session ≡ seen_by earlier session)
    → (session : ℕ) → session < 8 → slice_index (slice_set seen e.session version) session ≡ seen_by (earlier ++ e ∷ []) session
seen_set base earlier e seen version legal eight within is before session here =
    let inside : e.session < length seen = omega (arith, within, eight) in
    let step = seen_snoc base earlier e session legal in
    elim (eqb_tells e.session session) [
      | inl same ↦
          let at : slice_index (slice_set seen e.session version) e.session ≡ version = get_or-set_same seen e.session version 0 inside in
          ap (λ (i : ℕ). slice_index (slice_set seen e.session version) i) (sym same.1) ∙ (at ∙ (is
          ∙ sym (step ∙ ap (λ (b : Bool). cond b (latest (replay base (earlier ++ e ∷ []))) (seen_by earlier session)) same.0)))
      | inr other ↦
          let at : slice_index (slice_set seen e.session version) session ≡ slice_index seen session =
          get_or-set_other seen e.session session version 0 (λ p. other.1 (sym p)) in
          at ∙ (before session here
          ∙ sym (step ∙ ap (λ (b : Bool). cond b (latest (replay base (earlier ++ e ∷ []))) (seen_by earlier session)) other.0))
    ]

-- ---- the filters

-- those of the session of the last entry were asked as its call says, and those of the others were not
pub filters_here : (filters : List FilterState) (earlier : List Entry) (e : Entry)
    → filters_along filters (mine (earlier ++ e ∷ []) e.session)
    ≡ filters_after (filters_along filters (mine earlier e.session)) e.kind e.reply
filters_here filters earlier e =
    let f = filters_along filters (mine earlier e.session) in
    let same : (e.session == e.session) ≡ true = eq-eqb e.session e.session refl in
    filters_snoc filters earlier e e.session
    ∙ ap (λ (b : Bool). filters_along f (cond b (e ∷ []) [])) same

pub filters_elsewhere : (filters : List FilterState) (earlier : List Entry) (e : Entry) (session : ℕ) → (e.session == session) ≡ false
    → filters_along filters (mine (earlier ++ e ∷ []) session) ≡ filters_along filters (mine earlier session)
filters_elsewhere filters earlier e session other =
    let f = filters_along filters (mine earlier session) in
    filters_snoc filters earlier e session ∙ ap (λ (b : Bool). filters_along f (cond b (e ∷ []) [])) other
