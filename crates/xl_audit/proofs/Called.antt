-- A call other than a peek passes, and the walk has come through its entry, or it fails.
use Rattle.std.proofs.Common.{◌≡◌, ℕ, ◌+◌, ◌<◌, Bool, true, false, List, [], ◌∷◌, ◌++◌, length, refl, sym, ◌∙◌}
use Rattle.std.proofs.Common.{ap, subst, arith}
use Rattle.std.specs.Prelude.{Option, slice_index, slice_set, MatchBool, slice_get, unwrap_or}
use Rattle.spec_document.specs.Document.{Document}
use Rattle.spec_filters.specs.declared.FilterState.{FilterState}
use Rattle.spec_history.specs.Calls.{IsCall}
use Rattle.spec_history.specs.declared.TheConstants.{MAX_ENTRIES}
use Rattle.spec_history.specs.Machine as machine
use Rattle.spec_history.specs.Machine.{Call, Reply, latest, answer}
use Rattle.spec_history.specs.History.{Entry, asked, replay, is_changed}
use Rattle.spec_script.specs.Script as lines
use Rattle.spec_tables.specs.Agrees.{Agrees}
use Rattle.spec_tables.specs.Tables.{edits_made, expected_tables, tables_for}
use Rattle.spec_tables.proofs.Made.{tables_made, filters_made}
use Rattle.spec_text.specs.declared.OrderWord.{OrderWord}
use Rattle.spec_text.specs.Text.{shown_digest}
use Rattle.spec_world.specs.World.{entries_owed}
use Rattle.spec_world.specs.Events as events
use Rattle.xl_standing.proofs.Between.{leaves-between}
use Rattle.xl_standing.proofs.Joined.{group-joined}
use Rattle.spec_audit.specs.Output.{Printed, Output}
use Rattle.spec_audit.specs.Reading.{plain}
use Rattle.spec_audit.specs.Walk.{Start, call_at, printed_at, entry_at, IsAllowed}
use Rattle.spec_audit.specs.Deciding.{IsPlainCall}
use Rattle.spec_audit.proofs.Decides.{plain_passes, passes_plain}
use Rattle.spec_audit.proofs.Going as going
use Rattle.spec_standing.specs.Now.{Now, world_of, Stands}
use Rattle.spec_standing.proofs.GoesOn.{GoesOn, goes_on, shows}
use Rattle.xl_judging.specs.Judging.{digest_with}
use Rattle.xl_audit.specs.Walking.{HasCome, IsNextWord, IsJudged, IsCounted, IsCalled, filters_at}
use Rattle.xl_audit.specs.declared.walk.Walk.{Walk}
use Rattle.xl_audit.proofs.Entering.{come_called}
use Rattle.xl_audit.proofs.Shown.{called_digest}

version_now : (base : Document) (es : List Entry) (now : Now) (made : List ℕ) → Stands base es now made
    → now.version ≡ latest (replay base es)
version_now base es now made stands = ap (λ (n : Now). n.version) stands.is_now

-- ---- calls other than peeks

plain_says : (base : Document) (es : List Entry) (now : Now) (c : Call) (seen : ℕ) (tables : List (List ℕ)) → IsPlainCall c
    → events.reply_to base (world_of base es now.cache) c seen tables ≡ (answer base (replay base es) c tables).reply
plain_says base es now (machine.edit guard edits) seen tables plain = refl
plain_says base es now (machine.undo named) seen tables plain = refl
plain_says base es now machine.redo seen tables plain = refl
plain_says base es now (machine.tile stack at) seen tables plain = refl
plain_says base es now (machine.peek stack at) seen tables plain = absurd plain
plain_says base es now machine.top seen tables plain = refl

module _ (s : Start) (o : Output) (earlier : List Entry) (w : OrderWord) (next : IsNextWord s o earlier w) (no_end : w.end ≡ false) where
  pub called : (old new : Walk) (c : Call) (before after : List (Option FilterState)) (passed : Bool)
      → call_at s.scripts w ≡ lines.call c → IsPlainCall c → IsCall c → HasCome s.base earlier old
      → Agrees before (filters_at s earlier w.session)
      → (made : IsCalled old w.session c (printed_at o.replies w) before after passed new)
      → IsJudged s o earlier w passed new after
  called old new c before after passed line plain_call is_call has agrees made = go passed made.judged made.counted where
    printed : Printed
    printed = printed_at o.replies w

    filters : List FilterState
    filters = filters_at s earlier w.session

    -- the entry, with what the walk has made of it
    e : Entry
    e = record {
      session = w.session;
      index = slice_index old.made w.session;
      kind = asked c made.tables;
      reply = made.reply;
    }

    room : length earlier + entries_owed (replay s.base earlier).out < MAX_ENTRIES
    room = let few = next.few no_end in omega (arith, few)

    goes : GoesOn s.base earlier old.standing old.made w.session c old.standing.version made.tables made.reply new.standing
    goes =
        let version = version_now s.base earlier old.standing old.made has.stands in
        goes_on leaves-between group-joined s.base earlier old.standing new.standing old.made w.session c old.standing.version
        made.tables made.reply has.stands has.eight_made next.eight (omega (arith, version)) room is_call made.within made.given

    says : made.reply ≡ (answer s.base (replay s.base earlier) c made.tables).reply
    says = goes.says ∙ plain_says s.base earlier old.standing c old.standing.version made.tables plain_call

    digest : digest_with made.reply made.bytes ≡ shown_digest s.base earlier (asked c made.tables) made.reply
    digest =
        called_digest s.base earlier e c made.tables made.reply made.bytes plain_call says
        (shows s.base (earlier ++ e ∷ []) old.standing new.standing
        (slice_set old.made w.session (slice_index old.made w.session + 1)) c old.standing.version made.tables made.reply made.bytes
        made.given goes.stands made.shown)

    index : w.index ≡ slice_index old.made w.session
    index = next.index no_end ∙ sym (has.stands.indices w.session next.eight)

    -- the tables are those of the filters at this place
    expected : printed.reply ≡ made.reply → expected_tables filters (asked c []) printed.reply ≡ made.tables
    expected same =
        tables_made filters c [] printed.reply
        ∙ (ap (λ (r : Reply). tables_for filters (edits_made c r)) same ∙ sym (made.asked.answers filters agrees))

    entry_is : printed.reply ≡ made.reply → entry_at s o earlier w ≡ e
    entry_is same =
        going.entry_call s o earlier w c line no_end
        ∙ (λ i. record { session = w.session; index = index i; kind = asked c (expected same i); reply = same i })

    go : (b : Bool)
        → MatchBool b (printed ≡ record { reply = made.reply; digest = digest_with made.reply made.bytes })
        (printed ≡ record { reply = made.reply; digest = digest_with made.reply made.bytes } → ⊥)
        → (b ≡ true → IsCounted old new w.session (is_changed made.reply))
        → IsJudged s o earlier w b new after
    go true same counts =
        let reply : printed.reply ≡ made.reply = ap (λ (p : Printed). p.reply) same in
        let shown : printed.digest ≡ shown_digest s.base earlier (asked c made.tables) made.reply =
        ap (λ (p : Printed). p.digest) same ∙ digest in
        let is = entry_is reply in
        let allowed : IsAllowed s.base earlier e printed.digest =
        plain_passes s.base earlier w.session (slice_index old.made w.session) c made.tables made.reply printed.digest plain_call
        has.stands.legal.run (has.stands.indices w.session next.eight) (record { reply_is = says; digest_is = shown }) in
        let come = come_called s.base earlier old new w.session c made.tables made.reply has next.eight room goes (counts refl) in
        let F : List Entry → List FilterState = λ es. filters_at s es w.session in
        let used : Agrees after (F (earlier ++ e ∷ [])) =
        subst (Agrees after)
        (sym (going.filters_here (unwrap_or (slice_get s.chests w.session) []) earlier e ∙ filters_made filters c made.tables made.reply))
        (made.asked.used.states filters agrees) in (
          subst (λ (x : Entry). IsAllowed s.base earlier x printed.digest) (sym is) allowed,
          subst (λ (x : Entry). HasCome s.base (earlier ++ x ∷ []) new) (sym is) come,
          subst (λ (x : Entry). Agrees after (F (earlier ++ x ∷ []))) (sym is) used,
        )
    go false other counts = λ pass.
        let T = expected_tables filters (asked c []) printed.reply in
        let allowed : IsAllowed s.base earlier (record {
          session = w.session;
          index = w.index;
          kind = asked c T;
          reply = printed.reply;
        }) printed.digest =
        subst (λ (x : Entry). IsAllowed s.base earlier x printed.digest) (going.entry_call s o earlier w c line no_end) pass in
        let is = passes_plain s.base earlier w.session w.index c T printed.reply printed.digest plain_call allowed in
        let A : List (List ℕ) → Reply = λ ts. (answer s.base (replay s.base earlier) c ts).reply in
        let same : printed.reply ≡ made.reply =
        going.same_reply s.base (replay s.base earlier) c filters made.reply printed.reply plain_call
        (says ∙ ap A (made.asked.answers filters agrees)) (is.reply_is ∙ ap A (tables_made filters c [] printed.reply)) in
        let shown : printed.digest ≡ digest_with made.reply made.bytes =
        is.digest_is ∙ ((λ i. shown_digest s.base earlier (asked c (expected same i)) (same i)) ∙ sym digest) in
        other (λ i. record { reply = same i; digest = shown i })
