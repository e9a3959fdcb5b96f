-- What is found of a word, by the calls of the sessions.
use Rattle.std.proofs.Common.{◌≡◌, ℕ, ◌+◌, ◌<◌, Bool, true, false, List, sym, ◌∙◌, ap, subst}
use Rattle.std.specs.Prelude.{Option, slice_index, slice_set}
use Rattle.spec_document.specs.declared.TileAt.{TileAt}
use Rattle.spec_filters.specs.declared.FilterState.{FilterState}
use Rattle.spec_history.specs.Calls.{IsCall}
use Rattle.spec_history.specs.History.{Entry}
use Rattle.spec_history.specs.Limited.{edits_of}
use Rattle.spec_history.specs.Machine as machine
use Rattle.spec_history.specs.Machine.{Call, Reply}
use Rattle.spec_script.specs.Script as lines
use Rattle.spec_script.specs.Script.{Line}
use Rattle.spec_tables.specs.Agrees.{Agrees, AreThere}
use Rattle.spec_text.specs.declared.OrderWord.{OrderWord}
use Rattle.spec_audit.specs.Deciding.{IsPlainCall}
use Rattle.spec_audit.specs.Output.{Printed, Output}
use Rattle.spec_audit.specs.Walk.{Start, call_at, printed_at}
use Rattle.xl_audit.specs.Auditing.{FitsChest}
use Rattle.xl_judging.specs.Calls.{calls_in, line_in, IsNoCall}
use Rattle.xl_judging.specs.Judging.{end_fits}
use Rattle.xl_judging.specs.Versions.{version_named, WantsIfAny}
use Rattle.xl_audit.specs.Walking.{HasCome, IsNextWord, IsJudged, IsPeeked, IsCalled, filters_at}
use Rattle.xl_audit.specs.declared.walk.Walk.{Walk}
use Rattle.xl_judging.proofs.Calling.{line_is}
use Rattle.xl_audit.proofs.Called.{called}
use Rattle.xl_audit.proofs.Peeked.{peeked}
use Rattle.xl_audit.proofs.Saved.{started, ended}

word_call : (scripts calls : List (List Line)) (w : OrderWord) (c : Call) → calls ≡ calls_in scripts → w.session < 8
    → line_in calls w ≡ lines.call c → call_at scripts w ≡ lines.call c
word_call scripts calls w c is lt line = sym (line_is scripts calls w is lt) ∙ line

pub word_started : (s : Start) (o : Output) (earlier : List Entry) (w : OrderWord) (calls : List (List Line)) (old new : Walk)
    (chest : List (Option FilterState)) → calls ≡ calls_in s.scripts → IsNextWord s o earlier w → HasCome s.base earlier old
    → Agrees chest (filters_at s earlier w.session) → w.end ≡ false → IsNoCall (line_in calls w)
    → new.made ≡ slice_set old.made w.session (slice_index old.made w.session + 1)
    → new.seen ≡ slice_set old.seen w.session old.standing.version → new.standing ≡ old.standing → new.versions ≡ old.versions
    → new.out ≡ old.standing.version → IsJudged s o earlier w true new chest
word_started s o earlier w calls old new chest calls_are next has agrees no_end no_call made seen same versions out =
    started s o earlier w old new chest next no_end (subst IsNoCall (line_is s.scripts calls w calls_are next.eight) no_call) has agrees
    made seen same versions out

pub word_ended : (s : Start) (o : Output) (earlier : List Entry) (w : OrderWord) (old new : Walk) (chest : List (Option FilterState))
    (passed : Bool) (r : Reply) → IsNextWord s o earlier w → HasCome s.base earlier old → Agrees chest (filters_at s earlier w.session)
    → w.end ≡ true → r ≡ (printed_at o.replies w).reply → passed ≡ end_fits old.out r → new.made ≡ old.made
    → new.seen ≡ slice_set old.seen w.session old.standing.version → new.standing ≡ old.standing → new.versions ≡ old.versions
    → new.out ≡ old.out → IsJudged s o earlier w passed new chest
word_ended s o earlier w old new chest passed r next has agrees end is judged made seen same versions out =
    ended s o earlier w old new chest passed next end has agrees (judged ∙ ap (end_fits old.out) is) made seen same versions out

pub word_called : (s : Start) (o : Output) (earlier : List Entry) (w : OrderWord) (calls : List (List Line)) (old new : Walk) (c : Call)
    (before after : List (Option FilterState)) (passed : Bool) (printed : Printed) → calls ≡ calls_in s.scripts
    → IsNextWord s o earlier w → HasCome s.base earlier old → Agrees before (filters_at s earlier w.session) → w.end ≡ false
    → FitsChest before (line_in calls w) → line_in calls w ≡ lines.call c → IsPlainCall c
    → IsCalled old w.session c printed before after passed new → printed ≡ printed_at o.replies w
    → IsJudged s o earlier w passed new after
word_called s o earlier w calls old new c before after passed printed calls_are next has agrees no_end fits line plain made is =
    let there : IsCall c × AreThere before (edits_of c) = subst (FitsChest before) line fits in
    called s o earlier w next no_end old new c before after passed (word_call s.scripts calls w c calls_are next.eight line) plain
    there.0 has agrees (subst (λ (p : Printed). IsCalled old w.session c p before after passed new) is made)

pub word_peeked : (s : Start) (o : Output) (earlier : List Entry) (w : OrderWord) (calls : List (List Line)) (old new : Walk)
    (stack : ℕ) (at : TileAt) (chest : List (Option FilterState)) (passed : Bool) (printed : Printed) → calls ≡ calls_in s.scripts
    → IsNextWord s o earlier w → HasCome s.base earlier old → Agrees chest (filters_at s earlier w.session)
    → WantsIfAny old.versions.wanted.items (version_named (call_at s.scripts w) (printed_at o.replies w).reply) → w.end ≡ false
    → line_in calls w ≡ lines.call (machine.peek stack at) → IsPeeked old w.session stack at printed passed new
    → printed ≡ printed_at o.replies w → IsJudged s o earlier w passed new chest
word_peeked s o earlier w calls old new stack at chest passed printed calls_are next has agrees wants no_end line judged is =
    let found = subst (λ (p : Printed). IsPeeked old w.session stack at p passed new) is judged in
    peeked s o earlier w next no_end stack at (word_call s.scripts calls w (machine.peek stack at) calls_are next.eight line) old has
    new chest passed agrees found.standing found.counted wants found.judged
