-- What a session has made of its lines so far, and one line more.
use Rattle.std.proofs.Common.{◌≡◌, ℕ, List, [], ◌∷◌, ◌++◌, append-nil, Option, None, sym, ap, ◌∙◌, subst, slice_set}
use Rattle.spec_document.specs.Document.{Document}
use Rattle.spec_filters.specs.declared.FilterState.{FilterState}
use Rattle.spec_history.specs.Machine.{Call}
use Rattle.spec_history.specs.History.{asked, latest_of}
use Rattle.spec_history.specs.Kept.{IsLegal}
use Rattle.xl_ports.specs.State.{ShelfState}
use Rattle.spec_script.specs.Script.{Line, call, save, forget}
use Rattle.spec_tables.specs.Agrees.{Agrees}
use Rattle.spec_tables.specs.Tables.{expected_tables}
use Rattle.spec_tables.proofs.Chests.{some_list}
use Rattle.spec_seats.specs.Picked.{picked, IsCaughtUp}
use Rattle.spec_seats.specs.Digests.{digests_in}
use Rattle.spec_seats.specs.Made.{HasMade, IsOf}
use Rattle.spec_tables.specs.Tables.{filters_along}
use Rattle.spec_seats.proofs.Entries.{picked-none}
use Rattle.spec_seats.proofs.More.{made_none, made_forget, caught_up_none}
use Rattle.spec_seats.proofs.Shown.{digests_none}
use Rattle.xl_studio.specs.Calling.{Known}
use Rattle.xl_studio.specs.Moments.{entries_in}
use Rattle.xl_sessions.specs.Playing.{IsCallMade, IsSaveMade, IsLineMade}
use Rattle.xl_sessions.proofs.CallMore.{IsCallMore, call_more, call_up, call_filters, call_told, call_made, call_said}
use Rattle.xl_sessions.proofs.SaveMore.{save_more, save_up, save_filters, save_told, save_made}
use Rattle.xl_run.proofs.Chests.{agrees_without}

module _ {K : Type 0} where
  -- The places of the session are those of the calls of these lines, whatever filters were in its chest. The chest has the filters
  -- as they are after them, the texts are the digests of what the session was shown, and it has seen the last version that it knows
  -- of.
  pub record IsSoFar (base : Document) (session : ℕ) (start now : List (Option FilterState)) (lines : List Line) (known : Known K)
      (texts : List (List ℕ)) : Type 0 where
    pub up : IsCaughtUp known.made (entries_in known.front)
    pub made : (filters : List FilterState) → Agrees start filters
        → HasMade session filters lines known.made (entries_in known.front)
    pub agrees : (filters : List FilterState) → Agrees start filters
        → Agrees now (filters_along filters (picked known.made (entries_in known.front)))
    pub told : texts ≡ digests_in base (entries_in known.front) (picked known.made (entries_in known.front))

  -- no line yet
  pub so_far_none : (base : Document) (session : ℕ) (start : List (Option FilterState)) (known : Known K) (texts : List (List ℕ))
      → known.made ≡ [] → latest_of (entries_in known.front) ≡ 0 → texts ≡ []
      → IsSoFar base session start start [] known texts
  so_far_none base session start known texts none unchanged blank =
      let es = entries_in known.front in
      record {
        up = subst (λ places. IsCaughtUp places es) (sym none) (caught_up_none es unchanged);
        made = λ filters agrees. subst (λ places. HasMade session filters [] places es) (sym none) (made_none session filters es);
        agrees = λ filters agrees. subst (λ places. Agrees start (filters_along filters (picked places es))) (sym none)
            (subst (λ mine. Agrees start (filters_along filters mine)) (sym (picked-none 0 es)) agrees);
        told = blank ∙ sym (ap (λ places. digests_in base es (picked places es)) none ∙ digests_none base es);
      }

  -- the entries are the session's
  pub so_far_of : {base : Document} {session : ℕ} {now : List (Option FilterState)} {lines : List Line} {texts : List (List ℕ)}
      (start : List (Option FilterState)) (known : Known K)
      → IsSoFar base session start now lines known texts → IsOf session known.made (entries_in known.front)
  so_far_of start known so_far = let some = some_list start in (so_far.made some.0 some.1).of

  module _ {base : Document} {session : ℕ} {start before : List (Option FilterState)} {lines : List Line} {old : Known K}
      {texts : List (List ℕ)}
      (legal : IsLegal base (entries_in old.front)) (so_far : IsSoFar base session start before lines old texts) where
    called_more : (c : Call) (after : List (Option FilterState)) (new : Known K) (said : List (List ℕ))
        (made : IsCallMade base session c before after old new said) (filters : List FilterState) → Agrees start filters
        → IsCallMore session c
        (expected_tables (filters_along filters (picked old.made (entries_in old.front))) (asked c []) made.reply)
        made.reply old.made (entries_in old.front) new.made (entries_in new.front)
    called_more c after new said made filters agrees =
        let now = filters_along filters (picked old.made (entries_in old.front)) in
        call_more base session c (expected_tables now (asked c []) made.reply) made.reply old new
        (made.replied.called now (so_far.agrees filters agrees)) made.printed

    so_far_call : (c : Call) (after : List (Option FilterState)) (new : Known K) (said : List (List ℕ))
        → IsCallMade base session c before after old new said
        → IsSoFar base session start after (lines ++ call c ∷ []) new (texts ++ said)
    so_far_call c after new said made =
        let es = entries_in old.front in
        let then_es = entries_in new.front in
        let of = so_far_of start old so_far in
        let some = some_list start in
        let tables : List (List ℕ) = expected_tables (filters_along some.0 (picked old.made es)) (asked c []) made.reply in
        let more = called_more c after new said made some.0 some.1 in
        record {
          up = call_up of more;
          made = λ filters agrees.
              call_made session filters lines c made.reply old.made es new.made then_es (so_far.made filters agrees) so_far.up
              (called_more c after new said made filters agrees) made.printed made.replied.fresh;
          agrees = λ filters agrees.
              subst (Agrees after) (sym (call_filters of (called_more c after new said made filters agrees) filters))
              (made.replied.chest.states (filters_along filters (picked old.made es)) (so_far.agrees filters agrees));
          told =
              (λ i. so_far.told i ++ (made.digests_are ∙ call_said base then_es c tables made.reply made.bytes made.replied.shown) i)
              ∙ sym (call_told of more base legal);
        }

    so_far_save : (see : K → ShelfState) (opening : K) (after : List (Option FilterState)) (new : Known K) (said : List (List ℕ))
        → IsSaveMade see opening base session old new → after ≡ before → said ≡ []
        → IsSoFar base session start after (lines ++ save ∷ []) new (texts ++ said)
    so_far_save see opening after new said made same silent =
        let es = entries_in old.front in
        let of = so_far_of start old so_far in
        let more = save_more see opening base session made.reply old new made.saved made.printed in
        record {
          up = save_up of more;
          made = λ filters agrees. save_made session filters lines made.reply old.made es new.made (entries_in new.front)
              (so_far.made filters agrees) more made.printed;
          agrees = λ filters agrees.
              subst (Agrees after) (sym (save_filters of more filters))
              (subst (λ chest. Agrees chest (filters_along filters (picked old.made es))) (sym same)
              (so_far.agrees filters agrees));
          told = ap (λ more. texts ++ more) silent ∙ append-nil texts ∙ so_far.told ∙ sym (save_told of more base legal);
        }

    so_far_forget : (slot : ℕ) (after : List (Option FilterState)) (new : Known K) (said : List (List ℕ)) → new ≡ old
        → after ≡ slice_set before slot None → said ≡ []
        → IsSoFar base session start after (lines ++ forget slot ∷ []) new (texts ++ said)
    so_far_forget slot after new said same without silent =
        let es = entries_in old.front in
        subst (λ known. IsSoFar base session start after (lines ++ forget slot ∷ []) known (texts ++ said)) (sym same)
        (record {
          up = so_far.up;
          made = λ filters agrees. made_forget session filters lines slot old.made es (so_far.made filters agrees);
          agrees = λ filters agrees.
              let now = filters_along filters (picked old.made es) in
              subst (λ chest. Agrees chest now) (sym without) (agrees_without before now slot (so_far.agrees filters agrees));
          told = ap (λ more. texts ++ more) silent ∙ append-nil texts ∙ so_far.told;
        })

    -- one line more
    pub so_far_line : (see : K → ShelfState) (opening : K) (line : Line) (after : List (Option FilterState)) (new : Known K)
        (said : List (List ℕ)) → IsLineMade see opening base session line before after old new said
        → IsSoFar base session start after (lines ++ line ∷ []) new (texts ++ said)
    so_far_line see opening (call c) after new said made = so_far_call c after new said made
    so_far_line see opening save after new said made = so_far_save see opening after new said made.0 made.1 made.2
    so_far_line see opening (forget slot) after new said made = so_far_forget slot after new said made.0 made.1 made.2
