-- What comes of a line of a session, by how it went.
use Rattle.std.proofs.Common.{◌≡◌, ℕ, ◌≤◌, List, [], ◌∷◌, ◌++◌, append-nil, refl, sym, ◌∙◌, arith, true≢false}
use Rattle.std.specs.Prelude.{Option, None, slice_set, Result, Ok, Err, IfErr, IsErr, IsErrAnd, OnOk}
use Rattle.spec_document.specs.Document.{Document}
use Rattle.spec_filters.specs.declared.FilterState.{FilterState}
use Rattle.spec_history.specs.Machine.{Reply}
use Rattle.spec_script.specs.Script.{save, forget}
use Rattle.xl_ports.specs.State.{ShelfState}
use Rattle.xl_run.specs.Printing.{IsPrinted}
use Rattle.xl_run.specs.declared.unplayed.Unplayed.{Unplayed}
use Rattle.xl_run.specs.declared.unplayed.Unplayed.TheVariants.{HistoryFull, Memory}
use Rattle.xl_studio.specs.Calling.{Known}
use Rattle.xl_studio.specs.declared.moment.Moment.{Moment}
use Rattle.xl_studio.specs.declared.seat.Seat.{Seat}
use Rattle.xl_studio.specs.declared.seat.Studio.{Studio}
use Rattle.xl_studio.specs.Saving.{IsSaved}
use Rattle.xl_studio.specs.Seats.{known_by}
use Rattle.xl_studio.specs.State.{State}
use Rattle.xl_turn.specs.declared.view.Chronicle.{Ghosts}
use Rattle.xl_sessions.specs.Full.{most_made, MakesAtMost}
use Rattle.xl_sessions.specs.Keeping.{CanGoOn}
use Rattle.xl_sessions.specs.Lines.{IsLinePlayed, own_of}
use Rattle.xl_sessions.specs.Playing.{IsLineMade}
use Rattle.xl_sessions.proofs.Begun.{forget_begun}
use Rattle.xl_sessions.proofs.Keeps.{keeps_same}

pub no_ok : {A E : Type 0} (P : Type 0) (result : Result A E) → IsErr result → OnOk result P
no_ok P (Ok x) err = absurd (true≢false (sym err))
no_ok P (Err e) err = tt

-- memory ran out, and so the history was not found full
pub memory_stop : {A : Type 0} (P : Type 0) (result : Result A Unplayed) → IsErrAnd result (λ given. given ≡ Memory)
    → IfErr result (λ why. why ≡ HistoryFull → P)
memory_stop P (Ok x) is = tt
memory_stop P (Err why) is = λ full. let bad : Memory ≡ HistoryFull = sym is ∙ full in cc

pub at_most : {K : Type 0} (few most : ℕ) (old new : Known K) → few ≤ most → MakesAtMost few old new → MakesAtMost most old new
at_most few most old new le made = omega (arith, le, made)

-- a save that was answered, and printably, was made, and says nothing of a tile
pub save_told : {K E : Type 0} {see : K → ShelfState} {opening : K} {base : Document} {session : ℕ} {old new : Known K}
    (result : Result (Unit {0}) E) (chest : List (Option FilterState)) (digests : List (List ℕ)) (reply : Reply)
    → IsSaved see opening base session reply old new → OnOk result (IsPrinted reply)
    → OnOk result ((told : List (List ℕ)) × (digests ≡ digests ++ told)
    × IsLineMade see opening base session save chest chest old new told)
save_told (Ok x) chest digests reply saved printed =
    ([], sym (append-nil digests), (record { reply = reply; saved = saved; printed = printed }, refl, refl))
save_told (Err e) chest digests reply saved printed = tt

-- where its reply is that the history is full, that is known
pub save_stop : {A P Q : Type 0} (result : Result A Unplayed) → IfErr result (λ why. why ≡ HistoryFull → P) → (P → Q)
    → IfErr result (λ why. why ≡ HistoryFull → (most_made (save ∷ []) ≡ 2) × Q)
save_stop (Ok x) full known = tt
save_stop (Err why) full known = λ so. (refl, known (full so))

-- a filter that is dropped makes nothing
pub forget_played : {K : Type 0} {C : Ghosts (State K) (Moment K)} (see : K → ShelfState) (studio : Studio K) (session slot : ℕ)
    (seat : Seat K C) (before after : List (Option FilterState)) (digests : List (List ℕ)) → CanGoOn studio session seat
    → after ≡ slice_set before slot None
    → IsLinePlayed see studio session (forget slot) (Ok record {}) seat seat before after digests digests
forget_played see studio session slot seat before after digests can without = record {
  keeps = keeps_same studio session seat can.seated can.of;
  begun = λ filters agrees. forget_begun filters slot (own_of (known_by seat));
  made = ([], sym (append-nil digests), (refl, without, refl));
  count = omega arith;
  full = tt;
}
