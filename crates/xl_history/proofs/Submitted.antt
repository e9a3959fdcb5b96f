-- A call of a core as the event of its world, and as the machine answers it.
use Rattle.std.proofs.Common.{◌≡◌, ℕ, ◌+◌, ◌-◌, ◌≤◌, Bool, true, false, cond, ◌==◌, nat_le, List, [], ◌∷◌, ◌++◌}
use Rattle.std.proofs.Common.{length, refl, sym, ◌∙◌, subst, arith}
use Rattle.std.specs.Prelude.{MatchBool, Option, Result, IfOk, IfSome}
use Rattle.std.proofs.lemmas.Bool.Decides.{nat_tests}
use Rattle.spec_document.specs.Document.{Document}
use Rattle.spec_history.specs.Machine as machine
use Rattle.spec_history.specs.History.{asked, replay, next_index}
use Rattle.spec_history.specs.declared.TheConstants.{MAX_ENTRIES}
use Rattle.spec_world.specs.World.{World, entries_owed, free_entries}
use Rattle.spec_world.specs.Events as events
use Rattle.spec_world.specs.Events.{Outcome}
use Rattle.xl_desk.specs.Applicable.{IsNoPeek}
use Rattle.spec_cache.specs.Cache.{install}
use Rattle.spec_filters.specs.declared.FilterState.{FilterState}
use Rattle.spec_history.specs.Machine.{Call, Reply, answer}
use Rattle.spec_history.proofs.Versions.{latest_of-legal}
use Rattle.spec_world.specs.Right as worlds
use Rattle.xl_compose.specs.Job.{Job, StandsFor}
use Rattle.xl_compose.specs.declared.clean.Done.{Done}
use Rattle.xl_history.specs.Editing.{Editing, world, IsSubmitted, IsPictureOf}
use Rattle.xl_desk.specs.Places.{place_done}
use Rattle.spec_tables.specs.Agrees.{IsPartAfter}
use Rattle.spec_standing.specs.History.{History, Answers, reply_to, is_accepted, with_call}
use Rattle.spec_standing.specs.Now.{Now, with_cache, Stands}
use Rattle.spec_standing.proofs.Pictures.{stands-finished}

-- the history and the pictures are what a call makes of those of a core
abbrev pub IsMadeOf : {K : Type 0} → Editing K → (base : Document) (new : World) (session : ℕ) → Call → (seen : ℕ)
    → (tables : List (List ℕ)) → Reply → Type 0
IsMadeOf old base new session call seen tables reply =
    let o = events.submit old.history.base (world old) session call seen tables in
    (base ≡ old.history.base) × (reply ≡ o.reply) × (new ≡ o.world)

-- what is said of a core is said of it by another name
pub submitted_same : {K : Type 0} (one old : Editing K) → one ≡ old
    → (base : Document) (new : World) (session : ℕ) (call : Call) (seen : ℕ) (tables : List (List ℕ)) (reply : Reply)
    → IsMadeOf one base new session call seen tables reply → IsMadeOf old base new session call seen tables reply
submitted_same one old same base new session call seen tables reply is =
    subst (λ c. IsMadeOf c base new session call seen tables reply) same is

-- and of the filters that were asked
pub part_same : {K : Type 0} (one old : Editing K) (call : Call) (before after : List (Option FilterState)) → one ≡ old
    → IsPartAfter (is_accepted one.history call) before after call → IsPartAfter (is_accepted old.history call) before after call
part_same one old call before after same part = subst (λ e. IsPartAfter (is_accepted e.history call) before after call) same part

-- where a core stays, it stays right
pub right_same : {K : Type 0} (one old : Editing K) → one ≡ old → worlds.IsRight one.history.base (world one)
    → worlds.IsRight old.history.base (world old)
right_same one old same is = subst (λ c. worlds.IsRight c.history.base (world c)) same is

-- ---- calls that are no peeks

-- they are answered as the machine answers them
machine_reply : (base : Document) (w : World) (call : Call) (seen : ℕ) (tables : List (List ℕ)) → IsNoPeek call
    → events.reply_to base w call seen tables ≡ (answer base w.state call tables).reply
machine_reply base w (machine.edit guard edits) seen tables built = refl
machine_reply base w (machine.undo named) seen tables built = refl
machine_reply base w machine.redo seen tables built = refl
machine_reply base w (machine.tile stack at) seen tables built = refl
machine_reply base w (machine.peek stack at) seen tables built = absurd built
machine_reply base w machine.top seen tables built = refl

same_full : (most n : ℕ) → (most - n == 0) ≡ nat_le most n
same_full most n = grind (arith, nat_tests)

-- so the history goes on as the machine does
pub submitted_answers : {K : Type 0} (old new : Editing K) (session : ℕ) (call : Call) (seen : ℕ) (tables : List (List ℕ))
    (reply : Reply) → IsNoPeek call
    → IsSubmitted old session call seen tables reply new → Answers old.history session call tables reply new.history
submitted_answers old new session call seen tables reply built is =
    subst (λ b. MatchBool b full went)
    (same_full MAX_ENTRIES (length old.history.entries + entries_owed (replay old.history.base old.history.entries).out))
    (go (free_entries (world old) == 0) is.1 is.2)
  where
    w : World
    w = world old

    full : Type 0
    full = (reply ≡ machine.history_full) × (new.history ≡ old.history)

    went : Type 0
    went = (reply ≡ reply_to old.history call tables) × (new.history ≡ with_call old.history session call tables reply)

    stays : Outcome
    stays = record { reply = machine.history_full; world = w }

    made : Outcome
    made = record {
      reply = events.reply_to old.history.base w call seen tables;
      world =
          events.with_call old.history.base w session call tables (events.reply_to old.history.base w call seen tables);
    }

    go : (b : Bool) → reply ≡ (cond b stays made).reply → world new ≡ (cond b stays made).world → MatchBool b full went
    go true says same = (says, λ i. record { base = is.0 i; entries = (same i).entries })
    go false says same = (
      says ∙ machine_reply old.history.base w call seen tables built,
      (λ i. record { base = is.0 i; entries = (same i).entries })
          ∙ (λ i. record {
            base = old.history.base;
            entries = old.history.entries ++ record {
              session = session;
              index = next_index old.history.entries session;
              kind =
                  asked call tables;
              reply = sym says i;
            } ∷ [];
          }),
    )

-- ---- a picture that is handed in

pub stands_handed : (h : History) (now : Now) (made : List ℕ) (done : Done) → Stands h.base h.entries now made → IsPictureOf h done
    → Stands h.base h.entries (with_cache now (install (place_done done) done.version done.picture now.cache)) made
stands_handed h now made done stands is =
    let last = latest_of-legal h.base h.entries stands.legal in
    stands-finished h.base h.entries now made (place_done done) done.version done.picture stands
    (subst (λ n. done.version ≤ n) last is.version) is.has is.on_grid is.picture

-- ---- a job that is taken

pub job_same : {E : Type 0} (r : Result (Option Job) E) (d e : Document) (v n : ℕ) → d ≡ e → v ≡ n
    → IfOk r (λ job. IfSome job (λ j. StandsFor d j.stack j.at v j))
    → IfOk r (λ job. IfSome job (λ j. StandsFor e j.stack j.at n j))
job_same r d e v n document version is =
    subst (λ x. IfOk r (λ job. IfSome job (λ j. StandsFor e j.stack j.at x j))) version
    (subst (λ x. IfOk r (λ job. IfSome job (λ j. StandsFor x j.stack j.at v j))) document is)
