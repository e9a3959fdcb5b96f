-- The jobs that are out stay right as the history goes on.
use Rattle.std.proofs.Common.{◌≡◌, ℕ, ◌+◌, ◌≤◌, Bool, true, false, cond, ◌==◌, List, [], ◌∷◌, ◌++◌}
use Rattle.std.proofs.Common.{sym, ◌∙◌, ap, subst, arith}
use Rattle.std.specs.Prelude.{Result, Ok, Err, IfOk, OnErr}
use Rattle.std.specs.List.{AllByRecursion}
use Rattle.std.proofs.lemmas.List.{append-nil}
use Rattle.spec_document.specs.Grid.{is_on_grid}
use Rattle.spec_document.specs.Picture.{project}
use Rattle.spec_document.specs.Document.{Document}
use Rattle.spec_history.specs.Machine.{Call, Reply, history_full, has_stack}
use Rattle.spec_history.specs.History.{Entry, asked, next_index, document_of, latest_of}
use Rattle.spec_history.specs.Kept.{IsLegal}
use Rattle.spec_history.proofs.Canvas.{canvas-document}
use Rattle.spec_history.proofs.Growing.{document_of-append, latest_of-cons}
use Rattle.spec_history.proofs.Versions.{latest_of-legal}
use Rattle.spec_world.specs.World.{World, free_entries}
use Rattle.spec_world.specs.Events as events
use Rattle.spec_world.specs.Events.{Outcome}
use Rattle.spec_world.specs.Right as worlds
use Rattle.spec_world.proofs.Filled.{all-behind}
use Rattle.xl_compose.specs.declared.clean.Done.{Done}
use Rattle.xl_core.specs.Editing.{Editing, world, IsSubmitted, IsPictureOf, IsAsBefore}
use Rattle.xl_core.specs.History.{History, version, document}
use Rattle.core_rows.specs.Asked.{PicturesStay, IsOfLast}

-- there may be more entries
pub record Grows (old new : History) : Type 0 where
  pub base : new.base ≡ old.base
  pub more : List Entry
  pub entries : new.entries ≡ old.entries ++ more

-- ---- a history goes on

grows_same : (old new : History) → new ≡ old → Grows old new
grows_same old new same =
    record { base = ap (λ h. h.base) same; more = []; entries = ap (λ h. h.entries) same ∙ sym (append-nil old.entries) }

grows_submitted : {K : Type 0} (old new : Editing K) (session : ℕ) (call : Call) (seen : ℕ) (tables : List (List ℕ)) (reply : Reply)
    → IsSubmitted old session call seen tables reply new → Grows old.history new.history
grows_submitted old new session call seen tables reply is = go (free == 0) is.2
  where
    w : World
    w = world old

    free : ℕ
    free = free_entries w

    stays : Outcome
    stays = record { reply = history_full; world = w }

    said : Reply
    said = events.reply_to old.history.base w call seen tables

    made : Outcome
    made = record { reply = said; world = events.with_call old.history.base w session call tables said }

    go : (b : Bool) → world new ≡ (cond b stays made).world → Grows old.history new.history
    go true same = record { base = is.0; more = []; entries = ap (λ x. x.entries) same ∙ sym (append-nil old.history.entries) }
    go false same = record {
      base = is.0;
      more =
          record { session = session; index = next_index old.history.entries session; kind = asked call tables; reply = said } ∷ [];
      entries = ap (λ x. x.entries) same;
    }

-- ---- and its pictures stay

latest_more : (es more : List Entry) → latest_of es ≤ latest_of (es ++ more)
latest_more [] more = omega arith
latest_more (e ∷ es) more =
    let rest = latest_more es more in
    rw (latest_of-cons e es) (rw (latest_of-cons e (es ++ more)) (omega (arith, rest)))

picture_more : (base : Document) (es more : List Entry) (done : Done) → IsLegal base es
    → IsPictureOf (record { base = base; entries = es }) done
    → IsPictureOf (record { base = base; entries = es ++ more }) done
picture_more base es more done legal is =
    let last = latest_of-legal base es legal in
    let there = is.version in
    let later = latest_more es more in
    let same = document_of-append base es more done.version (omega (arith, last, there)) in
    record {
      version = omega (arith, there, later);
      has = ap (λ d. has_stack d done.node.0) same ∙ is.has;
      on_grid = is.on_grid;
      picture = is.picture ∙ ap (λ d. project d done.node.0 done.at) (sym same);
    }

stay_grown : (old new : History) → IsLegal old.base old.entries → Grows old new → PicturesStay old new
stay_grown old new legal grows = λ done is.
    subst (λ h. IsPictureOf h done) (λ i. record { base = sym grows.base i; entries = sym grows.entries i })
    (picture_more old.base old.entries grows.more done legal is)

-- whether a call was answered or memory ran out
pub stay_asked : {K E X : Type 0} (old new : Editing K) (r : Result X E) (session : ℕ) (call : Call) (seen : ℕ) (tables : X
    → List (List ℕ)) (reply : X → Reply)
    → worlds.IsRight old.history.base (world old) → IfOk r (λ x. IsSubmitted old session call seen (tables x) (reply x) new)
    → OnErr r (IsAsBefore old new)
    → PicturesStay old.history new.history
stay_asked old new (Ok x) session call seen tables reply right is before =
    stay_grown old.history new.history right.legal (grows_submitted old new session call seen (tables x) (reply x) is)
stay_asked old new (Err e) session call seen tables reply right is before =
    stay_grown old.history new.history right.legal (grows_same old.history new.history before.history)

pub all_stay : (old new : History) (outs : List Done) → PicturesStay old new → AllByRecursion (IsPictureOf old) outs
    → AllByRecursion (IsPictureOf new) outs
all_stay old new [] stay all = tt
all_stay old new (d ∷ ds) stay all = (stay d all.0, all_stay old new ds stay all.1)

-- ---- one job more, or one less

pub all_with : (h : History) (outs : List Done) (done : Done) → AllByRecursion (IsPictureOf h) outs → IsPictureOf h done
    → AllByRecursion (IsPictureOf h) (outs ++ done ∷ [])
all_with h outs done all is = all-behind (IsPictureOf h) outs (done ∷ []) all (is, tt)

all_front : {A : Type 0} (P : A → Type 0) (xs ys : List A) → AllByRecursion P (xs ++ ys) → AllByRecursion P xs × AllByRecursion P ys
all_front P [] ys all = (tt, all)
all_front P (x ∷ xs) ys all = let rest = all_front P xs ys all.1 in ((all.0, rest.0), rest.1)

-- ---- a job that was taken and composed

pub picture_is_of : (h : History) (done : Done) → IsOfLast h done → has_stack (document h) done.node.0 ≡ true
    → is_on_grid (document h).width (document h).height done.at ≡ true → IsPictureOf h done
picture_is_of h done last has on =
    let canvas = canvas-document h.base h.entries (version h) in
    let number = last.version_is in
    record {
      version = omega (arith, number);
      has = ap (λ v. has_stack (document_of h.base h.entries v) done.node.0) number ∙ has;
      on_grid = (λ i. is_on_grid (sym canvas.width i) (sym canvas.height i) done.at) ∙ on;
      picture = last.picture_is ∙ ap (λ v. project (document_of h.base h.entries v) done.node.0 done.at) (sym number);
    }
