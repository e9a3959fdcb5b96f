-- A hold of the turn that makes no entry, and the job that a seat has out.
use Rattle.std.proofs.Common.{◌≡◌, ℕ, ◌≤◌, List, ◌++◌, Option, Some, None, refl, sym, ap, ◌∙◌, subst, arith, inl}
use Rattle.std.specs.Prelude.{Result, Ok, Err, IfOk, IfSome}
use mathlib.Core.List.{IsPrefix}
use Rattle.spec_document.specs.Grid.{is_on_grid}
use Rattle.spec_document.specs.Document.{Document}
use Rattle.spec_document.specs.Picture.{project}
use Rattle.spec_history.specs.Machine.{has_stack}
use Rattle.spec_history.specs.History.{Entry, latest_of, document_of}
use Rattle.spec_history.specs.Kept.{IsLegal}
use Rattle.spec_history.proofs.Canvas.{canvas-document}
use Rattle.spec_history.proofs.Growing.{document_of-append}
use Rattle.spec_history.proofs.Versions.{latest_of-legal}
use Rattle.xl_compose.specs.Job.{Job, StandsFor}
use Rattle.xl_compose.specs.declared.clean.Done.{Done}
use Rattle.xl_history.specs.declared.jobs.Taken.{Taken}
use Rattle.xl_history.specs.declared.jobs.Taken.TheVariants as takes
use Rattle.xl_history.specs.History.{History, version, document}
use Rattle.xl_history.specs.Editing.{Editing, IsPictureOf}
use Rattle.xl_history.specs.Jobs.{Out, IsTaken, IsOfLatest, IsOutcome, IsOutcomeOf}
use Rattle.xl_turn.specs.Seats.{MayLeave}
use Rattle.xl_studio.specs.declared.moment.Moment.{Moment}
use Rattle.xl_studio.specs.Moments.{entries_in, closed_by}
use Rattle.xl_studio.specs.State.{State, moments_of}
use Rattle.xl_studio.specs.Taking.{IsJobNow, GivesOut, HasStayed}
use Rattle.xl_studio.specs.Jobs.{out_after, IsJobOf}
use Rattle.xl_studio.specs.Seats.{history_of}
use Rattle.xl_studio.proofs.Grown.{entries-append, entries-moments}
use Rattle.xl_studio.proofs.Seated.{latest_prefix, call_may_leave, start_within}

-- a picture of a version stays one as the history goes on
pub picture_goes_on : (base : Document) (es more : List Entry) (done : Done) → IsLegal base es
    → IsPictureOf (record { base = base; entries = es }) done → latest_of es ≤ latest_of (es ++ more)
    → IsPictureOf (record { base = base; entries = es ++ more }) done
picture_goes_on base es more done legal is later =
    let last = latest_of-legal base es legal in
    let there : done.version ≤ latest_of es = is.version in
    let same : document_of base (es ++ more) done.version ≡ document_of base es done.version =
    document_of-append base es more done.version (omega (arith, last, there)) in
    record {
      version = omega (arith, there, later);
      has = ap (λ (d : Document). has_stack d done.node.0) same ∙ is.has;
      on_grid = is.on_grid;
      picture = is.picture ∙ ap (λ (d : Document). project d done.node.0 done.at) (sym same);
    }

module _ {K : Type 0} where
  -- the list may be left as it was entered
  pub stays_may_leave : (start : ℕ) (made : List ℕ) (entered : List (Moment K)) (held new : State K)
      → entered ≡ moments_of held.core → start ≡ 1 → HasStayed held new
      → MayLeave closed_by start made entered (moments_of new.core)
  stays_may_leave start made entered held new is one stays =
      call_may_leave start made entered (moments_of held.core) (moments_of new.core) is (start_within start held.core one)
      (record { is = inl stays.moments })

  -- the front goes on
  pub begins_stayed : (front : List (Moment K)) (held new : State K) → IsPrefix front (moments_of held.core) → HasStayed held new
      → IsPrefix front (moments_of new.core)
  begins_stayed front held new begins stays = subst (IsPrefix front) (sym stays.moments) begins

  -- ---- a job that was given out

  pub is_taken : {E : Type 0} (r : Result Taken E) (s : State K) (d : Document) → d ≡ document s.core.history → IfOk r (GivesOut s)
      → IfOk r (λ taken. IsTaken taken (out_after r d))
  is_taken (Ok (takes.Job job)) s d is gives =
      let now = gives.1.stands in
      let stands : StandsFor (document s.core.history) job.stack job.at job.version job =
      record { stack_is = refl; at_is = refl; version_is = refl; picture_is = now.picture_is; cost_is = now.cost_is } in (
        record { stack = job.stack; at = job.at; version = job.version; document = d },
        refl,
        subst (λ (x : Document). StandsFor x job.stack job.at job.version job) (sym is) stands,
      )
  is_taken (Ok takes.Nothing) s d is gives = refl
  is_taken (Ok takes.Closing) s d is gives = refl
  is_taken (Err e) s d is gives = tt

  is_of_latest : (base : Document) (front : List (Moment K)) (c : Editing K) (d : Document) (job : Job) → base ≡ c.history.base
      → entries_in front ≡ c.history.entries → d ≡ document c.history → IsJobNow c job
      → IsOfLatest base (entries_in front) (record { stack = job.stack; at = job.at; version = job.version; document = d })
  is_of_latest base front c d job same es is now =
      let h = c.history in
      let number : job.version ≡ latest_of h.entries = now.stands.version_is in
      let last : latest_of (entries_in front) ≡ latest_of h.entries = ap latest_of es in
      let canvas = canvas-document h.base h.entries (version h) in
      record {
        version_is = number ∙ sym last;
        document_is = is ∙ (λ i. document_of (sym same i) (sym es i) (sym last i));
        has = ap (λ x. has_stack x job.stack) is ∙ now.there.has;
        on_grid = (λ i. is_on_grid ((ap (λ (b : Document). b.width) same ∙ sym canvas.width) i)
            ((ap (λ (b : Document). b.height) same ∙ sym canvas.height) i) job.at) ∙ now.there.on_grid;
      }

  -- it is of the last version of the front
  pub latest_after : {E : Type 0} (r : Result Taken E) (base : Document) (front : List (Moment K)) (s new : State K) (d : Document)
      → base ≡ new.core.history.base → front ≡ moments_of new.core → HasStayed s new
      → d ≡ document s.core.history → IfOk r (GivesOut s) → IfSome (out_after r d) (IsOfLatest base (entries_in front))
  latest_after (Ok (takes.Job job)) base front s new d same is stays doc gives =
      let h : s.core.history ≡ new.core.history = sym stays.history in
      is_of_latest base front s.core d job (same ∙ ap (λ x. x.base) stays.history)
      (ap entries_in is ∙ (entries-moments new.core.history.base new.core.opening new.core.handed new.core.history.entries
      ∙ ap (λ x. x.entries) stays.history)) doc gives.1
  latest_after (Ok takes.Nothing) base front s new d same is stays doc gives = tt
  latest_after (Ok takes.Closing) base front s new d same is stays doc gives = tt
  latest_after (Err e) base front s new d same is stays doc gives = tt

  -- and so it is one of the front
  pub of_front : (base : Document) (front : List (Moment K)) (o : Option Out) → IfSome o (IsOfLatest base (entries_in front))
      → IfSome o (IsJobOf base front)
  of_front base front None is = tt
  of_front base front (Some out) is = record {
    version = omega (arith, is.version_is);
    document_is = is.document_is ∙ ap (document_of base (entries_in front)) (sym is.version_is);
    has = is.has;
    on_grid = is.on_grid;
  }

  -- ---- a picture that is handed in

  -- what the job that is out comes to is a picture of the history that the seat knows
  picture_known : (base : Document) (front : List (Moment K)) (o : Out) (done : Done) → IsJobOf base front o → IsOutcome o done
      → IsPictureOf (history_of base front) done
  picture_known base front o done job out =
      let there : o.version ≤ latest_of (entries_in front) = job.version in
      let number : done.version ≡ o.version = out.version_is in
      let all : document_of base (entries_in front) done.version ≡ o.document =
      ap (λ v. document_of base (entries_in front) v) number ∙ sym job.document_is in
      record {
        version = omega (arith, number, there);
        has = (λ i. has_stack (all i) (out.node_is i)) ∙ job.has;
        on_grid = (λ i. is_on_grid base.width base.height (out.at_is i)) ∙ job.on_grid;
        picture = out.picture_is ∙ (λ i. project (sym all i) (sym out.node_is i) (sym out.at_is i));
      }

  -- and that is one of the history that it enters
  pub picture_entered : (base : Document) (front : List (Moment K)) (c : Editing K) (done : Done) → base ≡ c.history.base
      → IsLegal base (entries_in front) → IsPrefix front (moments_of c) → IsPictureOf (history_of base front) done
      → IsPictureOf c.history done
  picture_entered base front c done same legal begins is =
      let es = entries_in front in
      let more = entries_in begins.0 in
      let all : es ++ more ≡ c.history.entries =
      sym (entries-append front begins.0)
      ∙ (ap entries_in begins.1 ∙ entries-moments c.history.base c.opening c.handed c.history.entries) in
      let later : latest_of es ≤ latest_of (es ++ more) = latest_prefix es (es ++ more) (more, refl) in
      subst (λ (h : History). IsPictureOf h done) (λ i. record { base = same i; entries = all i })
      (picture_goes_on base es more done legal is later)

  pub picture_of : (base : Document) (front : List (Moment K)) (c : Editing K) (job : Option Out) (done : Done)
      → base ≡ c.history.base → IsLegal base (entries_in front) → IsPrefix front (moments_of c)
      → IfSome job (IsJobOf base front) → IsOutcomeOf job done → IsPictureOf c.history done
  picture_of base front c job done same legal begins is out =
      picture_entered base front c done same legal begins
      (picture_known base front out.0 done (subst (λ (o : Option Out). IfSome o (IsJobOf base front)) out.1 is) out.2)
