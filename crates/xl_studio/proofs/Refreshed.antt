-- A tile that is composed between two holds of the turn: its job, its picture, and what became of that.
use Rattle.std.proofs.Common.{◌≡◌, ℕ, ◌+◌, ◌≤◌, true, List, ◌++◌, refl, sym, ap, ◌∙◌, subst, arith}
use Rattle.std.specs.Prelude.{Option, Some, None, Result, Ok, Err, not, ◌&&◌, IfOk, IfSome}
use Rattle.std.proofs.lemmas.Bool.{and_parts}
use mathlib.Core.List.{IsPrefix}
use Rattle.spec_document.specs.declared.TileAt.{TileAt}
use Rattle.spec_document.specs.Grid.{is_on_grid}
use Rattle.spec_document.specs.Document.{Document}
use Rattle.spec_document.specs.Picture.{project}
use Rattle.spec_cache.specs.declared.Finished.{Finished}
use Rattle.spec_cache.specs.Cache.{Cache, is_clean, finish}
use Rattle.spec_history.specs.Machine as machine
use Rattle.spec_history.specs.Machine.{has_stack}
use Rattle.spec_history.specs.History.{Entry, latest_of, document_of}
use Rattle.spec_history.specs.Kept.{IsLegal}
use Rattle.spec_history.proofs.Canvas.{canvas-document}
use Rattle.spec_history.proofs.Growing.{document_of-append}
use Rattle.spec_history.proofs.Versions.{latest_of-legal}
use Rattle.xl_compose.specs.Job.{Job, IsDone}
use Rattle.xl_compose.specs.declared.clean.Done.{Done}
use Rattle.xl_history.specs.History.{History, version, document}
use Rattle.xl_history.specs.TileJobs.{is_marked, GivesJob}
use Rattle.xl_history.specs.Needs.{most_cost}
use Rattle.xl_history.specs.Now.{IsTileOf}
use Rattle.xl_history.specs.Places.{place_done}
use Rattle.xl_history.specs.Editing.{Editing, handed_in, IsPictureOf}
use Rattle.xl_history.specs.Jobs.{finished_by}
use Rattle.xl_turn.specs.Seats.{Exchange}
use Rattle.xl_turn.proofs.Fronts.{prefix_trans}
use Rattle.xl_studio.specs.declared.moment.Moment.{Moment}
use Rattle.xl_studio.specs.Calling.{Known, HasHeard}
use Rattle.xl_studio.specs.Moments.{entries_in}
use Rattle.xl_studio.specs.Refreshing.{IsJobAt, HandsIn, IsRefreshed}
use Rattle.xl_studio.specs.Seats.{history_of}
use Rattle.xl_studio.specs.State.{State, moments_of}
use Rattle.xl_studio.specs.Taking.{HasStayed}
use Rattle.xl_studio.proofs.Grown.{entries-prefix}
use Rattle.xl_studio.proofs.Seated.{back, latest_prefix}
use Rattle.xl_studio.proofs.Quiet.{picture_goes_on}

-- a marked tile is there
marked-there : (d : Document) (cache : Cache) (stack : ℕ) (at : TileAt) → is_marked d cache stack at ≡ true
    → IsTileOf d (record { stack = stack; at = at })
marked-there d cache stack at is =
    let both = and_parts (has_stack d stack) (is_on_grid d.width d.height at && not (is_clean cache stack at)) is in
    let on = and_parts (is_on_grid d.width d.height at) (not (is_clean cache stack at)) both.1 in
    record { has = both.0; on_grid = on.0 }

-- what a job of the last version comes to is a picture of that
pub picture_of_job : (h : History) (stack : ℕ) (at : TileAt) (job : Job) (done : Done) → IsJobAt h stack at job → IsDone job done
    → IsPictureOf h done
picture_of_job h stack at job done is out =
    let node : done.node.0 ≡ stack = out.node_is ∙ is.stands.stack_is in
    let tile : done.at ≡ at = out.at_is ∙ is.stands.at_is in
    let number : done.version ≡ version h = out.version_is ∙ is.stands.version_is in
    let canvas = canvas-document h.base h.entries (version h) in
    record {
      version = omega (arith, number);
      has = (λ i. has_stack (document_of h.base h.entries (number i)) (node i)) ∙ is.there.has;
      on_grid = (λ i. is_on_grid (sym canvas.width i) (sym canvas.height i) (tile i)) ∙ is.there.on_grid;
      picture = (out.picture_is ∙ is.stands.picture_is)
          ∙ (λ i. project (document_of h.base h.entries (sym number i)) (sym node i) (sym tile i));
    }

steps_within : (before after cost most : ℕ) → after ≤ before + cost → cost ≤ most → after ≤ before + most
steps_within before after cost most took less = omega (arith, took, less)

module _ {K : Type 0} where
  same_history : (base : Document) (front : List (Moment K)) (c : Editing K) → base ≡ c.history.base → front ≡ moments_of c
      → history_of base front ≡ c.history
  same_history base front c same is =
      let es : entries_in front ≡ c.history.entries = ap entries_in is ∙ back c in λ i. record { base = same i; entries = es i }

  pub job_at : {E : Type 0} (r : Result (Option Job) E) (base : Document) (front : List (Moment K)) (c : Editing K) (stack : ℕ)
      (at : TileAt) → base ≡ c.history.base → front ≡ moments_of c
      → IfOk r (GivesJob (document c.history) c.cache (version c.history) stack at)
      → IfOk r (λ job. IfSome job (IsJobAt (history_of base front) stack at))
  job_at (Ok (Some job)) base front c stack at same is gives =
      subst (λ (h : History). IsJobAt h stack at job) (sym (same_history base front c same is)) (record {
        stands = gives.stands;
        there = marked-there (document c.history) c.cache stack at gives.marked;
      })
  job_at (Ok None) base front c stack at same is gives = tt
  job_at (Err e) base front c stack at same is gives = tt

  -- the turn handed the picture in
  pub hands_in : (base : Document) (front : List (Moment K)) (done : Done) (finished : Finished) (turn : Option (Exchange (State K)))
      (taken held new : State K) → taken ≡ held → turn ≡ Some (record { out = taken; back = new }) → base ≡ held.core.history.base
      → front ≡ moments_of new.core → HasStayed held new → new.core ≡ handed_in held.core done → new.closing ≡ held.closing
      → finished ≡ finish held.core.cache (place_done done) done.version → HandsIn (history_of base front) done finished turn
  hands_in base front done finished turn taken held new same is base_is front_is stays core closing says =
      let put : State K → Option (Exchange (State K)) = λ s. Some (record { out = s; back = new }) in
      record {
        out = held;
        back = new;
        turn_is = is ∙ ap put same;
        history_is = sym (same_history base front held.core base_is (front_is ∙ stays.moments));
        core_is = core;
        closing_is = closing;
        finished_is = says;
      }

  -- what became of it, from the job of the first hold to the answer of the second
  pub is_refreshed : (base : Document) (front front' : List (Moment K)) (stack : ℕ) (at : TileAt) (job : Job) (done : Done)
      (before after least : ℕ) (finished : Finished) (turn : Option (Exchange (State K))) → IsLegal base (entries_in front)
      → least ≤ latest_of (entries_in front) → IsPrefix front front' → IsJobAt (history_of base front) stack at job → IsDone job done
      → after ≤ before + job.cost → finished ≡ finished_by base (entries_in front') (place_done done) done.version
      → HandsIn (history_of base front') done finished turn
      → IsRefreshed least (history_of base front') stack at before after finished turn
  is_refreshed base front front' stack at job done before after least finished turn legal low begins is out took says handed =
      let es = entries_in front in
      let number = latest_of es in
      let grown = entries-prefix front front' begins in
      let last = latest_of-legal base es legal in
      let named : done.version ≡ number = out.version_is ∙ is.stands.version_is in
      let same : document_of base (entries_in front') done.version ≡ document_of base es number =
      ap (document_of base (entries_in front')) named
      ∙ (ap (λ (l : List Entry). document_of base l number) (sym grown.1)
      ∙ document_of-append base es grown.0 number (omega (arith, last))) in
      let node : done.node.0 ≡ stack = out.node_is ∙ is.stands.stack_is in
      let tile : done.at ≡ at = out.at_is ∙ is.stands.at_is in
      let later : latest_of es ≤ latest_of (es ++ grown.0) = latest_prefix es (es ++ grown.0) (grown.0, refl) in
      let kept : IsPictureOf (record { base = base; entries = es ++ grown.0 }) done =
      picture_goes_on base es grown.0 done legal (picture_of_job (history_of base front) stack at job done is out) later in
      record {
        done = done;
        picture = subst (λ (l : List Entry). IsPictureOf (record { base = base; entries = l }) done) grown.1 kept;
        place = λ i. record { stack = node i; at = tile i };
        least_is = omega (arith, named, low);
        cost = subst (λ (d : Document). after ≤ before + most_cost d (machine.tile stack at)) (sym same)
            (steps_within before after job.cost (most_cost (document_of base es number) (machine.tile stack at)) took
            is.stands.cost_is);
        finished_is = says;
        handed = handed;
      }

  -- ---- two holds

  pub heard_on : (old mid new : Known K) → HasHeard old mid → HasHeard mid new → HasHeard old new
  heard_on old mid new first then = record {
    begins = prefix_trans old.front mid.front new.front first.begins then.begins;
    made = then.made ∙ first.made;
  }
