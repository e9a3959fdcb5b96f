-- Which jobs are given out.
use Rattle.std.specs.Prelude.{◌≡◌, true, false, Option, Some, None, Result, Ok, Err}
use Rattle.spec_cache.specs.Cache.{next_place}
use Rattle.xl_compose.specs.Job.{Job, StandsFor}
use Rattle.xl_history.specs.declared.jobs.Taken.{Taken}
use Rattle.xl_history.specs.declared.jobs.Taken.TheVariants as takes
use Rattle.xl_history.specs.History.{version, document}
use Rattle.xl_history.specs.Editing.{Editing}
use Rattle.xl_history.specs.Needs.{tile_cost}
use Rattle.xl_history.specs.Places.{place_of_job}
use Rattle.xl_history.specs.Now.{IsTileOf}
use Rattle.xl_studio.specs.State.{State, IsKept, moments_of}

-- the job, as a desk answers it
abbrev pub answer_of : {E : Type 0} → Result (Option Job) E → Result Taken E
answer_of (Ok (Some job)) = Ok (takes.Job job)
answer_of (Ok None) = Ok takes.Nothing
answer_of (Err e) = Err e

abbrev pub AnswersJob : {E : Type 0} → Result (Option Job) E → Result Taken E → Type 0
AnswersJob job answer = answer ≡ answer_of job

module _ {K : Type 0} where
  -- the job is that of the next marked slot, at the last version, and takes the kept pictures of clean groups as they are
  pub record IsJobNow (c : Editing K) (job : Job) : Type 0 where
    pub place : next_place c.cache ≡ Some (place_of_job job)
    pub stands : StandsFor (document c.history) job.stack job.at (version c.history) job
    pub cost : job.cost ≡ tile_cost c.cache (document c.history) job.stack job.at
    pub there : IsTileOf (document c.history) (place_of_job job)

  -- Where it is closing no job is given out; otherwise the next one, if any slot is marked.
  abbrev pub GivesOut : State K → Taken → Type 0
  GivesOut s (takes.Job job) = (s.closing ≡ false) × IsJobNow s.core job
  GivesOut s takes.Nothing = (s.closing ≡ false) × (next_place s.core.cache ≡ None)
  GivesOut s takes.Closing = s.closing ≡ true

  -- no entry is made, and what is kept stays right
  pub record HasStayed (old new : State K) : Type 0 where
    pub moments : moments_of new.core ≡ moments_of old.core
    pub history : new.core.history ≡ old.core.history
    pub kept : IsKept new.core
