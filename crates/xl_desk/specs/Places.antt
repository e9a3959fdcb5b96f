-- The tiles of jobs and of pictures.
use Rattle.spec_cache.specs.Cache.{Place}
use Rattle.xl_compose.specs.Job.{Job}
use Rattle.xl_compose.specs.declared.clean.Done.{Done}

-- the tile that a job composes
abbrev pub place_of_job : Job → Place
place_of_job job = record { stack = job.stack; at = job.at }

-- the tile that a picture is of
abbrev pub place_done : Done → Place
place_done done = record { stack = done.node.0; at = done.at }
