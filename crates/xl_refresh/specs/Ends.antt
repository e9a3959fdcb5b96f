-- How a worker ends.
use Rattle.std.specs.Prelude.{Bool, true, false}
use Rattle.xl_refresh.specs.declared.worker.WorkEnd.{WorkEnd}
use Rattle.xl_refresh.specs.declared.worker.WorkEnd.TheVariants.{Closed, Memory}

-- whether the desk was closing
abbrev pub is_closed : WorkEnd → Bool
is_closed Closed = true
is_closed Memory = false
