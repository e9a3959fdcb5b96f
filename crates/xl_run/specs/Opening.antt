-- What a core keeps as its document is opened, and along a run.
use Rattle.spec_document.specs.Limits.{IsDocument}
use Rattle.spec_world.specs.Right.{IsRight}
use Rattle.spec_world.specs.Exact.{SlotsAreExact}
use Rattle.xl_core.specs.Editing.{Editing, world}

-- the kept pictures of a document within its limits are right, and are just those that have to be kept, as no job brought any
pub record KeepsExactly {D : Type 0} (core : Editing D) : Type 0 where
  pub within : IsDocument core.history.base
  pub right : IsRight core.history.base (world core)
  pub exact : SlotsAreExact core.history.base (world core)
