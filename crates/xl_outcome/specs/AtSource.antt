-- Stops before a command came to the shelf: by its words, or at the source.
use Rattle.std.specs.Prelude.{ℕ, ◌==◌, [], ◌∷◌, Result, IfErr, IsTrue}
use Rattle.std.specs.List.{list_any}
use Rattle.xl_outcome.specs.declared.stopped.Stopped.{Stopped}
use Rattle.xl_outcome.specs.declared.stopped.Stopped.TheVariants.{SourceFault, BadHead, BadLine, ShelfFault, Refused}
use Rattle.xl_outcome.specs.declared.stopped.Stopped.TheVariants.{NotFlattened, SaveFault, Rejected, SinkFault, Memory}

-- the source failed, or its head or a line of its script is refused
abbrev pub IsOfSource : Stopped → Type 0
IsOfSource SourceFault = Unit {0}
IsOfSource BadHead = Unit {0}
IsOfSource (BadLine bad) = Unit {0}
IsOfSource ShelfFault = ⊥
IsOfSource (Refused why) = ⊥
IsOfSource (NotFlattened why) = ⊥
IsOfSource SaveFault = ⊥
IsOfSource (Rejected why) = ⊥
IsOfSource SinkFault = ⊥
IsOfSource Memory = ⊥

-- this holds where that was the stop
abbrev pub IfOfSource : {A : Type 0} → Result A Stopped → (Then : Type 0) → Type 0
IfOfSource result Then = IfErr result (λ stopped. IsOfSource stopped → Then)

-- usage, bad head or line, source fault
abbrev pub StopsBeforeShelf : (status : ℕ) → Type 0
StopsBeforeShelf status = IsTrue (list_any (λ n. n == status) (2 ∷ 3 ∷ 5 ∷ []))
