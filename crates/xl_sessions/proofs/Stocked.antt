-- A chest beside the list of all filters of its session, after any line.
use Rattle.std.proofs.Common.{ℕ, List, [], ◌∷◌, ◌++◌}
use Rattle.std.proofs.Common.{Option, sym, subst}
use Rattle.spec_document.specs.Document.{Document}
use Rattle.spec_filters.specs.declared.FilterState.{FilterState}
use Rattle.xl_ports.specs.State.{ShelfState}
use Rattle.spec_script.specs.Script as script
use Rattle.spec_script.specs.Fits.{dropped_by}
use Rattle.xl_studio.specs.Calling.{Known}
use Rattle.xl_sessions.specs.Playing.{IsLineMade}
use Rattle.xl_run.proofs.Chests.{IsStocked, stocked_after, stocked_without}

pub line_stocked : {K : Type 0} (see : K → ShelfState) (opening : K) (given : ℕ) (dropped : List ℕ) (base : Document)
    (session : ℕ) (line : script.Line) (before after : List (Option FilterState)) (old new : Known K) (told : List (List ℕ))
    → IsLineMade see opening base session line before after old new told → IsStocked given dropped before
    → IsStocked given (dropped_by dropped line) after
line_stocked see opening given dropped base session (script.call c) before after old new told made stocked =
    stocked_after given dropped before after made.replied.chest.slots stocked
line_stocked see opening given dropped base session script.save before after old new told made stocked =
    subst (IsStocked given dropped) (sym made.1) stocked
line_stocked see opening given dropped base session (script.forget slot) before after old new told made stocked =
    subst (IsStocked given (dropped ++ slot ∷ [])) (sym made.1) (stocked_without given dropped before slot stocked)
