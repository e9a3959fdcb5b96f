-- The lists that are read fit the filters of their sessions.
use Rattle.std.proofs.Common.{◌≡◌, ℕ, List, subst}
use Rattle.std.specs.Prelude.{Result, Ok, Err, IfOk}
use Rattle.spec_script.specs.Script.{Line, script}
use Rattle.spec_script.specs.Fits.{FitsFilters}
use Rattle.spec_script.proofs.Fits.{script-fits}
use Rattle.xl_script.specs.Gives.{ScriptOf}
use Rattle.xl_script.specs.Lines.{lists_of}
use Rattle.xl_script.specs.declared.bad_line.BadLineOrMemory.{BadLineOrMemory}
use Rattle.xl_script.specs.declared.script.Line as code

pub lists_fit : (text chests : List ℕ) (lists : List (List Line)) → script text chests ≡ Ok lists → FitsFilters chests lists
lists_fit text chests lists read = subst (λ r. IfOk r (FitsFilters chests)) read (script-fits text chests)

-- those of a result do too
pub script_fits : (text chests : List ℕ) (r : Result (List (List code.Line)) BadLineOrMemory) → ScriptOf r (script text chests)
    → IfOk r (λ lists. FitsFilters chests (lists_of lists))
script_fits text chests (Ok lists) read = lists_fit text chests (lists_of lists) read
script_fits text chests (Err e) read = tt
