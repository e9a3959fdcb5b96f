-- A save of the code is one of the shelf as it is known.
use Rattle.std.proofs.Common.{◌≡◌, List, ℕ, [], Some, None, sym, subst}
use Rattle.std.specs.Prelude.{Option, IfSome}
use Rattle.spec_world.specs.declared.SaveEnd.TheVariants.{Done, Fault, Memory}
use Rattle.xl_ports.specs.Disk.{Disk}
use Rattle.xl_save.specs.Save.{HasSaved}

-- such a save found memory
pub done_not_memory : {P : Type 0} → Done ≡ Memory → P
done_not_memory e = let bad : Done ≡ Memory = e in cc

pub fault_not_memory : {P : Type 0} → Fault ≡ Memory → P
fault_not_memory e = let bad : Fault ≡ Memory = e in cc

-- what was saved is a file as it was coded
pub coded_there : (P : List ℕ → Type 0) (s : Option (List ℕ)) (after : Option Disk) (coded bytes : List ℕ) → P coded → bytes ≡ coded
    → IfSome s (λ name. IfSome after (HasSaved name bytes))
    → IfSome s (λ name. IfSome after (λ disk. (file : List ℕ) × P file × HasSaved name file disk))
coded_there P None after coded bytes is same has = tt
coded_there P (Some name) None coded bytes is same has = tt
coded_there P (Some name) (Some disk) coded bytes is same has = (bytes, subst P (sym same) is, has)
