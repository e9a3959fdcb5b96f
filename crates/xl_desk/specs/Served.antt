-- What a call leaves in a desk, and how many steps it leaves taken.
use Rattle.std.specs.Prelude.{◌≡◌, ℕ, List, None, Result, IfOk, OnErr}
use Rattle.spec_history.specs.Machine.{Reply, version_shown}
use Rattle.spec_standing.specs.Now.{KeepsDesk}

-- Only a reply that is a tile changes what is in the desk, and only such a one takes steps. After out of memory both are as before.
pub record IsServed {R E : Type 0} (reply_of : R → Reply) (result : Result R E) (bytes_before bytes_after : List ℕ)
    (steps_before steps_after : ℕ) : Type 0 where
  pub desk : IfOk result (λ r. KeepsDesk (reply_of r) bytes_before bytes_after)
  pub out_as_before : OnErr result (bytes_after ≡ bytes_before)
  pub no_tile : IfOk result (λ r. version_shown (reply_of r) ≡ None → steps_after ≡ steps_before)
  pub steps_as_before : OnErr result (steps_after ≡ steps_before)
