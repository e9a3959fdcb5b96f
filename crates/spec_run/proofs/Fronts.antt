-- The first calls of a script.
use Rattle.std.proofs.Common.{◌≡◌, ℕ, ◌≤◌, zero, suc, List, [], refl, sym, subst, arith}
use Rattle.spec_filters.specs.declared.FilterState.{FilterState}
use Rattle.spec_history.specs.History.{Entry, mine}
use Rattle.spec_script.specs.Script.{Line, list_at}
use Rattle.spec_text.specs.Text.{calls_of}
use Rattle.spec_run.specs.Fronts.{AreBegun, IsFrontOf}

-- nothing was made
pub none_begun : (filters : List FilterState) (lines : List Line) → AreBegun filters lines []
none_begun filters lines = record { calls = (calls_of lines, refl); tables = tt }

pub front_none : (lists : List (List Line)) (chests : List (List FilterState)) → IsFrontOf lists chests []
front_none lists chests = record {
  begun = λ session below. none_begun (list_at chests session) (list_at lists session);
  others = λ session above. refl;
}

-- only session 0 made something
pub front_first : (lists : List (List Line)) (chests : List (List FilterState)) (es : List Entry)
    → ((session : ℕ) → 1 ≤ session → mine es session ≡ []) → AreBegun (list_at chests 0) (list_at lists 0) (mine es 0)
    → IsFrontOf lists chests es
front_first lists chests es none first = record {
  begun = λ session below. each session;
  others = λ session above. none session (omega (arith, above));
} where
  each : (session : ℕ) → AreBegun (list_at chests session) (list_at lists session) (mine es session)
  each zero = first
  each (suc n) =
      subst (AreBegun (list_at chests (suc n)) (list_at lists (suc n))) (sym (none (suc n) (omega arith)))
      (none_begun (list_at chests (suc n)) (list_at lists (suc n)))
