-- A walk that begins along an order, and what is found of it.
use Rattle.std.specs.Prelude.{◌≡◌, ◌≤◌, List, [], length, map, Option, MatchOption}
use Rattle.std.specs.List.{AllByRecursion}
use Rattle.spec_filters.specs.declared.FilterState.{FilterState}
use Rattle.spec_script.specs.Fits.{FitsFilters}
use Rattle.spec_script.specs.Script.{Line}
use Rattle.spec_text.specs.declared.OrderWord.{OrderWord}
use Rattle.spec_audit.specs.Output.{Output, IsMerge}
use Rattle.spec_audit.specs.Walk.{Start, AllPass, FailsAt}
use Rattle.xl_judging.specs.Calls.{calls_in}
use Rattle.xl_judging.specs.Versions.{AreWanted}
use Rattle.xl_audit.specs.Auditing.{ArePrintable, IsFull, filters_in, padded}
use Rattle.xl_audit.specs.Walking.{HasCome}
use Rattle.xl_audit.specs.declared.walk.Walk.{Walk}

-- The walk has not begun, and goes along an order of the calls of a script that was read. Each session has its chest, which is full.
pub record IsBegun (s : Start) (o : Output) (calls : List (List Line)) (walk : Walk) (chests : List (List (Option FilterState)))
    : Type 0 where
  pub first : List (List (Option FilterState))
  pub few : length first ≤ 8
  pub full : AllByRecursion IsFull first
  pub fits : FitsFilters (map length first) s.scripts
  pub filters : s.chests ≡ map filters_in first
  pub eight : chests ≡ padded first
  pub merge : IsMerge s.scripts o.order
  pub prints : ArePrintable o
  pub listed : calls ≡ calls_in s.scripts
  pub come : HasCome s.base [] walk
  pub wanted : AreWanted calls o.replies walk.versions.wanted.items o.order

-- it has begun at some start
abbrev pub HasBegun : Output → (calls : List (List Line)) → Walk → (chests : List (List (Option FilterState))) → Type 0
HasBegun o calls walk chests = (s : Start) × IsBegun s o calls walk chests

-- from wherever it has begun, this is the first word that fails, or all words pass
abbrev pub IsFirst : Output → (calls : List (List Line)) → Walk → (chests : List (List (Option FilterState))) → Option OrderWord → Type 0
IsFirst o calls walk chests found =
    (s : Start) → IsBegun s o calls walk chests
    → MatchOption found (AllPass s o [] o.order) (λ w. FailsAt s o [] o.order w.session w.index)
