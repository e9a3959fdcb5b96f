-- Groups of edits: whether one is made, and its damage as one list.
use Rattle.std.specs.Prelude.{◌≡◌, ℕ, ◌+◌, ◌-◌, ◌^◌, ◌<◌, Bool, if◌then◌else◌, List, [], ◌∷◌, ◌++◌, is_ok}
use Rattle.spec_edit.specs.Edit.{Edit}
use Rattle.spec_edit.specs.Effect.{effect, makes_node}
use Rattle.spec_edit.specs.Apply.{At, first_table, other_tables, is_filter, apply_group}
use Rattle.spec_edit.specs.Limited.{IsAt}
use Rattle.spec_damage.specs.Damage.{Pair, damage, group_damage}
use Rattle.spec_standing.specs.Change.{rects_in}

-- the next id is above all ids of the document, and is still a node's after so many edits
pub record HasIds (a : At) (edits : ℕ) : Type 0 where
  pub is : IsAt a
  pub room : a.next + edits < 2 ^ 32 - 1

-- no edit of the group is refused, which no table decides (`acceptance_looks_at_no_table` of `spec_tables`)
abbrev pub is_allowed : (old : At) → List Edit → Bool
is_allowed old edits = is_ok (apply_group old edits [])

-- ---- the damage

-- that of each edit behind that of those before it
abbrev pub damage_along : At → List Edit → (tables : List (List ℕ)) → List Pair
damage_along old [] tables = []
damage_along old (edit ∷ edits) tables =
    let mid : At = record {
      document = effect old.document old.next (first_table tables) edit;
      next =
          if makes_node edit then old.next + 1 else old.next;
    } in
    damage old.document edit ++ damage_along mid edits (if is_filter edit then other_tables tables else tables)

-- the list has the rectangles of the group for each stack
abbrev pub HasGroupDamage : At → List Edit → (tables : List (List ℕ)) → Type 0
HasGroupDamage old edits tables = (stack : ℕ) → rects_in (damage_along old edits tables) stack ≡ group_damage old edits tables stack
