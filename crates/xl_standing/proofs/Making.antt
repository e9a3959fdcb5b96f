-- What a group that is not made leaves.
use Rattle.std.proofs.Common.{◌≡◌, ℕ, Bool, true, cond, List, [], sym, ◌∙◌, ap, subst}
use Rattle.std.specs.Prelude.{Option, None}
use Rattle.spec_document.specs.Document.{Document}
use Rattle.spec_damage.specs.Damage.{Pair}
use Rattle.spec_edit.specs.Edit.{Edit}
use Rattle.spec_edit.specs.Apply.{At, apply_group}
use Rattle.spec_tables.specs.Acceptance.{refused_in}
use Rattle.spec_filters.specs.declared.FilterState.{FilterState}
use Rattle.spec_tables.specs.Agrees.{AreAsked, IsPartUsed}
use Rattle.spec_standing.specs.Change.{Change, change_between, came_to, turned}
use Rattle.spec_standing.specs.Group.{is_allowed}
use Rattle.spec_standing.specs.Steps.{IsChange}
use Rattle.spec_standing.proofs.Allowed.{refused_same, not_refused, allowed_where, part_allowed, all_part, none_part}
use Rattle.xl_standing.specs.Group.{IsRefusal, LeavesChest}
use Rattle.xl_standing.proofs.Sides.{SameSides}
use Rattle.xl_standing.specs.declared.group.GroupRefusedOrMemory.{GroupRefusedOrMemory}
use Rattle.xl_standing.specs.declared.group.GroupRefusedOrMemory.TheVariants.{Memory, Refused}

-- so it is with what is answered
pub refusal_same : (old : At) (edits : List Edit) (tables others : List (List ℕ)) (e : GroupRefusedOrMemory)
    → IsRefusal old edits tables e → IsRefusal old edits others e
refusal_same old edits tables others Memory h = tt
refusal_same old edits tables others (Refused index cause) h =
    refused_same old edits tables others (record { index = index; cause = cause }) h

-- a group that was accepted is not made where memory runs out, and then all its filters were asked
pub leaves : (chest after : List (Option FilterState)) (old : At) (edits : List Edit) (tables : List (List ℕ))
    (e : GroupRefusedOrMemory)
    → ((others : List (List ℕ)) → refused_in (apply_group old edits others) ≡ None) → AreAsked chest after edits tables
    → IsRefusal old edits tables e → LeavesChest chest after old edits e
leaves chest after old edits tables Memory allowed asked h =
    part_allowed (is_allowed old edits) chest after edits (allowed_where old edits (allowed []))
    (all_part chest after edits tables asked)
leaves chest after old edits tables (Refused index cause) allowed asked h =
    absurd (not_refused (apply_group old edits tables) (record { index = index; cause = cause }) (allowed tables) h)

-- where a group is not made, no more than the filters of one that is allowed were asked
pub part_left : (chest after : List (Option FilterState)) (old : At) (edits : List Edit) (e : GroupRefusedOrMemory)
    → LeavesChest chest after old edits e → IsPartUsed chest after (cond (is_allowed old edits) edits [])
part_left chest after old edits Memory part = part
part_left chest after old edits (Refused index cause) same =
    subst (λ x. IsPartUsed chest x (cond (is_allowed old edits) edits [])) (sym same)
    (none_part chest (cond (is_allowed old edits) edits []))

-- where the group was accepted its filters are those of its edits
pub asked_where : (b : Bool) (chest after : List (Option FilterState)) (edits : List Edit) (tables : List (List ℕ)) → b ≡ true
    → AreAsked chest after edits tables → AreAsked chest after (cond b edits []) tables
asked_where b chest after edits tables is asked = subst (λ x. AreAsked chest after (cond x edits []) tables) (sym is) asked

-- what is said of one place holds of the same
pub leaves_same : (chest after : List (Option FilterState)) (old other : At) (edits : List Edit) (e : GroupRefusedOrMemory) → old ≡ other
    → LeavesChest chest after old edits e → LeavesChest chest after other edits e
leaves_same chest after old other edits e same leaves = subst (λ a. LeavesChest chest after a edits e) same leaves

-- ---- the change of a group, from its other end

pub turned_change : (old new : Document) (made turning : Change) (damage : List Pair) → made ≡ change_between old new damage
    → turning ≡ turned made → SameSides old new → IsChange new old turning
turned_change old new made turning damage marks is sides =
    let same : turning ≡ turned (change_between old new damage) = is ∙ ap turned marks in
    record {
      leads = same
          ∙ (λ i. record {
            width = sym sides.width i;
            height = sym sides.height i;
            damage = sym (ap (λ (c : Change). c.damage) same) i;
            came = came_to new old;
            went = came_to old new;
          });
      width = sym sides.width;
      height = sym sides.height;
    }
