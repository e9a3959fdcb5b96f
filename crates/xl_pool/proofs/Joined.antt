-- The damage of a group, stack by stack.
use Rattle.std.proofs.Common.{◌≡◌, ℕ, ◌+◌, Bool, true, false, cond, ◌==◌, List, [], ◌∷◌, ◌++◌, map, filter, refl, ◌∙◌, ap}
use Rattle.spec_edit.specs.Edit.{Edit}
use Rattle.spec_edit.specs.Effect.{effect, makes_node}
use Rattle.spec_edit.specs.Apply.{At, first_table, other_tables, is_filter}
use Rattle.spec_damage.specs.Damage.{Pair, damage, damage_of}
use Rattle.spec_standing.specs.Change.{rects_in}
use Rattle.spec_standing.specs.Group.{damage_along, HasGroupDamage}

pub rects_in-append : (xs ys : List Pair) (stack : ℕ) → rects_in (xs ++ ys) stack ≡ rects_in xs stack ++ rects_in ys stack
rects_in-append [] ys stack = refl
rects_in-append (x ∷ xs) ys stack = go (x.stack == stack) (rects_in-append xs ys stack)
  where
    go : (b : Bool) → rects_in (xs ++ ys) stack ≡ rects_in xs stack ++ rects_in ys stack
        → map (λ p. p.rect) (cond b (x ∷ filter (λ p. p.stack == stack) (xs ++ ys)) (filter (λ p. p.stack == stack) (xs ++ ys)))
        ≡ map (λ p. p.rect) (cond b (x ∷ filter (λ p. p.stack == stack) xs) (filter (λ p. p.stack == stack) xs))
        ++ rects_in ys stack
    go true more = ap (λ rs. x.rect ∷ rs) more
    go false more = more

pub group-joined : (old : At) (edits : List Edit) (tables : List (List ℕ)) → HasGroupDamage old edits tables
group-joined old [] tables stack = refl
group-joined old (edit ∷ edits) tables stack =
    let next : ℕ = cond (makes_node edit) (old.next + 1) old.next in
    let mid : At = record { document = effect old.document old.next (first_table tables) edit; next = next } in
    let rest : List (List ℕ) = cond (is_filter edit) (other_tables tables) tables in
    rects_in-append (damage old.document edit) (damage_along mid edits rest) stack
    ∙ ap (λ rs. damage_of old.document edit stack ++ rs) (group-joined mid edits rest stack)
