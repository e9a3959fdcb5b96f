-- A call takes one number of a group at most.
use Rattle.std.proofs.Common.{ℕ, ◌+◌, ◌≤◌, Bool, true, false, cond, not, List, [], ◌∷◌, arith}
use Rattle.std.specs.Prelude.{Option, Result, Ok, Err}
use Rattle.spec_edit.specs.Apply.{At, Refused, apply_group}
use Rattle.spec_history.specs.Machine as machine
use Rattle.spec_cache.specs.Cache.{kept}
use Rattle.spec_history.specs.Machine.{Call, moved, not_top, no_stack, outside_tile, tile_of, names, has_stack}
use Rattle.spec_standing.specs.Steps.{Step}
use Rattle.spec_damage.specs.Damage.{Pair}
use Rattle.spec_document.specs.declared.TileAt.{TileAt}
use Rattle.spec_document.specs.Grid.{is_on_grid}
use Rattle.spec_world.specs.Events.{peek_reply}
use Rattle.spec_standing.specs.Group.{damage_along}
use Rattle.spec_standing.specs.Now.{Now, Response, response, stays, at_now, made_now, taken_back, undone_of, redone_of}
use Rattle.spec_standing.specs.Now.{where_tile, with_tile}

few_either : (n : ℕ) (b : Bool) (t u : Response) → t.now.next_group ≤ n → u.now.next_group ≤ n → (cond b t u).now.next_group ≤ n
few_either n true t u one other = one
few_either n false t u one other = other

groups-made : (old : Now) (damage : List Pair) (r : Result At Refused) → (made_now old damage r).now.next_group ≤ old.next_group + 1
groups-made old damage (Ok at) = omega arith
groups-made old damage (Err r) = omega arith

groups-undone : (old : Now) (named : Option ℕ) (us : List (ℕ × Step)) → (undone_of old named us).now.next_group ≤ old.next_group + 1
groups-undone old named [] = omega arith
groups-undone old named (u ∷ us) =
    few_either (old.next_group + 1) (names named u.0) (taken_back old u.0 u.1 us) (stays old (not_top u.0)) (omega arith)
    (omega arith)

groups-redone : (old : Now) (rs : List (ℕ × Step)) → (redone_of old rs).now.next_group ≤ old.next_group + 1
groups-redone old [] = omega arith
groups-redone old (r ∷ rs) = omega arith

-- an answer about a tile
groups-tile : (old : Now) (stack : ℕ) (at : TileAt) (there : Response) → there.now.next_group ≤ old.next_group + 1
    → (where_tile old stack at there).now.next_group ≤ old.next_group + 1
groups-tile old stack at there few =
    let n = old.next_group + 1 in
    let on = few_either n (not (is_on_grid old.document.width old.document.height at)) (stays old outside_tile) there
    (omega arith) few in
    few_either n (not (has_stack old.document stack)) (stays old (no_stack stack))
    (cond (not (is_on_grid old.document.width old.document.height at)) (stays old outside_tile) there)
    (omega arith) on

pub groups-response : (old : Now) (call : Call) (seen : ℕ) (tables : List (List ℕ))
    → (response old call seen tables).now.next_group ≤ old.next_group + 1
groups-response old (machine.edit guard edits) seen tables =
    let r = apply_group (at_now old) edits tables in
    let damage = damage_along (at_now old) edits tables in
    few_either (old.next_group + 1) (names guard old.version) (made_now old damage r) (stays old (moved old.version))
    (groups-made old damage r) (omega arith)
groups-response old (machine.undo named) seen tables = groups-undone old named old.undo
groups-response old machine.redo seen tables = groups-redone old old.redo
groups-response old (machine.tile stack at) seen tables =
    groups-tile old stack at (record { reply = tile_of old.version; now = with_tile old stack at }) (omega arith)
groups-response old (machine.peek stack at) seen tables =
    groups-tile old stack at (stays old (peek_reply (kept old.cache stack at old.version) seen)) (omega arith)
groups-response old machine.top seen tables = omega arith
