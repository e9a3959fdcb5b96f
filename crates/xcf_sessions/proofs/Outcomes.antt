-- Which replies a call of a session may get.
use Rattle.std.proofs.Common.{◌≡◌, ℕ, Bool, true, false, cond, [], sym, subst}
use Rattle.std.specs.Prelude.{not, Option, Some, None, MatchBool, MatchOption}
use Rattle.spec_document.specs.Document.{Document}
use Rattle.spec_document.specs.declared.TileAt.{TileAt}
use Rattle.spec_document.specs.Grid.{is_on_grid}
use Rattle.spec_history.specs.History.{Answers, MayPeek}
use Rattle.spec_history.specs.Machine as machine
use Rattle.spec_history.specs.Machine.{Call, Reply, State, has_stack, tile_reply, version_shown}
use Rattle.spec_history.proofs.Growing.{cond_both}
use Rattle.spec_world.specs.declared.SaveEnd.{SaveEnd}
use Rattle.spec_world.specs.declared.SaveEnd.TheVariants.{Done, Fault, Memory}
use Rattle.spec_world.specs.Events.{end_reply}
use Rattle.xcf.specs.Asked.{IsOwn, IsOwnCall}
use Rattle.xcf.proofs.Own.{own_answer}
use Rattle.xcf_sessions.specs.Answered.{IsAnswered, IsTileCall}
use Rattle.xcf_sessions.specs.Replies.{IsOfSave, IsOfTile}
use Rattle.xcf_sessions.specs.Seen.{Seen}

by_room : (full : Bool) (P : Reply → Type 0) (reply : Reply) (A B C D E : Type 0) → P machine.history_full → (E → P reply)
    → MatchBool full ((reply ≡ machine.history_full) × A × B) (E × C × D) → P reply
by_room true P reply A B C D E at_end from is = subst P (sym is.0) at_end
by_room false P reply A B C D E at_end from is = from is.0

-- ---- a new version

own_given : (base : Document) (s : State) (call : Call) (reply : Reply) → IsOwnCall call → Answers base s call [] reply → IsOwn reply
own_given base s (machine.edit guard es) reply own is = subst IsOwn (sym is) (own_answer base s (machine.edit guard es) tt)
own_given base s (machine.undo named) reply own is = subst IsOwn (sym is) (own_answer base s (machine.undo named) tt)
own_given base s machine.redo reply own is = subst IsOwn (sym is) (own_answer base s machine.redo tt)
own_given base s (machine.tile stack at) reply own is = absurd own
own_given base s (machine.peek stack at) reply own is = absurd own
own_given base s machine.top reply own is = absurd own

pub own : {K : Type 0} (old new : Seen K) (call : Call) (reply : Reply) → IsOwnCall call → IsAnswered call reply old new → IsOwn reply
own old new call reply is answered =
    by_room _ IsOwn reply _ _ _ _ _ tt (own_given old.base _ call reply is) answered.is

-- ---- a picture

plain_tile : (d : Document) (stack version : ℕ) (at : TileAt) → IsOfTile (tile_reply d stack at (machine.tile_of version))
plain_tile d stack version at =
    cond_both IsOfTile (not (has_stack d stack)) (machine.no_stack stack)
    (cond (not (is_on_grid d.width d.height at)) machine.outside_tile (machine.tile_of version)) tt
    (cond_both IsOfTile (not (is_on_grid d.width d.height at)) machine.outside_tile (machine.tile_of version) tt tt)

may_peek : (base : Document) (s : State) (stack : ℕ) (reply : Reply) → MayPeek base s stack reply → IsOfTile reply
may_peek base s stack (machine.tile_of version) is = tt
may_peek base s stack (machine.stale have seen) is = tt
may_peek base s stack (machine.no_stack node) is = absurd is
may_peek base s stack machine.outside_tile is = absurd is
may_peek base s stack machine.history_full is = absurd is
may_peek base s stack (machine.changed version group next) is = absurd is
may_peek base s stack (machine.refused index cause) is = absurd is
may_peek base s stack machine.nothing_to_undo is = absurd is
may_peek base s stack machine.nothing_to_redo is = absurd is
may_peek base s stack (machine.moved now) is = absurd is
may_peek base s stack (machine.not_top top) is = absurd is
may_peek base s stack (machine.top_is group version) is = absurd is
may_peek base s stack (machine.saved version) is = absurd is
may_peek base s stack (machine.save_fault version) is = absurd is
may_peek base s stack (machine.save_memory version) is = absurd is

peeked : (base : Document) (s : State) (stack : ℕ) (plain reply : Reply) (shown : Option ℕ) → IsOfTile plain
    → MatchOption shown (reply ≡ plain) (λ version. MayPeek base s stack reply) → IsOfTile reply
peeked base s stack plain reply None of_tile is = subst IsOfTile (sym is) of_tile
peeked base s stack plain reply (Some version) of_tile is = may_peek base s stack reply is

tile_given : (base : Document) (s : State) (call : Call) (at : TileAt) (reply : Reply) → IsTileCall call at → Answers base s call [] reply
    → IsOfTile reply
tile_given base s (machine.tile stack at) place reply of_tile is =
    subst IsOfTile (sym is) (plain_tile (machine.document_at base s (machine.latest s)) stack (machine.latest s) at)
tile_given base s (machine.peek stack at) place reply of_tile is =
    let plain = tile_reply (machine.document_at base s (machine.latest s)) stack at (machine.tile_of (machine.latest s)) in
    peeked base s stack plain reply (version_shown plain)
    (plain_tile (machine.document_at base s (machine.latest s)) stack (machine.latest s) at) is
tile_given base s (machine.edit guard es) place reply of_tile is = absurd of_tile
tile_given base s (machine.undo named) place reply of_tile is = absurd of_tile
tile_given base s machine.redo place reply of_tile is = absurd of_tile
tile_given base s machine.top place reply of_tile is = absurd of_tile

pub of_tile : {K : Type 0} (old new : Seen K) (call : Call) (at : TileAt) (reply : Reply) → IsTileCall call at → IsAnswered call reply old new
    → IsOfTile reply
of_tile old new call at reply is answered =
    by_room _ IsOfTile reply _ _ _ _ _ tt (tile_given old.base _ call at reply is) answered.is

-- ---- a save

pub ends_save : (how : SaveEnd) (version : ℕ) → IsOfSave (end_reply how version)
ends_save Done version = tt
ends_save Fault version = tt
ends_save Memory version = tt
