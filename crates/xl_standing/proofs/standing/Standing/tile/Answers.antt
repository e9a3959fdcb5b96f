-- The slot of the tile is clean from then on.
use Rattle.std.proofs.Common.{◌≡◌, ◌+◌, ◌≤◌, not, sym, ◌∙◌, ap, subst}
use Rattle.std.specs.Prelude.{reverse}
use Rattle.spec_history.specs.Machine as machine
use Rattle.xl_desk.specs.Needs.{tile_cost}
use Rattle.spec_standing.specs.Now.{Now, Gives, with_cache, shown}
use Rattle.xl_desk.proofs.CleanTiles.{response-tile}
use Rattle.xl_standing.proofs.standing.Standing.tile.Goals as goal

pub returns-clause-response : goal.returns-clause-response
returns-clause-response g c =
    let what : Now = record {
      document = c.self.inside.document;
      undo = reverse c.self.inside.undo;
      redo = reverse c.self.inside.redo;
      next_id = c.self.inside.next_id;
      next_group = c.self.inside.next_group;
      version = c.self.inside.version;
      cache = c.self.inside.cache;
    } in
    subst (λ s. Gives (shown s c.args.node.0 c.args.at) (machine.tile_of c.self.inside.version)
    (with_cache what c.show.new.cache)) c.self.view_is
    (response-tile what c.show.new.cache c.args.node.0 c.args.at (ap not (sym c.has_stack.ensures ∙ c.if-not-has_stack.false))
    (ap not (sym c.has_tile.ensures ∙ c.if-not-has_tile.false)) c.in_ok-show.ensures.cache)

pub returns-clause-cost : goal.returns-clause-cost
returns-clause-cost g c =
    subst (λ (n : Now). c.show.new.steps ≤ c.args.steps.now + tile_cost n.cache n.document c.args.node.0 c.args.at) c.self.view_is
    c.show.ensures.cost

pub returns-in_err-show-clause-cost : goal.returns-in_err-show-clause-cost
returns-in_err-show-clause-cost g c =
    subst (λ (n : Now). c.show.new.steps ≤ c.args.steps.now + tile_cost n.cache n.document c.args.node.0 c.args.at) c.self.view_is
    c.show.ensures.cost
