-- The edits of a group are those of its call; so is the tile.
use Rattle.std.proofs.Common.{rules, ◌≡◌, ◌+◌, ◌≤◌, sym, ◌∙◌, ap, subst}
use Rattle.spec_history.specs.Machine as machine
use Rattle.xl_desk.specs.Needs.{call_cost}
use Rattle.spec_standing.specs.Now.{response, Gives}
use Rattle.xl_calls.specs.Replies.{reply_of}
use Rattle.xl_calls.specs.Calls.{call_of}
use Rattle.xl_calls.specs.Edits.{edits_of}
use Rattle.spec_standing.proofs.Moving.{part_asked}
use Rattle.xl_standing.proofs.standing.Standing.answer.Goals as goal

pub returns-in-Edit : goal.returns-in-Edit
returns-in-Edit g c =
    let edit = machine.edit c.in-Edit.group.guard (edits_of c.as_slice-edits.result.now) in
    let same : call_of c.args.call.now ≡ edit = search rules in
    record {
      response = search rules;
      asked = search rules;
      bytes = search rules;
      shown = search rules;
      served = search rules;
      steps = search rules;
      cost = search rules;
      as_before = search rules;
      chest = part_asked c.edit.result c.args.self.now edit (call_of c.args.call.now) _ _ (sym same) c.edit.ensures.chest;
      succeeds = search rules;
    }

pub returns-in_ok-tile-in-Tile : goal.returns-in_ok-tile-in-Tile
returns-in_ok-tile-in-Tile g c =
    let same : call_of c.args.call.now ≡ machine.tile c.in-Tile.node.0 c.in-Tile.at = search rules in
    let reply = c.without_filters-in-Tile.ensures.reply in
    let tile = c.in_ok-tile-in-Tile.ensures in
    record {
      response = subst (λ call. Gives (response c.args.self.now call c.args.seen c.without_filters-in-Tile.result.tables)
          (reply_of c.without_filters-in-Tile.result.reply) c.tile.new.self) (sym same)
          (ap reply_of reply ∙ tile.response.0, tile.response.1);
      asked = search rules;
      bytes = search rules;
      shown = search rules;
      served = record {
        desk = search rules;
        out_as_before = tt;
        no_tile = λ none. tile.served.no_tile (ap (λ r. machine.version_shown (reply_of r)) (sym reply) ∙ none);
        steps_as_before = tt;
      };
      steps = search rules;
      cost = subst (λ call. c.tile.new.steps
          ≤ c.args.steps.now + call_cost c.args.self.now.cache c.args.self.now.document call) (sym same) c.tile.ensures.cost;
      as_before = tt;
      chest = tt;
      succeeds = search rules;
    }
