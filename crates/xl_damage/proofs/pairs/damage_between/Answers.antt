use Rattle.std.proofs.Common.{◌++◌, ◌∙◌, ap}
use Rattle.xl_calls.specs.Edits.{edit_of}
use Rattle.xl_regions.specs.Pairs.{pairs_of}
use Rattle.xl_damage.specs.Between.{damage_between}
use Rattle.xl_damage.proofs.Made.{settled}
use Rattle.xl_damage.proofs.pairs.damage_between.Goals as goal

pub returns : goal.returns
returns c =
    c.in_ok-add_pairs.ensures
    ∙ (ap (λ xs. pairs_of xs ++ damage_between c.args.before.now c.args.after.now c.args.next_id (edit_of c.args.edit.now))
    c.new-list.ensures.items
    ∙ settled c.args.before.now c.args.after.now c.args.next_id
    (edit_of c.args.edit.now) c.know_limits.ensures c.requires.positive c.requires.above c.requires.made)
