use Rattle.std.proofs.Common.{◌++◌, ◌∙◌, ap}
use Rattle.xl_calls.specs.Edits.{edit_of}
use Rattle.xl_regions.specs.Pairs.{pairs_of}
use Rattle.xl_damage.specs.Between.{damage_between}
use Rattle.xl_damage.proofs.Made.{painted}
use Rattle.xl_damage.proofs.pairs.damage_before.Goals as goal

pub returns : goal.returns
returns c =
    let edit = edit_of c.args.edit.now in
    c.in_ok-add_pairs.ensures
    ∙ (ap (λ xs. pairs_of xs ++ damage_between c.args.before.now c.args.before.now 0 edit) c.new-list.ensures.items
    ∙ painted c.args.before.now 0 edit c.requires.paints.0 c.requires.paints.1)
