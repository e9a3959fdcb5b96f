-- A filter that is accepted leaves a document within its limits.
use Rattle.xl_edit.specs.Applied.{at}
use Rattle.xcf.proofs.Outcomes.{filter_leaves}
use Rattle.xcf.proofs.image.Image.filter.Goals as goal

pub invariant_of-self : goal.invariant_of-self
invariant_of-self c =
    filter_leaves (at c.self.inside.document c.self.inside.next_id) (at c.apply.new.doc c.apply.new.next_id) c.args.id.0
    c.args.rect _ c.self.invariant c.first_table-table.ensures.bytes c.in-Ok.ensures
