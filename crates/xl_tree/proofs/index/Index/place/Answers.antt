use Rattle.std.proofs.Common.{sym, ◌∙◌, ap}
use Rattle.xl_tree.specs.Index.{place_at}
use Rattle.xl_tree.proofs.Ascending.{gap_none}
use Rattle.xl_tree.proofs.index.Index.place.Goals as goal

pub returns-in-Err : goal.returns-in-Err
returns-in-Err c =
    sym (gap_none c.args.id _ _ c.in-Err.ensures.gap)
    ∙ ap (λ places. place_at places c.args.id) (c.as_slice.ensures.value ∙ c.self.view_is)
