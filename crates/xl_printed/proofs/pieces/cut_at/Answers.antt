use Rattle.xl_printed.proofs.Cutting.{cut_by_place}
use Rattle.xl_printed.proofs.pieces.cut_at.Goals as goal

pub returns : goal.returns
returns c =
    cut_by_place c.args.separator c.args.bytes.now (λ p. p.0.now) (λ p. p.1.now) c.split_once.result c.split_once.ensures.place
