use Rattle.std.proofs.Common.{ap, ◌∙◌, ◌++◌}
use Rattle.std.specs.List.{concat}
use Rattle.xl_bytes.proofs.Parts.{concat_more}
use Rattle.xl_bytes.proofs.storing.close.Goals as goal

pub returns-clause-ok : goal.returns-clause-ok
returns-clause-ok c =
    ap concat c.push_reserved.ensures.items
    ∙ (concat_more c.reserve.new.self.items c.in_ok-part.part
    ∙ (λ i. concat (c.reserve.ensures.items i) ++ c.in_ok-part.ensures.ok i))
