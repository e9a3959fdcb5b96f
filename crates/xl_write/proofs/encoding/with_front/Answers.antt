use Rattle.std.proofs.Common.{◌∙◌, ◌++◌, ap, List, ℕ}
use Rattle.xl_write.proofs.encoding.with_front.Goals as goal

pub returns : goal.returns
returns c =
    let front = c.in_ok-append.ensures.ok ∙ ap (λ (xs : List ℕ). xs ++ c.args.front.now) c.new-file.ensures in
    c.in_ok-append_all.ensures.ok ∙ (λ i. front i ++ c.skip.ensures i)
