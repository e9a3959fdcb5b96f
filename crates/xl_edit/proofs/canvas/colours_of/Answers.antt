-- One colour more.
use Rattle.std.proofs.Common.{ℕ, ◌*◌, List, [], ◌∷◌, ◌++◌, sym, ◌∙◌, ap, map, take, drop}
use Rattle.spec_document.specs.Rect.{count_from}
use Rattle.spec_document.proofs.Counted.{counted_more}
use Rattle.xl_edit.proofs.canvas.colours_of.Goals as goal

pub loop-i-preserved : goal.loop-i-preserved
loop-i-preserved c =
    let of : ℕ → List ℕ = λ i. take 3 (drop (3 * i) c.args.bytes.now) in
    c.in_ok-push.ensures.ok ∙ (ap (λ xs. xs ++ c.colour.result ∷ []) c.loop-i.invariant
    ∙ (ap (λ x. map of (count_from 0 c.loop-i.i) ++ x ∷ []) c.colour.ensures ∙ sym (counted_more of c.loop-i.i)))
