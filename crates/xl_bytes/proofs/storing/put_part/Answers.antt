use Rattle.std.proofs.Common.{◌≡◌, ℕ, List, ◌∙◌, ◌∷◌, [], ◌++◌, ap, length, arith}
use Rattle.std.specs.List.{concat}
use Rattle.xl_bytes.proofs.Parts.{written_back, concat_more}
use Rattle.xl_bytes.proofs.storing.put_part.Goals as goal

pub returns-clause-ok : goal.returns-clause-ok
returns-clause-ok c =
    let old : List (List ℕ) = c.args.parts.now.items in
    let same : c.taken_by_last.new.parts ≡ old =
    c.taken_by_last.ensures.apart c.if-taken_by_last.false ∙ c.as_mut_slice.ensures.value in
    let size : length old ≡ c.args.parts.now.len = omega (arith, c.args.parts.now.ok.0) in
    let back = written_back c.taken_by_last.new.parts old c.args.parts.now.len (ap length same ∙ size) in
    ap concat c.in_ok-push.ensures.items
    ∙ (ap (λ (xs : List (List ℕ)). concat (xs ++ c.args.part ∷ [])) (back ∙ same)
    ∙ concat_more old c.args.part)
