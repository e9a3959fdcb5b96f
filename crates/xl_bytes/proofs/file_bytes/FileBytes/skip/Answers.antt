use Rattle.std.proofs.Common.{◌≡◌, ℕ, List, ◌∙◌, ◌-◌, ◌++◌, ap, sym, drop, length, arith}
use Rattle.std.specs.List.{concat}
use Rattle.xl_bytes.proofs.Parts.{written_back, drop_both}
use Rattle.xl_bytes.proofs.file_bytes.FileBytes.skip.Goals as goal

pub returns : goal.returns
returns c =
    let parts : List (List ℕ) = c.self.inside.parts.items in
    let rest : List ℕ = c.self.inside.own.items in
    let size : length parts ≡ c.self.inside.parts.len = omega (arith, c.self.inside.parts.ok.0) in
    let back = written_back c.skip_parts-rest.new.parts parts c.self.inside.parts.len
    (c.skip_parts-rest.auto.parts ∙ (ap length c.as_mut_slice.ensures.value ∙ size)) in
    let left = ap concat back ∙ (c.skip_parts-rest.ensures.left
    ∙ ap (λ (xs : List (List ℕ)). drop c.args.n (concat xs)) c.as_mut_slice.ensures.value) in
    let more = c.skip_parts-rest.ensures.rest
    ∙ ap (λ (xs : List (List ℕ)). c.args.n - length (concat xs)) c.as_mut_slice.ensures.value in
    let own = c.skip_own.ensures ∙ ap (λ k. drop k rest) more in
    rw (← c.self.view_is) ((λ i. left i ++ own i) ∙ sym (drop_both c.args.n (concat parts) rest))
