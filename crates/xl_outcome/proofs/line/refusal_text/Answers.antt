use Rattle.std.proofs.Common.{◌≡◌, ℕ, List, [], ◌∷◌, ◌++◌, append_assoc, ◌∙◌, ap, Result, Ok, Err}
use Rattle.std.specs.Prelude.{codes, decimal, String, string_bytes, IfOk}
use Rattle.std.specs.declared.alloc.AllocError.{AllocError}
use Rattle.std.specs.declared.alloc.Global.{Global}
use Rattle.spec_fields.specs.Kinds.{kind_number}
use Rattle.xl_outcome.proofs.line.refusal_text.Goals as goal

-- the pieces of the format, in its order
abbrev in_pieces : (n at : ℕ) → List ℕ
in_pieces n at = codes "file refused " ++ (decimal n ++ (codes " at " ++ (decimal at ++ codes "\n")))

-- they are the line
is_line : (r : Result (String Global) AllocError) (n k at : ℕ) → n ≡ k → IfOk r (λ s. string_bytes s ≡ in_pieces n at)
    → IfOk r (λ s. string_bytes s ≡ (codes "file refused " ++ (decimal k ++ (codes " at " ++ decimal at))) ++ 10 ∷ [])
is_line (Ok s) n k at e written = written ∙ ap (λ (m : ℕ). in_pieces m at) e ∙ simp append_assoc
is_line (Err x) n k at e written = tt

pub returns : goal.returns
returns c =
    is_line c.format.result c.number_of-kind.result (kind_number c.args.why.kind) c.args.why.at c.number_of-kind.ensures
    c.format.ensures.ok
