use Rattle.std.proofs.Common.{◌≡◌, ℕ, List, [], ◌∷◌, ◌++◌, append_assoc, ◌∙◌, Result, Ok, Err}
use Rattle.std.specs.Prelude.{codes, decimal, String, string_bytes, IfOk}
use Rattle.std.specs.declared.alloc.AllocError.{AllocError}
use Rattle.std.specs.declared.alloc.Global.{Global}
use Rattle.xl_printed.proofs.answers.verdict_line.Goals as goal

-- the pieces of the format, in its order
abbrev in_pieces : (session index : ℕ) → List ℕ
in_pieces session index = codes "rejected 2 " ++ (decimal session ++ (codes "." ++ (decimal index ++ codes "\n")))

-- they are the line
is_line : (r : Result (String Global) AllocError) (session index : ℕ) → IfOk r (λ t. string_bytes t ≡ in_pieces session index)
    → IfOk r (λ t. string_bytes t ≡ (codes "rejected 2 " ++ (decimal session ++ 46 ∷ decimal index)) ++ 10 ∷ [])
is_line (Ok t) session index written = written ∙ simp append_assoc
is_line (Err e) session index written = tt

pub returns-in-Reply : goal.returns-in-Reply
returns-in-Reply c = rw c.in-Reply.is (is_line c.format.result c.in-Reply.session c.in-Reply.index c.format.ensures.ok)
