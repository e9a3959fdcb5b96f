use Rattle.std.proofs.Common.{◌≡◌, ℕ, zero, suc, ◌<◌, Bool, true, false, eqb, List, [], ◌∷◌, length, get_or, sym, ap, arith, eq-eqb}
use Rattle.std.specs.Prelude.{◌||◌}
use Rattle.std.specs.List.{list_any}
use Rattle.xl_tree.specs.declared.naming.NodeId.{NodeId}
use Rattle.xl_regions.specs.Pairs.{numbers}
use Rattle.xl_regions.proofs.stacks.has_stack.Goals as goal

or_true : (a b : Bool) → b ≡ true → (a || b) ≡ true
or_true true b e = cc
or_true false b e = e

there : (xs : List NodeId) (i k : ℕ) (d : NodeId) → i < length xs → (get_or xs i d).0 ≡ k
    → list_any (λ m. eqb m k) (numbers xs) ≡ true
there [] i k d h e = absurd (omega (arith, h))
there (x ∷ xs) zero k d h e = ap (λ b. b || list_any (λ m. eqb m k) (numbers xs)) (eq-eqb x.0 k e)
there (x ∷ xs) (suc i) k d h e = or_true (eqb x.0 k) (list_any (λ m. eqb m k) (numbers xs)) (there xs i k d (omega (arith, h)) e)

pub returns-then-other-stack : goal.returns-then-other-stack
returns-then-other-stack c =
    sym (there c.args.stacks.now c.loop-other.other-index c.args.stack.0 _ c.loop-other-test.true c.if-other-stack.true)
