-- What was in a node that is lent to be written.
use Rattle.std.proofs.Common.{◌≡◌, sym, ◌∙◌, ap}
use Rattle.std.specs.Prelude.{Option, Some, None, option_map}
use Rattle.std.specs.Borrow.{MutBor}
use Rattle.xl_doc.specs.declared.node.Node.{Node}

pub lent : (result : Option (MutBor Node)) (was : Option Node) (node : MutBor Node)
    → option_map (λ (r : MutBor Node). r.now) result ≡ was → result ≡ Some node → was ≡ Some node.now
lent result was node e is = sym e ∙ ap (option_map (λ (r : MutBor Node). r.now)) is

pub not_lent : (result : Option (MutBor Node)) (was : Option Node) → option_map (λ (r : MutBor Node). r.now) result ≡ was
    → result ≡ None → was ≡ None
not_lent result was e is = sym e ∙ ap (option_map (λ (r : MutBor Node). r.now)) is
