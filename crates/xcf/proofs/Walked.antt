-- What lies below a node has its layers and groups where the tree says, as the whole has.
use Rattle.std.proofs.Common.{◌≡◌, ℕ, ◌+◌, ◌≤◌, arith, sym, subst, ap, ◌∙◌}
use Rattle.spec_document.specs.Forest.{Forest, leaf, group, levels}
use Rattle.xl_doc.specs.Nodes.{MarksAgree}
use Rattle.xl_doc.specs.declared.node.Node.{Node}

pub leaf_under : (id : ℕ) (n : Node) (under nodes : Forest Node Node) → leaf id n under ≡ nodes → MarksAgree nodes → MarksAgree under
leaf_under id n under nodes parts agree = (subst MarksAgree (sym parts) agree).1

pub group_children : (id : ℕ) (n : Node) (children under nodes : Forest Node Node) → group id n children under ≡ nodes
    → MarksAgree nodes → MarksAgree children
group_children id n children under nodes parts agree = (subst MarksAgree (sym parts) agree).1.0

pub group_under : (id : ℕ) (n : Node) (children under nodes : Forest Node Node) → group id n children under ≡ nodes
    → MarksAgree nodes → MarksAgree under
group_under id n children under nodes parts agree = (subst MarksAgree (sym parts) agree).1.1

-- ---- and no node stands deeper than the whole is

pub low_leaf : (id depth : ℕ) (n : Node) (under nodes : Forest Node Node) → leaf id n under ≡ nodes → depth + levels nodes ≤ 8
    → depth + levels under ≤ 8
low_leaf id depth n under nodes parts low = let whole = ap levels parts in omega (arith, whole, low)

pub low_children : (id depth : ℕ) (n : Node) (children under nodes : Forest Node Node) → group id n children under ≡ nodes
    → depth + levels nodes ≤ 8 → depth + 1 + levels children ≤ 8
low_children id depth n children under nodes parts low = let whole = ap levels parts in omega (arith, whole, low)

pub low_under : (id depth : ℕ) (n : Node) (children under nodes : Forest Node Node) → group id n children under ≡ nodes
    → depth + levels nodes ≤ 8 → depth + levels under ≤ 8
low_under id depth n children under nodes parts low = let whole = ap levels parts in omega (arith, whole, low)
