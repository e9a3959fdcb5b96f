-- The values of a stack's nodes, of which some are made and some are left.
use Rattle.std.proofs.Common.{◌≡◌, ℕ, ◌+◌, ◌≤◌, List, [], ◌∷◌, ◌++◌, map, sym, ap, ◌∙◌, subst, arith, append_assoc}
use Rattle.std.proofs.lemmas.List.{map_push}
use Rattle.serde_json.specs.Data.{Data}
use Rattle.serde_json.specs.View.{view}
use Rattle.serde_json.specs.declared.value.Value.{Value}
use Rattle.spec_document.specs.Forest.{Forest, leaf, group, size}
use Rattle.spec_listing.specs.Listing.{layer_node, group_node, nodes}
use Rattle.xl_doc.specs.Nodes.{MarksAgree, group_of, layer_of, nodes_of}
use Rattle.xl_doc.specs.declared.node.Node.{Node}

pub record IsUnderWay (values : List Value) (rest all : Forest Node Node) : Type 0 where
  pub same : map view values ++ nodes (nodes_of rest) ≡ nodes (nodes_of all)
  pub marks : MarksAgree rest
  pub small : size rest ≤ size all

-- a value more stands before what is left
one_more : (values more : List Value) (v : Value) (d : Data) (left : List Data) → view v ≡ d → more ≡ values ++ v ∷ []
    → map view more ++ left ≡ map view values ++ d ∷ left
one_more values more v d left seen is =
    ap (λ vs. map view vs ++ left) is
    ∙ (ap (λ ds. ds ++ left) (map_push view values v)
    ∙ (append_assoc (map view values) (view v ∷ []) left
    ∙ ap (λ e. map view values ++ e ∷ left) seen))

pub leaf_more : (values more : List Value) (v : Value) (rest all under : Forest Node Node) (id : ℕ) (n : Node)
    → IsUnderWay values rest all → leaf id n under ≡ rest → 1 + size under ≡ size rest
    → view v ≡ layer_node id (layer_of n) → more ≡ values ++ v ∷ []
    → IsUnderWay more under all
leaf_more values more v rest all under id n way parts falls seen is =
    let small = way.small in
    record {
      same =
          one_more values more v (layer_node id (layer_of n)) (nodes (nodes_of under)) seen is
          ∙ (ap (λ f. map view values ++ nodes (nodes_of f)) parts ∙ way.same);
      marks = (subst MarksAgree (sym parts) way.marks).1;
      small = omega arith;
    }

pub group_more : (values more : List Value) (v : Value) (rest all children under : Forest Node Node) (id : ℕ) (n : Node)
    → IsUnderWay values rest all → group id n children under ≡ rest → 1 + size children + size under ≡ size rest
    → view v ≡ group_node id (group_of n) (nodes (nodes_of children)) → more ≡ values ++ v ∷ []
    → IsUnderWay more under all
group_more values more v rest all children under id n way parts falls seen is =
    let small = way.small in
    record {
      same =
          one_more values more v (group_node id (group_of n) (nodes (nodes_of children))) (nodes (nodes_of under)) seen is
          ∙ (ap (λ f. map view values ++ nodes (nodes_of f)) parts ∙ way.same);
      marks = (subst MarksAgree (sym parts) way.marks).1.1;
      small = omega arith;
    }
