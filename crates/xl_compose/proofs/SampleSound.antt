-- The document of the tests of jobs is within the limits.
use Rattle.std.proofs.Common.{◌≡◌, [], ◌∷◌, refl, arith, subst, sym}
use Rattle.std.proofs.lemmas.Int.{ints}
use Rattle.std.specs.List.{IsDistinct}
use Rattle.spec_document.specs.declared.Owner.TheVariants as owners
use Rattle.spec_document.specs.Limits.{AreIds, IsDocument}
use Rattle.spec_document.specs.Document.{Document}
use Rattle.spec_document.specs.Forest.{Forest, none, leaf, group}
use Rattle.xl_doc.specs.declared.node.Node.{Node}
use Rattle.xl_doc.specs.Nodes.{nodes_of}
use Rattle.xl_doc.specs.Sound.{IsSound}
use Rattle.xl_doc.proofs.Sample.{no_name, none_kept, even_is_plane, sheet_is_channel}
use Rattle.xl_compose.specs.Sample.{inner, outer, sample}

one_two : AreIds (1 ∷ 2 ∷ [])
unfolding IsDistinct
one_two = record {
  distinct = ((refl, tt), (tt, tt));
  positive = (omega arith, (omega arith, tt));
  word =
      (omega arith, (omega arith, tt));
}

sample_is_document : IsDocument sample
sample_is_document = record {
  width = (omega arith, omega arith);
  height = (omega arith, omega arith);
  compression = omega arith;
  colours = refl;
  kept = none_kept owners.Image;
  nodes = (
    (tt, record { name = no_name; opacity = omega arith; kept = none_kept owners.Layer }),
    (
      (
        record {
          name = no_name;
          opacity = omega arith;
          kept = none_kept owners.Layer;
          kind = omega arith;
          base_is = refl;
          x = (omega (arith, ints), omega (arith, ints));
          y = (omega (arith, ints), omega (arith, ints));
          width = (omega arith, omega arith);
          height = (omega arith, omega arith);
          plane = even_is_plane 3 2 3 (10 ∷ 20 ∷ 30 ∷ []) (omega arith, (omega arith, (omega arith, tt)));
          mask = sheet_is_channel owners.Mask 3 2 100 (omega arith);
        },
        tt,
      ),
      tt,
    ),
  );
  ids = one_two;
  few = omega arith;
  low = omega arith;
  channels = tt;
  few_channels = omega arith;
  selection = tt;
  area = omega arith;
  kept_bytes = omega arith;
}

-- so is the document with this tree
pub sample_sound : (tree : Forest Node Node) (d : Document) → tree ≡ group 1 outer (leaf 2 inner none) none
    → d ≡ record sample { nodes = nodes_of tree } → IsSound tree d
sample_sound tree d tree_is d_is =
    let P : Forest Node Node → Type 0 = λ t. IsSound t (record sample { nodes = nodes_of t }) in
    let Q : Document → Type 0 = IsSound tree in
    subst Q (sym d_is) (subst P (sym tree_is) (record { marks = (tt, ((tt, tt), tt)); limits = sample_is_document }))
