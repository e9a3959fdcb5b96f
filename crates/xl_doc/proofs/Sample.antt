-- The document of the tests is within the limits.
use Rattle.std.proofs.Common.{◌≡◌, ℕ, ◌<◌, List, [], ◌∷◌, refl, arith, subst, sym, ◌∙◌}
use Rattle.std.proofs.lemmas.Int.{ints}
use Rattle.std.specs.Prelude.{Some, slice_index}
use Rattle.std.specs.List.{IsDistinct}
use Rattle.spec_document.specs.declared.Owner.{Owner}
use Rattle.spec_document.specs.declared.Owner.TheVariants as owners
use Rattle.spec_document.specs.Limits.{AreBytes, AreIds, AreKept, IsChannel, IsDocument, IsName, IsPlaneOf}
use Rattle.spec_document.specs.Forest.{Forest, none, leaf}
use Rattle.spec_document.specs.Changes.{put_last}
use Rattle.spec_document.specs.Document.{Document}
use Rattle.xl_tree.specs.Places.{alone}
use Rattle.xl_doc.specs.declared.node.Node.{Node}
use Rattle.xl_doc.specs.Nodes.{nodes_of, is_group_body}
use Rattle.xl_doc.specs.Sound.{IsSound}
use Rattle.spec_document.proofs.BytesMade.{plane_made, index_byte}
use Rattle.xl_doc.specs.Sample.{even, hat, sample, sheet}

pub no_name : IsName []
no_name = record { short = omega arith; bytes = tt; no_zero = tt }

pub none_kept : (owner : Owner) → AreKept owner []
none_kept owner = record { few = omega arith; each = tt }

pub even_is_plane : (w h bpp : ℕ) (pixel : List ℕ) → AreBytes pixel → IsPlaneOf w h bpp (even w h bpp pixel)
even_is_plane w h bpp pixel bytes = plane_made (λ x y c. slice_index pixel c) w h bpp (λ x y c. index_byte pixel c bytes)

pub sheet_is_channel : (owner : Owner) (w h value : ℕ) → value < 256 → IsChannel owner w h (sheet w h value)
sheet_is_channel owner w h value byte =
    record { name = no_name; kept = none_kept owner; plane = even_is_plane w h 1 (value ∷ []) (byte, tt) }

seven : AreIds (7 ∷ [])
unfolding IsDistinct
seven = record { distinct = (tt, tt); positive = (omega arith, tt); word = (omega arith, tt) }

pub sample_is_document : IsDocument sample
sample_is_document = record {
  width = (omega arith, omega arith);
  height = (omega arith, omega arith);
  compression = omega arith;
  colours = refl;
  kept = none_kept owners.Image;
  nodes = (
    record {
      name = record {
        short = omega arith;
        bytes = (omega arith, (omega arith, (omega arith, tt)));
        no_zero = (λ e. omega (arith, e), (λ e. omega (arith, e), (λ e. omega (arith, e), tt)));
      };
      opacity = omega arith;
      kept = none_kept owners.Layer;
      kind = omega arith;
      base_is = refl;
      x = (omega (arith, ints), omega (arith, ints));
      y = (omega (arith, ints), omega (arith, ints));
      width = (omega arith, omega arith);
      height = (omega arith, omega arith);
      plane = even_is_plane 3 2 3 (10 ∷ 20 ∷ 30 ∷ []) (omega arith, (omega arith, (omega arith, tt)));
      mask = sheet_is_channel owners.Mask 3 2 255 (omega arith);
    },
    tt,
  );
  ids = seven;
  few = omega arith;
  low = omega arith;
  channels = tt;
  few_channels = omega arith;
  selection = sheet_is_channel owners.Channel 10 10 0 (omega arith);
  area = omega arith;
  kept_bytes = omega arith;
}

-- so is the document with this tree
pub sample_sound : (old tree : Forest Node Node) (node : Node) (d : Document) → old ≡ none → node ≡ hat
    → put_last [] (alone (is_group_body node.body) 7 node) old ≡ Some tree → d ≡ record sample { nodes = nodes_of tree }
    → IsSound tree d
sample_sound old tree node d empty node_is put d_is =
    let e : Some (leaf 7 hat none) ≡ Some tree =
    sym (λ i. put_last [] (alone (is_group_body (node_is i).body) 7 (node_is i)) (empty i)) ∙ put in
    let is : leaf 7 hat none ≡ tree = cc in
    let P : Forest Node Node → Type 0 = λ t. IsSound t (record sample { nodes = nodes_of t }) in
    let Q : Document → Type 0 = IsSound tree in
    subst Q (sym d_is) (subst P is (record { marks = (tt, tt); limits = sample_is_document }))
