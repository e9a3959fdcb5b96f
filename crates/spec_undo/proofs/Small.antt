-- The tiles that differ between two documents are fewer than 2 ^ 32: a plane has at most 65536, a document few planes.
use Rattle.std.proofs.Common.{ℕ, ◌+◌, ◌*◌, ◌^◌, ◌<◌, ◌≤◌, Bool, true, false, cond, List, [], ◌∷◌, length, sym}
use Rattle.std.proofs.Common.{subst, arith}
use Rattle.std.specs.Prelude.{Option, Some, None, filter}
use Rattle.std.specs.List.{AllByRecursion}
use Rattle.std.proofs.Math.Nat.{mul-le-mul}
use Rattle.std.proofs.lemmas.List.Sums.{count_by-le-length, length-filter}
use Rattle.spec_document.specs.Grid.{all_tiles, tiles_along}
use Rattle.spec_document.specs.Forest.{none, leaf, group, Found, nothing, a_leaf, a_group, size, find}
use Rattle.spec_document.specs.declared.Base.{Base}
use Rattle.spec_document.specs.declared.Owner.{Owner}
use Rattle.spec_document.specs.declared.Owner.TheVariants as owner
use Rattle.spec_document.specs.Plane.{Plane}
use Rattle.spec_document.specs.Document.{Channel, Layer, Group, Nodes, Document}
use Rattle.spec_document.specs.Limits.{AreNodes, IsChannel, IsChannelIfAny, IsDocument, IsLayer, IsSide}
use Rattle.spec_document.proofs.FoundLayers.{IsFound, found_layer}
use Rattle.spec_hierarchy.proofs.TilesOfPlane.{length-all_tiles}
use Rattle.spec_undo.specs.Planes.{are_alike, changed_tiles, differ_at, tile_count}
use Rattle.spec_undo.specs.Changed.{changed_in, changed_channels, changed_if_any, changed_layer, channels_count}
use Rattle.spec_undo.specs.Changed.{count_if_alone, count_if_any, layer_count, over_layers}

-- ---- planes

few_tiles : (p : Plane) → IsSide p.width → IsSide p.height → tile_count p ≤ 65536
few_tiles p width height =
    let across : tiles_along p.width ≤ 256 = omega (arith, width.1) in
    let down : tiles_along p.height ≤ 256 = omega (arith, height.1) in
    let all : tile_count p ≤ 256 * 256 = mul-le-mul down across in
    omega (arith, all)

either_way : (alike : Bool) (k m n : ℕ) → k ≤ m → m ≤ 65536 → n ≤ 65536 → cond alike k (m + n) ≤ 131072
either_way true k m n few a b = omega (arith, few, a)
either_way false k m n few a b = omega (arith, a, b)

few_changed : (p q : Plane) → tile_count p ≤ 65536 → tile_count q ≤ 65536 → changed_tiles p q ≤ 131072
unfolding changed_tiles
few_changed p q a b =
    let all = all_tiles p.width p.height in
    let some : length (filter (differ_at p q) all) ≤ tile_count p =
    omega (arith, length-filter (differ_at p q) all, count_by-le-length (differ_at p q) all, length-all_tiles p.width p.height) in
    either_way (are_alike p q) (length (filter (differ_at p q) all)) (tile_count p) (tile_count q) some a b

-- ---- channels, masks and selections

few_of_channel : (o : Owner) (w h : ℕ) (c : Channel) → IsSide w → IsSide h → IsChannel o w h c
    → tile_count c.plane ≤ 65536
few_of_channel o w h c width height is =
    few_tiles c.plane (subst IsSide (sym is.plane.width_is) width) (subst IsSide (sym is.plane.height_is) height)

few_if_any : (o : Owner) (w h : ℕ) (c : Option Channel) → IsSide w → IsSide h → IsChannelIfAny o w h c
    → count_if_any c ≤ 65536
few_if_any o w h None width height is = omega arith
few_if_any o w h (Some c) width height is = few_of_channel o w h c width height is

few_between : (c d : Option Channel) → count_if_any c ≤ 65536 → count_if_any d ≤ 65536
    → changed_if_any c d ≤ 131072
few_between None d a b = omega (arith, b)
few_between (Some c) None a b = omega (arith, a)
few_between (Some c) (Some d) a b = few_changed c.plane d.plane a b

few_of_channels : (w h : ℕ) (cs : List Channel) → IsSide w → IsSide h → AllByRecursion (IsChannel owner.Channel w h) cs
    → channels_count cs ≤ 65536 * length cs
few_of_channels w h [] width height each = omega arith
few_of_channels w h (c ∷ cs) width height each =
    omega (arith, few_of_channel owner.Channel w h c width height each.0, few_of_channels w h cs width height each.1)

few_between_channels : (w h u v : ℕ) (cs ds : List Channel) → IsSide w → IsSide h → IsSide u → IsSide v
    → AllByRecursion (IsChannel owner.Channel w h) cs → AllByRecursion (IsChannel owner.Channel u v) ds
    → changed_channels cs ds ≤ 65536 * (length cs + length ds)
few_between_channels w h u v [] ds width height other_width other_height each others =
    omega (arith, few_of_channels u v ds other_width other_height others)
few_between_channels w h u v (c ∷ cs) [] width height other_width other_height each others =
    omega (arith, few_of_channels w h (c ∷ cs) width height each)
few_between_channels w h u v (c ∷ cs) (d ∷ ds) width height other_width other_height each others =
    let one = few_changed c.plane d.plane (few_of_channel owner.Channel w h c width height each.0)
    (few_of_channel owner.Channel u v d other_width other_height others.0) in
    omega (arith, one, few_between_channels w h u v cs ds width height other_width other_height each.1 others.1)

-- ---- layers

few_of_plane : (base : Base) (l : Layer) → IsLayer base l → tile_count l.plane ≤ 65536
few_of_plane base l is = few_tiles l.plane is.width is.height

few_of_mask : (base : Base) (l : Layer) → IsLayer base l → count_if_any l.mask ≤ 65536
few_of_mask base l is = few_if_any owner.Mask l.plane.width l.plane.height l.mask is.width is.height is.mask

few_of_layer : (base : Base) (l : Layer) → IsLayer base l → layer_count l ≤ 131072
few_of_layer base l is = omega (arith, few_of_plane base l is, few_of_mask base l is)

few_between_layers : (base other : Base) (l : Layer) (found : Found Layer Group) → IsLayer base l → IsFound other found
    → changed_layer l found ≤ 262144
few_between_layers base other l nothing is there = omega (arith, few_of_layer base l is)
few_between_layers base other l (a_group g children) is there = omega (arith, few_of_layer base l is)
few_between_layers base other l (a_leaf m) is there =
    let plane = few_changed l.plane m.plane (few_of_plane base l is) (few_of_plane other m there) in
    let mask = few_between l.mask m.mask (few_of_mask base l is) (few_of_mask other m there) in
    omega (arith, plane, mask)

few_if_alone : (base other : Base) (l : Layer) (found : Found Layer Group) → IsLayer base l → IsFound other found
    → count_if_alone l found ≤ 262144
few_if_alone base other l nothing is there = omega (arith, few_of_layer base l is)
few_if_alone base other l (a_leaf m) is there = omega arith
few_if_alone base other l (a_group g children) is there = omega (arith, few_of_layer base l is)

few_over : (count : Layer → Found Layer Group → ℕ) (base other : Base) (nodes others : Nodes)
    → ((l : Layer) (found : Found Layer Group) → IsLayer base l → IsFound other found → count l found ≤ 262144)
    → AreNodes base nodes → AreNodes other others → over_layers count others nodes ≤ 262144 * size nodes
few_over count base other none others each is there = omega arith
few_over count base other (leaf id l under) others each is there =
    let one = each l (find id others) is.0 (found_layer other id others there) in
    omega (arith, one, few_over count base other under others each is.1 there)
few_over count base other (group id g children under) others each is there =
    let inside = few_over count base other children others each is.1.0 there in
    let below = few_over count base other under others each is.1.1 there in
    omega (arith, inside, below)

-- ---- documents

-- a count of them fits 32 bits
pub changed_fits : (before after : Document) → IsDocument before → IsDocument after → changed_in before after < 2 ^ 32
changed_fits before after is other =
    let gone = few_over changed_layer before.base after.base before.nodes after.nodes
    (few_between_layers before.base after.base) is.nodes other.nodes in
    let come = few_over count_if_alone after.base before.base after.nodes before.nodes
    (few_if_alone after.base before.base) other.nodes is.nodes in
    let channels = few_between_channels before.width before.height after.width after.height before.channels after.channels
    is.width is.height other.width other.height is.channels other.channels in
    let selections = few_between before.selection after.selection
    (few_if_any owner.Channel before.width before.height before.selection is.width is.height is.selection)
    (few_if_any owner.Channel after.width after.height after.selection other.width other.height other.selection) in
    omega (arith, gone, come, channels, selections, is.few, other.few, is.few_channels, other.few_channels)
