-- The layers and groups that a file of bytes has are within the limits.
use Rattle.std.proofs.Common.{◌≡◌, ℕ, zero, suc, ◌+◌, ◌<◌, ◌≤◌, Bool, true, false, List, [], ◌∷◌, ◌++◌, length, refl}
use Rattle.std.proofs.Common.{sym, ◌∙◌, ap, subst, arith}
use Rattle.std.specs.Prelude.{Option, Some, None, option_map, MatchBool}
use Rattle.spec_document.specs.Forest.{none, leaf, group, size, levels, ids}
use Rattle.spec_document.specs.Changes.{above, put_last}
use Rattle.spec_document.specs.declared.Base.{Base}
use Rattle.spec_document.specs.declared.Base.TheVariants.{Rgb, Grey, Indexed}
use Rattle.spec_document.specs.declared.Owner.TheVariants as owners
use Rattle.spec_document.specs.Document.{Document, Nodes, Channel, is_indexed}
use Rattle.spec_document.specs.Limits.{AreBytes, IsSide, IsLayer, IsGroup, IsChannelIfAny, MayHaveGroups, AreNodes}
use Rattle.spec_document.specs.Limits as limits
use Rattle.spec_document.proofs.NodesChanged.{are-above}
use Rattle.spec_props.proofs.Within.{stand, opacity_within, x_within, y_within, kept_within}
use Rattle.spec_file.specs.Placing.{path_to}
use Rattle.spec_file.specs.Layers.{Head, group_of, layer_of}
use Rattle.spec_file.specs.Holds.{HasHead, HasMaskIfAny, Places, AddsGroup, AddsLayer, AddNodes}
use Rattle.spec_file.proofs.NamesWithin.{name_within}
use Rattle.spec_file.proofs.ForestGrows.{size-put_last, levels-put_last, ids-put_last, AreUpTo, next_among}

mapped : (f : Nodes → Nodes) (o : Option Nodes) (new : Nodes) → option_map f o ≡ Some new → (x : Nodes) × (o ≡ Some x) × (f x ≡ new)
mapped f None new e = cc
mapped f (Some x) new e = (x, refl, cc)

are_put : (base : Base) (path : List ℕ) (branch old new : Nodes) → AreNodes base branch → AreNodes base old
    → put_last path branch old ≡ Some new → AreNodes base new
are_put base [] branch old new b p e =
    let is : above old branch ≡ new = cc in subst (AreNodes base) is (are-above base old branch p b)
are_put base (place ∷ path) branch none new b p e = cc
are_put base (zero ∷ path) branch (leaf id w u) new b p e = cc
are_put base (zero ∷ path) branch (group id w c u) new b p e =
    let m = mapped (λ x. group id w x u) (put_last path branch c) new e in
    subst (AreNodes base) m.2 (p.0, (are_put base path branch c m.0 b p.1.0 m.1, p.1.1))
are_put base (suc place ∷ path) branch (leaf id w u) new b p e =
    let m = mapped (leaf id w) (put_last (place ∷ path) branch u) new e in
    subst (AreNodes base) m.2 (p.0, are_put base (place ∷ path) branch u m.0 b p.1 m.1)
are_put base (suc place ∷ path) branch (group id w c u) new b p e =
    let m = mapped (group id w c) (put_last (place ∷ path) branch u) new e in
    subst (AreNodes base) m.2 (p.0, (p.1.0, are_put base (place ∷ path) branch u m.0 b p.1.1 m.1))

-- the nodes are within the limits, and their ids are the numbers up to their count
pub record IsGrown (d : Document) : Type 0 where
  pub nodes : AreNodes d.base d.nodes
  pub ids : AreUpTo (size d.nodes) (ids d.nodes)
  pub low : levels d.nodes ≤ 8

-- so many nodes more, and else the same
pub record GrowsTo (n : ℕ) (old new : Document) : Type 0 where
  pub grown : IsGrown new
  pub same : new ≡ record old { nodes = new.nodes }
  pub count : size new.nodes ≡ size old.nodes + n

-- a single node
record IsSingle (id : ℕ) (base : Base) (branch : Nodes) : Type 0 where
  size_is : size branch ≡ 1
  levels_is : levels branch ≡ 1
  ids_is : ids branch ≡ id ∷ []
  is : AreNodes base branch

places_grown : (old : Document) (h : Head) (branch : Nodes) (new : Document) → length (path_to h.props.list) < 8
    → IsSingle (1 + size old.nodes) old.base branch → IsGrown old
    → Places old h branch new → GrowsTo 1 old new
places_grown old h branch new short single g (nodes, put, is) =
    let path = path_to h.props.list in
    let r = ids-put_last path branch old.nodes nodes put in
    let count : size nodes ≡ size old.nodes + 1 = omega (arith, size-put_last path branch old.nodes nodes put, single.size_is) in
    let among : AreUpTo (size old.nodes + 1) (r.0 ++ ((1 + size old.nodes) ∷ r.1)) =
    next_among (size old.nodes) r.0 r.1 (subst (AreUpTo (size old.nodes)) r.2 g.ids) in
    let numbers : ids nodes ≡ r.0 ++ ((1 + size old.nodes) ∷ r.1) = r.3 ∙ ap (λ xs. r.0 ++ (xs ++ r.1)) single.ids_is in
    let numbered : AreUpTo (size nodes) (ids nodes) =
    subst (λ n. AreUpTo n (ids nodes)) (sym count) (subst (AreUpTo (size old.nodes + 1)) (sym numbers) among) in
    subst (GrowsTo 1 old) (sym is) (record {
      grown = record {
        nodes = are_put old.base path branch old.nodes nodes single.is g.nodes put;
        ids = numbered;
        low = omega (arith, levels-put_last path branch old.nodes nodes put, single.levels_is, g.low, short);
      };
      same = refl;
      count = count;
    })

mask_within : (file : List ℕ) (pointer width height compression : ℕ) (mask : Option Channel) → AreBytes file
    → HasMaskIfAny file pointer width height compression mask
    → IsChannelIfAny owners.Mask width height mask
mask_within file pointer width height compression None all h = tt
mask_within file pointer width height compression (Some m) all (some, h) = record {
  name = subst limits.IsName (sym h.name) (name_within file (pointer + 8) h.text all h.has_name);
  kept = subst (limits.AreKept owners.Mask) (sym h.kept) (kept_within file owners.Mask h.text.next h.props all h.has_props);
  plane = h.plane_is;
}

layer_within : (file : List ℕ) (at : ℕ) (old : Document) (h : Head) (new : Document) → AreBytes file → HasHead file at old h
    → (a : AddsLayer file old h new) → IsLayer old.base (layer_of h a.plane a.mask)
layer_within file at old h new all head a =
    let list = stand file owners.Layer h.text.next h.props.list h.props.end head.props.follow in
    let wide : h.width ≡ a.plane.width = sym a.plane_is.width_is in
    let high : h.height ≡ a.plane.height = sym a.plane_is.height_is in
    record {
      name = name_within file (at + 12) h.text all head.name;
      opacity = opacity_within file h.props.list list;
      kept = kept_within file owners.Layer h.text.next h.props all head.props;
      kind = head.kind_is;
      base_is = head.base;
      x = x_within file h.props.list list;
      y = y_within file h.props.list list;
      width = subst IsSide wide a.width;
      height = subst IsSide high a.height;
      plane = record { width_is = refl; height_is = refl; bpp_is = a.plane_is.bpp_is; plane = a.plane_is.plane };
      mask = subst (λ w. IsChannelIfAny owners.Mask w a.plane.height a.mask) wide
          (subst (λ v. IsChannelIfAny owners.Mask h.width v a.mask) high
          (mask_within file h.mask h.width h.height old.compression a.mask all a.has_mask));
    }

group_within : (file : List ℕ) (at : ℕ) (old : Document) (h : Head) → AreBytes file → HasHead file at old h → IsGroup (group_of h)
group_within file at old h all head = record {
  name = name_within file (at + 12) h.text all head.name;
  opacity = opacity_within file h.props.list (stand file owners.Layer h.text.next h.props.list h.props.end head.props.follow);
  kept = kept_within file owners.Layer h.text.next h.props all head.props;
}

may_have : (base : Base) → is_indexed base ≡ false → MayHaveGroups base
may_have Rgb e = tt
may_have Grey e = tt
may_have Indexed e = cc

node_by : (file : List ℕ) (at : ℕ) (old : Document) (h : Head) (new : Document) (b : Bool) → AreBytes file
    → HasHead file at old h → length (path_to h.props.list) < 8 → IsGrown old
    → MatchBool b (AddsGroup old h new) (AddsLayer file old h new) → GrowsTo 1 old new
node_by file at old h new true all head short g a =
    places_grown old h (group (1 + size old.nodes) (group_of h) none none) new short
    (record {
      size_is = omega arith;
      levels_is = omega arith;
      ids_is = refl;
      is =
          ((may_have old.base a.base, group_within file at old h all head), (tt, tt));
    }) g a.places
node_by file at old h new false all head short g a =
    places_grown old h (leaf (1 + size old.nodes) (layer_of h a.plane a.mask) none) new short
    (record { size_is = omega arith; levels_is = omega arith; ids_is = refl; is = (layer_within file at old h new all head a, tt) })
    g a.places

pub nodes_within : (file : List ℕ) (pointers : List ℕ) (at : ℕ) (old new : Document) → AreBytes file → IsGrown old
    → AddNodes file at pointers old new → GrowsTo (length pointers) old new
nodes_within file [] at old new all g a =
    subst (GrowsTo 0 old) (sym a.1) (record { grown = g; same = refl; count = omega arith })
nodes_within file (pointer ∷ pointers) at old new all g (word, some, (mid, node, rest)) =
    let one = node_by file pointer old node.head mid _ all node.has_head node.short_path g node.adds in
    let more = nodes_within file pointers (at + 4) mid new all one.grown rest in
    let with_nodes : Document → Document = λ d. record d { nodes = new.nodes } in
    record {
      grown = more.grown;
      same = more.same ∙ ap with_nodes one.same;
      count = omega (arith, more.count, one.count);
    }
