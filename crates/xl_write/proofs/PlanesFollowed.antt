-- A coder follows the planes of one piece after another.
use Rattle.std.proofs.Common.{◌≡◌, ℕ, suc, ◌+◌, ◌<◌, List, [], ◌∷◌, ◌++◌, length, map, take, get_or, sym, ap, subst, ◌∙◌, arith}
use Rattle.std.proofs.Common.{append-nil}
use Rattle.std.specs.Prelude.{flat_map, Option, Some, None}
use Rattle.std.proofs.lemmas.List.{map_more}
use Rattle.std.proofs.lemmas.List.Concat.{flat_map-append}
use Rattle.spec_document.specs.Forest.{leaf, group}
use Rattle.spec_document.specs.Plane.{Plane}
use Rattle.spec_document.specs.Document.{Document, Nodes, Layer, Group, Channel}
use Rattle.spec_hierarchy.specs.BytePlanes.{byte_planes}
use Rattle.spec_layout.specs.BytePlanes.{mask_planes, item_planes, sheet_planes, planes_of}
use Rattle.spec_layout.specs.Layout.{Item, Sheet, layer_item, group_as_item, items_from, plain_sheet, sheets}
use Rattle.xl_rle.specs.Follows.{FollowsEach}
use Rattle.xl_rle.proofs.Following.{follows-append}

-- the planes of nodes, the first of them with this place below the path
abbrev pub node_planes : Document → (path : List ℕ) → (place : ℕ) → Nodes → List (List ℕ)
node_planes d path place ns = flat_map (item_planes d.compression) (items_from d path place ns)

module _ {S : Type 0} (follows : S → List ℕ → S → Type 0) where
  abbrev pub Followed : (before : S) → (planes : List (List ℕ)) → (after : S) → Type 0
  Followed before planes after = FollowsEach follows before planes after

  -- no mask is behind the plane
  pub without_mask : (compression : ℕ) (p : Plane) (m : Option Channel) (before after : S) → m ≡ None
      → Followed before (byte_planes compression p) after
      → Followed before (byte_planes compression p ++ mask_planes compression m) after
  without_mask compression p m before after is followed =
      let planes = byte_planes compression p in
      subst (λ m. Followed before (planes ++ mask_planes compression m) after) (sym is)
      (subst (λ ps. Followed before ps after) (sym (append-nil planes)) followed)

  -- a mask is behind the plane
  pub with_mask : (compression : ℕ) (p : Plane) (m : Option Channel) (own : Channel) (before between after : S) → m ≡ Some own
      → Followed before (byte_planes compression p) between → Followed between (byte_planes compression own.plane) after
      → Followed before (byte_planes compression p ++ mask_planes compression m) after
  with_mask compression p m own before between after is first second =
      let planes = byte_planes compression p in
      subst (λ m. Followed before (planes ++ mask_planes compression m) after) (sym is)
      (follows-append follows planes (byte_planes compression own.plane) before between after first second)

  pub leaf_followed : (d : Document) (path : List ℕ) (place id : ℕ) (l : Layer) (under : Nodes) (before between after : S)
      → Followed before (item_planes d.compression (layer_item (path ++ place ∷ []) l)) between
      → Followed between (node_planes d path (place + 1) under) after
      → Followed before (node_planes d path place (leaf id l under)) after
  leaf_followed d path place id l under before between after first rest =
      let next : place + 1 ≡ suc place = omega arith in
      follows-append follows (item_planes d.compression (layer_item (path ++ place ∷ []) l))
      (node_planes d path (suc place) under) before between after first
      (subst (λ p. Followed between (node_planes d path p under) after) next rest)

  pub group_followed : (d : Document) (path : List ℕ) (place id : ℕ) (g : Group) (children under : Nodes) (before between far after : S)
      → Followed before (item_planes d.compression (group_as_item d (path ++ place ∷ []) id g)) between
      → Followed between (node_planes d (path ++ place ∷ []) 0 children) far
      → Followed far (node_planes d path (place + 1) under) after
      → Followed before (node_planes d path place (group id g children under)) after
  group_followed d path place id g children under before between far after first inside rest =
      let deep = path ++ place ∷ [] in
      let next : place + 1 ≡ suc place = omega arith in
      let inner = items_from d deep 0 children in
      let outer = items_from d path (suc place) under in
      let planes = item_planes d.compression in
      follows-append follows (planes (group_as_item d deep id g)) (flat_map planes (inner ++ outer)) before between after first
      (subst (λ ps. Followed between ps after) (sym (flat_map-append planes inner outer))
      (follows-append follows (flat_map planes inner) (flat_map planes outer) between far after inside
      (subst (λ p. Followed far (node_planes d path p under) after) next rest)))

  -- the same, told in other words
  pub nodes_followed : (d : Document) (p q : List ℕ) (place : ℕ) (ns ms : Nodes) (before after : S) → p ≡ q → ns ≡ ms
      → Followed before (node_planes d p place ns) after → Followed before (node_planes d q place ms) after
  nodes_followed d p q place ns ms before after ep en followed =
      subst (λ ks. Followed before (node_planes d q place ks) after) en
      (subst (λ r. Followed before (node_planes d r place ns) after) ep followed)

  pub group_moved : (d : Document) (p q : List ℕ) (id : ℕ) (g : Group) (before after : S) → p ≡ q
      → Followed before (item_planes d.compression (group_as_item d p id g)) after
      → Followed before (item_planes d.compression (group_as_item d q id g)) after
  group_moved d p q id g before after ep followed =
      subst (λ r. Followed before (item_planes d.compression (group_as_item d r id g)) after) ep followed

  pub item_followed : (m n : ℕ) (i : Item) (before after : S) → m ≡ n → Followed before (item_planes m i) after
      → Followed before (item_planes n i) after
  item_followed m n i before after e followed = subst (λ k. Followed before (item_planes k i) after) e followed

  -- one sheet alone
  pub one_followed : (compression : ℕ) (s : Sheet) (before after : S) → Followed before (sheet_planes compression s) after
      → Followed before (flat_map (sheet_planes compression) (s ∷ [])) after
  one_followed compression s before after followed =
      subst (λ ps. Followed before ps after) (sym (append-nil (sheet_planes compression s))) followed

  -- one channel more
  pub channel_followed : (compression : ℕ) (cs : List Channel) (i : ℕ) (d c : Channel) (before between after : S) → i < length cs
      → c ≡ get_or cs i d
      → Followed before (flat_map (sheet_planes compression) (map plain_sheet (take i cs))) between
      → Followed between (sheet_planes compression (plain_sheet c)) after
      → Followed before (flat_map (sheet_planes compression) (map plain_sheet (take (i + 1) cs))) after
  channel_followed compression cs i d c before between after within is first second =
      let planes = sheet_planes compression in
      let ss = map plain_sheet (take i cs) in
      let same : ss ++ plain_sheet c ∷ [] ≡ map plain_sheet (take (i + 1) cs) =
      ap (λ c. ss ++ plain_sheet c ∷ []) is ∙ sym (map_more plain_sheet cs i d within) in
      subst (λ ps. Followed before ps after)
      (sym (flat_map-append planes ss (plain_sheet c ∷ [])) ∙ ap (flat_map planes) same)
      (follows-append follows (flat_map planes ss) (flat_map planes (plain_sheet c ∷ [])) before between after first
      (one_followed compression (plain_sheet c) between after second))

  -- sheets behind others, told in other words
  pub sheets_followed : (m n : ℕ) (xs ys all : List Sheet) (before between after : S) → m ≡ n → xs ++ ys ≡ all
      → Followed before (flat_map (sheet_planes m) xs) between → Followed between (flat_map (sheet_planes m) ys) after
      → Followed before (flat_map (sheet_planes n) all) after
  sheets_followed m n xs ys all before between after em whole first second =
      let planes = sheet_planes m in
      subst (λ k. Followed before (flat_map (sheet_planes k) all) after) em
      (subst (λ ss. Followed before (flat_map planes ss) after) whole
      (subst (λ ps. Followed before ps after) (sym (flat_map-append planes xs ys))
      (follows-append follows (flat_map planes xs) (flat_map planes ys) before between after first second)))

  -- the planes of the document
  pub all_followed : (d : Document) (before between after : S) → Followed before (node_planes d [] 0 d.nodes) between
      → Followed between (flat_map (sheet_planes d.compression) (sheets d)) after → Followed before (planes_of d) after
  all_followed d before between after first second =
      follows-append follows (node_planes d [] 0 d.nodes) (flat_map (sheet_planes d.compression) (sheets d)) before between after
      first second
