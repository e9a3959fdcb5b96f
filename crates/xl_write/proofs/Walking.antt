-- The walk through the nodes of a document, node by node.
use Rattle.std.proofs.Common.{◌≡◌, ℕ, suc, ◌+◌, ◌-◌, List, [], ◌∷◌, ◌++◌, length, take, ap, ◌∙◌, subst, arith, length-append}
use Rattle.std.proofs.lemmas.List.{take_at}
use Rattle.spec_document.specs.Forest.{leaf, group}
use Rattle.spec_document.specs.Document.{Document, Nodes, Layer, Group}
use Rattle.spec_layout.specs.Layout.{Item, IsItem, layer_item, group_as_item, items_from}
use Rattle.xl_layout.proofs.Lengths.{item_costs-append}
use Rattle.xl_layout.specs.Writable.{IsWritableItem}
use Rattle.xl_write.specs.Appended.{PiecesAppended}
use Rattle.xl_write.specs.Walk.{CanWalk}
use Rattle.xl_write.proofs.SheetWalk.{all_before, all_behind}
use Rattle.xl_write.proofs.Followed.{both_appended, items_end}

module _ (fits : List ℕ → List ℕ → Type 0) (d : Document) where
  abbrev pub Put : List Item → (old new a b : List ℕ) → Type 0
  Put is old new a b = PiecesAppended (IsItem fits d.compression) is old new a b

  pub under_leaf : (path : List ℕ) (place id : ℕ) (l : Layer) (under : Nodes) (old new a b : List ℕ)
      → CanWalk d path place (leaf id l under) (length old)
      → Put (layer_item (path ++ place ∷ []) l ∷ []) old new a b → CanWalk d path (place + 1) under (length new)
  under_leaf path place id l under old new a b can put =
      let i = layer_item (path ++ place ∷ []) l in
      let end = items_end fits d.compression d.base (i ∷ []) old new a b (can.writable.0, tt) put in
      let next : suc place ≡ place + 1 = omega arith in
      subst (λ p. CanWalk d path p under (length new)) next
      record {
        writable = can.writable.1;
        groups = can.groups;
        few = omega (arith, can.few);
        compression = can.compression;
        room = omega (arith, can.room, end);
      }

  pub in_group : (path : List ℕ) (place id : ℕ) (g : Group) (children under : Nodes) (old new a b : List ℕ)
      → CanWalk d path place (group id g children under) (length old)
      → Put (group_as_item d (path ++ place ∷ []) id g ∷ []) old new a b → CanWalk d (path ++ place ∷ []) 0 children (length new)
  in_group path place id g children under old new a b can put =
      let deep = path ++ place ∷ [] in
      let i = group_as_item d deep id g in
      let end = items_end fits d.compression d.base (i ∷ []) old new a b (can.writable.0, tt) put in
      let inner = items_from d deep 0 children in
      let outer = items_from d path (suc place) under in
      record {
        writable = all_before (IsWritableItem d.base) inner outer can.writable.1;
        groups = can.groups.1.0;
        few = omega (arith, can.few);
        compression = can.compression;
        room = omega (arith, can.room, end, item_costs-append inner outer);
      }

  pub under_group : (path : List ℕ) (place id : ℕ) (g : Group) (children under : Nodes) (old mid new a b c : List ℕ)
      → CanWalk d path place (group id g children under) (length old)
      → Put (group_as_item d (path ++ place ∷ []) id g ∷ []) old mid a b
      → Put (items_from d (path ++ place ∷ []) 0 children) mid new b c → CanWalk d path (place + 1) under (length new)
  under_group path place id g children under old mid new a b c can put inside =
      let deep = path ++ place ∷ [] in
      let i = group_as_item d deep id g in
      let inner = items_from d deep 0 children in
      let outer = items_from d path (suc place) under in
      let end = items_end fits d.compression d.base (i ∷ []) old mid a b (can.writable.0, tt) put in
      let more = items_end fits d.compression d.base inner mid new b c
      (all_before (IsWritableItem d.base) inner outer can.writable.1) inside in
      let next : suc place ≡ place + 1 = omega arith in
      subst (λ p. CanWalk d path p under (length new)) next
      record {
        writable = all_behind (IsWritableItem d.base) inner outer can.writable.1;
        groups = can.groups.1.1;
        few = omega (arith, can.few);
        compression = can.compression;
        room = omega (arith, can.room, end, more, item_costs-append inner outer);
      }

  pub leaf_walked : (path : List ℕ) (place id : ℕ) (l : Layer) (under : Nodes) (old mid new a b c : List ℕ)
      → Put (layer_item (path ++ place ∷ []) l ∷ []) old mid a b
      → Put (items_from d path (place + 1) under) mid new b c → Put (items_from d path place (leaf id l under)) old new a c
  leaf_walked path place id l under old mid new a b c put rest =
      let next : place + 1 ≡ suc place = omega arith in
      both_appended (IsItem fits d.compression) (layer_item (path ++ place ∷ []) l ∷ [])
      (items_from d path (suc place) under) old mid new a b c put
      (subst (λ p. Put (items_from d path p under) mid new b c) next rest)

  pub group_walked : (path : List ℕ) (place id : ℕ) (g : Group) (children under : Nodes) (old mid far new a b c e : List ℕ)
      → Put (group_as_item d (path ++ place ∷ []) id g ∷ []) old mid a b
      → Put (items_from d (path ++ place ∷ []) 0 children) mid far b c → Put (items_from d path (place + 1) under) far new c e
      → Put (items_from d path place (group id g children under)) old new a e
  group_walked path place id g children under old mid far new a b c e put inside rest =
      let Is = IsItem fits d.compression in
      let inner = items_from d (path ++ place ∷ []) 0 children in
      let outer = items_from d path (suc place) under in
      let next : place + 1 ≡ suc place = omega arith in
      both_appended Is (group_as_item d (path ++ place ∷ []) id g ∷ []) (inner ++ outer) old mid new a b e put
      (both_appended Is inner outer mid far new b c e inside (subst (λ p. Put (items_from d path p under) far new c e) next rest))

-- the same, told in other words
pub moved : (d : Document) (p q : List ℕ) (place : ℕ) (ns ms : Nodes) (m n : ℕ) → p ≡ q → ns ≡ ms → m ≡ n → CanWalk d p place ns m
    → CanWalk d q place ms n
moved d p q place ns ms m n ep en em can =
    subst (λ k. CanWalk d q place ms k) em (subst (λ ks. CanWalk d q place ks m) en (subst (λ r. CanWalk d r place ns m) ep can))

pub put_moved : (fits : List ℕ → List ℕ → Type 0) (d : Document) (p q : List ℕ) (place : ℕ) (ns ms : Nodes) (old new a b : List ℕ)
    → p ≡ q → ns ≡ ms
    → PiecesAppended (IsItem fits d.compression) (items_from d p place ns) old new a b
    → PiecesAppended (IsItem fits d.compression) (items_from d q place ms) old new a b
put_moved fits d p q place ns ms old new a b ep en put =
    subst (λ ks. PiecesAppended (IsItem fits d.compression) (items_from d q place ks) old new a b) en
    (subst (λ r. PiecesAppended (IsItem fits d.compression) (items_from d r place ns) old new a b) ep put)

pub piece_moved : (fits : List ℕ → List ℕ → Type 0) (d : Document) (p q : List ℕ) (id : ℕ) (g : Group) (old new a b : List ℕ)
    → p ≡ q
    → PiecesAppended (IsItem fits d.compression) (group_as_item d p id g ∷ []) old new a b
    → PiecesAppended (IsItem fits d.compression) (group_as_item d q id g ∷ []) old new a b
piece_moved fits d p q id g old new a b ep put =
    subst (λ r. PiecesAppended (IsItem fits d.compression) (group_as_item d r id g ∷ []) old new a b) ep put

pub compressed : (fits : List ℕ → List ℕ → Type 0) (m n : ℕ) (is : List Item) (old new a b : List ℕ) → m ≡ n
    → PiecesAppended (IsItem fits m) is old new a b → PiecesAppended (IsItem fits n) is old new a b
compressed fits m n is old new a b e put = subst (λ k. PiecesAppended (IsItem fits k) is old new a b) e put

-- the last place is taken off again
pub popped : (path xs ys : List ℕ) (place n : ℕ) → xs ≡ path ++ place ∷ [] → n ≡ length xs → ys ≡ take (n - 1) xs → ys ≡ path
popped path xs ys place n ex en ey =
    let long : length path ≡ n - 1 = omega (arith, en, ap length ex, length-append path (place ∷ [])) in
    ey ∙ (ap (take (n - 1)) ex ∙ take_at path (place ∷ []) (n - 1) long)
