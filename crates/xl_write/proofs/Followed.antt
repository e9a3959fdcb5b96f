-- Pieces that were appended one behind another.
use Rattle.std.proofs.Common.{◌≡◌, ℕ, ◌+◌, ◌≤◌, List, [], ◌∷◌, ◌++◌, length, sym, ap, ◌∙◌, subst, arith, length-append}
use Rattle.std.proofs.Common.{append_assoc, append-nil}
use Rattle.std.specs.List.{concat, AllByRecursion}
use Rattle.spec_document.specs.declared.Base.{Base}
use Rattle.spec_hierarchy.specs.Layout.{places_from}
use Rattle.spec_layout.specs.Pieces.{Follow}
use Rattle.spec_layout.specs.Layout.{Item, IsItem}
use Rattle.spec_layout.proofs.Following.{concat-append, places-append, follow-append, follow_as}
use Rattle.spec_layout.proofs.AnyCoder.{item_any}
use Rattle.spec_rle.specs.Codes.{AnySpelling}
use Rattle.xl_layout.proofs.Lengths.{items_short}
use Rattle.xl_layout.specs.Costs.{item_costs}
use Rattle.xl_layout.specs.Writable.{IsWritableItem}
use Rattle.xl_write.specs.Appended.{ItemAppended, PiecesAppended}

module _ {A : Type 0} (Is : (at : ℕ) → A → (piece : List ℕ) → Type 0) where
  pub none_appended : (old begins : List ℕ) → PiecesAppended Is [] old old begins begins
  none_appended old begins = record { pieces = []; are = tt; appended = sym (append-nil old); begins_are = sym (append-nil begins) }

  pub one_appended : (x : A) (piece old new begins more : List ℕ) (begin : ℕ) → Is (length old) x piece → new ≡ old ++ piece
      → begin ≡ length old → more ≡ begins ++ begin ∷ []
      → PiecesAppended Is (x ∷ []) old new begins more
  one_appended x piece old new begins more begin is en eb em = record {
    pieces = piece ∷ [];
    are = (is, tt);
    appended = en ∙ ap (λ xs. old ++ xs) (sym (append-nil piece));
    begins_are = em ∙ ap (λ k. begins ++ k ∷ []) eb;
  }

  pub both_appended : (xs ys : List A) (old mid new a b c : List ℕ) → PiecesAppended Is xs old mid a b
      → PiecesAppended Is ys mid new b c → PiecesAppended Is (xs ++ ys) old new a c
  both_appended xs ys old mid new a b c p q =
      let ps = p.pieces in
      let qs = q.pieces in
      let begins : length mid ≡ length old + length (concat ps) = ap length p.appended ∙ length-append old (concat ps) in
      record {
        pieces = ps ++ qs;
        are = follow-append Is (length old) xs ys ps qs p.are (subst (λ o. Follow Is o ys qs) begins q.are);
        appended = q.appended ∙ (ap (λ zs. zs ++ concat qs) p.appended
            ∙ (append_assoc old (concat ps) (concat qs) ∙ ap (λ zs. old ++ zs) (sym (concat-append ps qs))));
        begins_are = q.begins_are
            ∙ (ap (λ zs. zs ++ places_from (length mid) qs) p.begins_are
            ∙ (append_assoc a (places_from (length old) ps) (places_from (length mid) qs)
            ∙ ap (λ zs. a ++ zs) (ap (λ o. places_from (length old) ps ++ places_from o qs) begins
            ∙ sym (places-append (length old) ps qs))));
      }

-- how far items go
pub items_end : (fits : List ℕ → List ℕ → Type 0) (compression : ℕ) (base : Base) (is : List Item) (old new begins more : List ℕ)
    → AllByRecursion (IsWritableItem base) is
    → PiecesAppended (IsItem fits compression) is old new begins more → length new ≤ length old + item_costs is
items_end fits compression base is old new begins more all p =
    let any = follow_as (IsItem fits compression) (IsItem AnySpelling compression) (item_any fits compression)
    (length old) is p.pieces p.are in
    omega (
      arith,
      ap length p.appended,
      length-append old (concat p.pieces),
      items_short compression (length old) base is p.pieces all any,
    )

pub item_appended : (fits : List ℕ → List ℕ → Type 0) (compression : ℕ) (i : Item) (old new begins more : List ℕ) (begin : ℕ)
    → begin ≡ length old → more ≡ begins ++ begin ∷ [] → ItemAppended fits compression i old new
    → PiecesAppended (IsItem fits compression) (i ∷ []) old new begins more
item_appended fits compression i old new begins more begin eb em a =
    one_appended (IsItem fits compression) i a.bytes old new begins more begin a.item a.appended eb em
