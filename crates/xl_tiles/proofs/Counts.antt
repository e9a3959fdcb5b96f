-- Tiles that are counted one after another.
use Rattle.std.proofs.Common.{◌≡◌, ℕ, zero, suc, ◌+◌, ◌≤◌, Bool, true, false, cond, List, [], ◌∷◌, ◌++◌, length, map}
use Rattle.std.proofs.Common.{refl, sym, ap, subst, ◌∙◌, arith, length-append, append-nil}
use Rattle.std.specs.Prelude.{filter, flat_map, ◌&&◌}
use Rattle.std.proofs.lemmas.Bool.{eq-eqb}
use Rattle.std.proofs.lemmas.Grind.{flat_map-append}
use Rattle.std.proofs.lemmas.List.Elements.{filter-append}
use Rattle.spec_document.specs.declared.TileAt.{TileAt}
use Rattle.spec_document.specs.Rect.{count_from}
use Rattle.spec_document.specs.Grid.{all_tiles}
use Rattle.spec_document.specs.Plane.{Plane}
use Rattle.spec_fields.proofs.Steps.{chosen_true}
use Rattle.xl_tiles.specs.Table.{plane_by}
use Rattle.spec_undo.specs.Planes.{are_alike, changed_tiles, differ_at, tile_count}

-- the next number behind those counted
from_more : (first n : ℕ) → count_from first (suc n) ≡ count_from first n ++ (first + n) ∷ []
from_more first zero = let same : first ≡ first + zero = omega arith in ap (λ k. k ∷ []) same
from_more first (suc n) =
    let same : suc first + n ≡ first + suc n = omega arith in
    ap (λ xs. first ∷ xs) (from_more (suc first) n ∙ ap (λ k. count_from (suc first) n ++ k ∷ []) same)

counted : (n : ℕ) → count_from 0 (n + 1) ≡ count_from 0 n ++ n ∷ []
counted n =
    let up : n + 1 ≡ suc n = omega arith in
    let same : 0 + n ≡ n = omega arith in
    ap (count_from 0) up ∙ (from_more 0 n ∙ ap (λ k. count_from 0 n ++ k ∷ []) same)

map-append' : {X Y : Type 0} (f : X → Y) (xs : List X) (x : X) → map f (xs ++ x ∷ []) ≡ map f xs ++ f x ∷ []
map-append' f [] x = refl
map-append' f (y ∷ xs) x = ap (λ ys. f y ∷ ys) (map-append' f xs x)

length_one : {X : Type 0} (p : X → Bool) (x : X) → length (filter p (x ∷ [])) ≡ cond (p x) 1 0
length_one p x = by (p x) refl
  where
    by : (b : Bool) → p x ≡ b → length (filter p (x ∷ [])) ≡ cond b 1 0
    by true e = ap (λ b. length (cond b (x ∷ []) [])) e
    by false e = ap (λ b. length (cond b (x ∷ []) [])) e

-- one item more
pub one_counted : (p : TileAt → Bool) (g : ℕ → TileAt) (n count one : ℕ) → count ≡ length (filter p (map g (count_from 0 n)))
    → one ≡ cond (p (g n)) 1 0
    → count + one ≡ length (filter p (map g (count_from 0 (n + 1))))
one_counted p g n count one so_far next =
    let items : map g (count_from 0 (n + 1)) ≡ map g (count_from 0 n) ++ g n ∷ [] = ap (map g) (counted n)
    ∙ map-append' g (count_from 0 n) n in
    let size : length (filter p (map g (count_from 0 (n + 1)))) ≡ length (filter p (map g (count_from 0 n))) + cond (p (g n)) 1 0 =
    ap (λ xs. length (filter p xs)) items ∙ (ap length (filter-append p (map g (count_from 0 n)) (g n ∷ []))
    ∙ (length-append (filter p (map g (count_from 0 n))) (filter p (g n ∷ []))
    ∙ ap (λ k. length (filter p (map g (count_from 0 n))) + k) (length_one p (g n)))) in
    omega (arith, size, so_far, next)

-- one list of items more
pub list_counted : (p : TileAt → Bool) (g : ℕ → List TileAt) (n count more : ℕ)
    → count ≡ length (filter p (flat_map g (count_from 0 n))) → more ≡ length (filter p (g n))
    → count + more ≡ length (filter p (flat_map g (count_from 0 (n + 1))))
list_counted p g n count more so_far next =
    let items : flat_map g (count_from 0 (n + 1)) ≡ flat_map g (count_from 0 n) ++ g n =
    ap (flat_map g) (counted n) ∙ (flat_map-append g (count_from 0 n) (n ∷ [])
    ∙ ap (λ xs. flat_map g (count_from 0 n) ++ xs) (append-nil (g n))) in
    let size : length (filter p (flat_map g (count_from 0 (n + 1))))
    ≡ length (filter p (flat_map g (count_from 0 n))) + length (filter p (g n)) =
    ap (λ xs. length (filter p xs)) items ∙ (ap length (filter-append p (flat_map g (count_from 0 n)) (g n))
    ∙ length-append (filter p (flat_map g (count_from 0 n))) (filter p (g n))) in
    omega (arith, size, so_far, next)

-- planes of one size
pub alike_count : (p q : Plane) → q.width ≡ p.width → q.height ≡ p.height → q.bpp ≡ p.bpp
    → changed_tiles p q ≡ length (filter (differ_at p q) (all_tiles p.width p.height))
unfolding changed_tiles
alike_count p q w h b =
    chosen_true (are_alike p q) _ (tile_count p + tile_count q)
    (λ i. eq-eqb p.width q.width (sym w) i && (eq-eqb p.height q.height (sym h) i && eq-eqb p.bpp q.bpp (sym b) i))

-- the same of two tables
pub count_is : (w h b u v d : ℕ) (tiles others : List (List ℕ)) (n : ℕ) → u ≡ w → v ≡ h → d ≡ b
    → n ≡ length (filter (differ_at (plane_by w h b tiles) (plane_by w h b others)) (all_tiles w h))
    → n ≡ changed_tiles (plane_by w h b tiles) (plane_by u v d others)
count_is w h b u v d tiles others n eu ev ed is =
    let p = plane_by w h b tiles in
    let same : plane_by w h b others ≡ plane_by u v d others = λ i. plane_by (sym eu i) (sym ev i) (sym ed i) others in
    let here : n ≡ length (filter (differ_at p (plane_by u v d others)) (all_tiles w h)) =
    subst (λ q. n ≡ length (filter (differ_at p q) (all_tiles w h))) same is in
    here ∙ sym (alike_count p (plane_by u v d others) eu ev ed)
