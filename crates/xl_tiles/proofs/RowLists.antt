-- A list that is made of rows of one length.
use Rattle.std.proofs.Common.{◌≡◌, ℕ, zero, suc, ◌+◌, ◌*◌, ◌/◌, ◌%◌, ◌-◌, ◌<◌, ◌≤◌, List, [], ◌∷◌, ◌++◌, length, take}
use Rattle.std.proofs.Common.{drop, get_or, set, refl, sym, ap, subst, ◌∙◌, arith, append-nil, length-append}
use Rattle.std.proofs.Common.{length-take-le}
use Rattle.std.specs.Prelude.{flat_map, Result, Ok, Err, OnOk, OnErr}
use Rattle.std.specs.List.{AllByRecursion}
use Rattle.std.proofs.lemmas.Grind.{flat_map-append}
use Rattle.std.proofs.lemmas.List.{get_or_append_left, get_or-append-add, set-append_left, set-append_right, length-drop}
use Rattle.std.proofs.lemmas.Nat.{div-add-mod'}
use Rattle.std.proofs.Math.Nat.{mod-lt, div-lt_iff_lt-mul}
use Rattle.std.proofs.Math.Seq.{take-add}
use Rattle.spec_fields.proofs.All.{all_append}
use Rattle.xl_tiles.specs.TileRows.{AreRows}
use Rattle.xl_tiles.proofs.FreshTiles.{all_set, length_set}

-- all items, row after row
abbrev pub flat : List (List (List ℕ)) → List (List ℕ)
flat rows = flat_map (λ row. row) rows

pub length_flat : (n : ℕ) (rows : List (List (List ℕ))) → AllByRecursion (λ row. length row ≡ n) rows
    → length (flat rows) ≡ length rows * n
length_flat n [] all = omega arith
length_flat n (row ∷ rows) all = omega (arith, length-append row (flat rows), all.0, length_flat n rows all.1)

at_rows : (n : ℕ) (rows : List (List (List ℕ))) → AllByRecursion (λ row. length row ≡ n) rows → (i j : ℕ) → i < length rows → j < n
    → get_or (flat rows) (i * n + j) [] ≡ get_or (get_or rows i []) j []
at_rows n [] all i j hi hj = absurd (omega (arith, hi))
at_rows n (row ∷ rows) all zero j hi hj =
    let place : 0 * n + j ≡ j = omega arith in
    ap (λ k. get_or (row ++ flat rows) k []) place ∙ get_or_append_left row (flat rows) [] j (omega (arith, hj, all.0))
at_rows n (row ∷ rows) all (suc i) j hi hj =
    let place : suc i * n + j ≡ length row + (i * n + j) = omega (arith, all.0) in
    ap (λ k. get_or (row ++ flat rows) k []) place
    ∙ (get_or-append-add row (flat rows) (i * n + j) [] ∙ at_rows n rows all.1 i j (omega (arith, hi)) hj)

set_rows : (n : ℕ) (rows : List (List (List ℕ))) → AllByRecursion (λ row. length row ≡ n) rows → (i j : ℕ) → i < length rows → j < n
    → (x : List ℕ)
    → flat (set rows i (set (get_or rows i []) j x)) ≡ set (flat rows) (i * n + j) x
set_rows n [] all i j hi hj x = absurd (omega (arith, hi))
set_rows n (row ∷ rows) all zero j hi hj x =
    let place : 0 * n + j ≡ j = omega arith in
    sym (ap (λ k. set (row ++ flat rows) k x) place ∙ set-append_left row (flat rows) j x (omega (arith, hj, all.0)))
set_rows n (row ∷ rows) all (suc i) j hi hj x =
    let place : suc i * n + j ≡ length row + (i * n + j) = omega (arith, all.0) in
    let behind : length row + (i * n + j) - length row ≡ i * n + j = omega arith in
    ap (λ xs. row ++ xs) (set_rows n rows all.1 i j (omega (arith, hi)) hj x)
    ∙ sym (ap (λ k. set (row ++ flat rows) k x) place
    ∙ (set-append_right row (flat rows) (length row) (length row + (i * n + j)) x refl (omega arith)
    ∙ ap (λ k. row ++ set (flat rows) k x) behind))

row_length : (n : ℕ) (rows : List (List (List ℕ))) → AllByRecursion (λ row. length row ≡ n) rows → (i : ℕ) → i < length rows
    → length (get_or rows i []) ≡ n
row_length n [] all i hi = absurd (omega (arith, hi))
row_length n (row ∷ rows) all zero hi = all.0
row_length n (row ∷ rows) all (suc i) hi = row_length n rows all.1 i (omega (arith, hi))

-- a place of the list has its row and its column
pub row_there : (n : ℕ) (rows : List (List (List ℕ))) → AreRows n rows → (k : ℕ) → k < length (flat rows) → k / n < length rows
row_there n rows are k hk =
    let size = length_flat n rows are.full in
    (div-lt_iff_lt-mul are.some).1 (omega (arith, hk, size))

pub column_there : (n : ℕ) (rows : List (List (List ℕ))) → AreRows n rows → (k : ℕ) → k < length (flat rows)
    → k % n < length (get_or rows (k / n) [])
column_there n rows are k hk = omega (arith, row_length n rows are.full (k / n) (row_there n rows are k hk), mod-lt k are.some)

pub item_is : (n : ℕ) (rows : List (List (List ℕ))) → AreRows n rows → (k : ℕ) → k < length (flat rows)
    → get_or (get_or rows (k / n) []) (k % n) [] ≡ get_or (flat rows) k []
item_is n rows are k hk =
    sym (at_rows n rows are.full (k / n) (k % n) (row_there n rows are k hk) (mod-lt k are.some))
    ∙ ap (λ m. get_or (flat rows) m []) (div-add-mod' k n)

pub set_is : (n : ℕ) (rows : List (List (List ℕ))) → AreRows n rows → (k : ℕ) → k < length (flat rows) → (x : List ℕ)
    → flat (set rows (k / n) (set (get_or rows (k / n) []) (k % n) x)) ≡ set (flat rows) k x
set_is n rows are k hk x =
    set_rows n rows are.full (k / n) (k % n) (row_there n rows are k hk) (mod-lt k are.some) x
    ∙ ap (λ m. set (flat rows) m x) (div-add-mod' k n)

-- the rows after a write to one
pub still_rows : (n : ℕ) (rows : List (List (List ℕ))) → AreRows n rows → (k : ℕ) → k < length (flat rows) → (x : List ℕ)
    → AreRows n (set rows (k / n) (set (get_or rows (k / n) []) (k % n) x))
still_rows n rows are k hk x = record {
  some = are.some;
  full = all_set (λ row. length row ≡ n) rows (k / n) (set (get_or rows (k / n) []) (k % n) x) are.full
      (length_set (get_or rows (k / n) []) (k % n) x ∙ row_length n rows are.full (k / n) (row_there n rows are k hk));
}

-- the first rows of a list
pub record FirstRows (n k : ℕ) (all : List (List ℕ)) (rows : List (List (List ℕ))) : Type 0 where
  pub are : AllByRecursion (λ row. length row ≡ n) rows
  pub value : flat rows ≡ take (k * n) all

pub one_row_more : {n k : ℕ} {all : List (List ℕ)} {rows : List (List (List ℕ))} → FirstRows n k all rows
    → (next : List (List (List ℕ))) (row : List (List ℕ)) → next ≡ rows ++ row ∷ []
    → row ≡ take n (drop (k * n) all) → (k + 1) * n ≤ length all → FirstRows n (k + 1) all next
one_row_more {n = n} {k = k} {all = all} {rows = rows} first next row is value within = record {
  are = subst (AllByRecursion (λ r. length r ≡ n)) (sym is) (all_append (λ r. length r ≡ n) rows (row ∷ []) first.are (size, tt));
  value = ap flat is ∙ (flat_map-append (λ r. r) rows (row ∷ []) ∙ (both ∙ ap (λ m. take m all) sum));
}
  where
    sum : k * n + n ≡ (k + 1) * n
    sum = omega arith

    size : length row ≡ n
    size = ap length value ∙ length-take-le n (drop (k * n) all) (omega (arith, length-drop (k * n) all, within, sum))

    both : flat rows ++ flat (row ∷ []) ≡ take (k * n + n) all
    both = (λ i. first.value i ++ append-nil row i) ∙ (ap (λ r. take (k * n) all ++ r) value ∙ sym (take-add (k * n) n all))

-- what both outcomes give
pub either : {T E P Q R : Type 0} (r : Result T E) → (P → R) → (Q → R) → OnOk r P → OnErr r Q → R
either (Ok x) f g h k = f h
either (Err e) f g h k = g k
