-- A row that is being replaced from its front, by a function of its elements and those of a second row.
use Rattle.std.proofs.Common.{◌≡◌, ℕ, ◌+◌, ◌<◌, ◌≤◌, suc, List, [], ◌∷◌, ◌++◌, map, length, get_or, take, drop, refl}
use Rattle.std.proofs.Common.{arith, append_assoc, add-one, ◌≢◌, zero, ap, sym, ◌∙◌, subst, get_or-set_other}
use Rattle.std.proofs.Common.{inl, inr}
use Rattle.std.proofs.Math.ListN.{set}
use Rattle.std.proofs.lemmas.Bool.{cases_lt, cases_eq}
use Rattle.std.proofs.Math.Seq.{drop-cons}
use Rattle.std.proofs.lemmas.List.{take_all, drop_all, take_more_set, drop-set-lt, append-nil, length-set, drop-drop}
use Rattle.std.proofs.lemmas.List.{length-map, length-drop, length-take-le}
use Rattle.std.proofs.lemmas.Slice.{take-put_mid, drop-put_mid}
use Rattle.std.proofs.lemmas.Slice.Zip.{length-zip}
use borrow.Rule.Slice.PartMut.{put_mid}
use Rattle.std.specs.List.{zip}
pub use Rattle.xl_blend.specs.Rows.{so_far}

pub so_far-none : {A B : Type 0} (g : A × B → A) (row : List A) (other : List B) → so_far g 0 row other ≡ map g (zip row other)
unfolding so_far
so_far-none g row other = refl

pub so_far-more : {A B : Type 0} (g : A × B → A) (i : ℕ) (row : List A) (other : List B) (x : A) (y : B) (value : A)
    → i < length row → i < length other → value ≡ g (get_or row i x, get_or other i y)
    → so_far g (i + 1) (set row i value) other ≡ so_far g i row other
unfolding so_far
so_far-more g i row other x y value in_row in_other is =
    let past : i < i + 1 = omega arith in
    rw (
      take_more_set row i value in_row,
      drop-set-lt (i + 1) row i value past,
      add-one,
      drop-cons row i x in_row,
      drop-cons other i y in_other,
      ← is,
    )
    (append_assoc (take i row) (value ∷ []) (map g (zip (drop (suc i) row) (drop (suc i) other))))

so_far-next : {A B : Type 0} (g : A × B → A) (i n : ℕ) (row : List A) (other : List B) (x : A) (y : B) (value : A) → n ≡ i + 1
    → i < length row → i < length other → value ≡ g (get_or row i x, get_or other i y)
    → so_far g n (set row i value) other ≡ so_far g i row other
so_far-next g i n row other x y value n_is in_row in_other is =
    ap (λ k. so_far g k (set row i value) other) n_is ∙ so_far-more g i row other x y value in_row in_other is

pub so_far-all : {A B : Type 0} (g : A × B → A) (i : ℕ) (row : List A) (other : List B) → length row ≤ i
    → so_far g i row other ≡ row
unfolding so_far
so_far-all g i row other all = rw (take_all i row all, drop_all i row all) (append-nil row)

-- four elements more
pub so_far-four : {A B : Type 0} (g : A × B → A) (i : ℕ) (row : List A) (other : List B) (x : A) (y : B) (p q r s : A)
    → i + 4 ≤ length row → length row ≡ length other
    → p ≡ g (get_or row i x, get_or other i y) → q ≡ g (get_or row (i + 1) x, get_or other (i + 1) y)
    → r ≡ g (get_or row (i + 2) x, get_or other (i + 2) y) → s ≡ g (get_or row (i + 3) x, get_or other (i + 3) y)
    → so_far g (i + 4) (set (set (set (set row i p) (i + 1) q) (i + 2) r) (i + 3) s) other ≡ so_far g i row other
so_far-four {A} {B} g i row other x y p q r s within same p_is q_is r_is s_is =
    let one = set row i p in
    let two = set one (i + 1) q in
    let three = set two (i + 2) r in
    let one_long : length one ≡ length row = length-set row i p in
    let two_long : length two ≡ length row = length-set one (i + 1) q ∙ one_long in
    let three_long : length three ≡ length row = length-set two (i + 2) r ∙ two_long in
    let q_at : get_or one (i + 1) x ≡ get_or row (i + 1) x = get_or-set_other row i (i + 1) p x (omega arith) in
    let r_at : get_or two (i + 2) x ≡ get_or row (i + 2) x =
    get_or-set_other one (i + 1) (i + 2) q x (omega arith) ∙ get_or-set_other row i (i + 2) p x (omega arith) in
    let s_at : get_or three (i + 3) x ≡ get_or row (i + 3) x = get_or-set_other two (i + 2) (i + 3) r x (omega arith)
    ∙ get_or-set_other one (i + 1) (i + 3) q x (omega arith) ∙ get_or-set_other row i (i + 3) p x (omega arith) in
    let first : so_far g (i + 1) one other ≡ so_far g i row other =
    so_far-more g i row other x y p (omega arith) (omega arith) p_is in
    let second : so_far g (i + 2) two other ≡ so_far g (i + 1) one other =
    so_far-next g (i + 1) (i + 2) one other x y q (omega arith)
    (omega arith) (omega arith) (q_is ∙ ap (λ a. g (a, get_or other (i + 1) y)) (sym q_at)) in
    let third : so_far g (i + 3) three other ≡ so_far g (i + 2) two other =
    so_far-next g (i + 2) (i + 3) two other x y r (omega arith)
    (omega arith) (omega arith) (r_is ∙ ap (λ a. g (a, get_or other (i + 2) y)) (sym r_at)) in
    let fourth : so_far g (i + 4) (set three (i + 3) s) other ≡ so_far g (i + 3) three other =
    so_far-next g (i + 3) (i + 4) three other x y s (omega arith) (omega arith) (omega arith)
    (s_is ∙ ap (λ a. g (a, get_or other (i + 3) y)) (sym s_at)) in
    fourth ∙ third ∙ second ∙ first

-- what holds of four more
pub four_more : (P : ℕ → Type 0) (n : ℕ) → ((k : ℕ) → k < n → P k) → P n → P (n + 1) → P (n + 2) → P (n + 3)
    → (k : ℕ) → k < n + 4 → P k
four_more P n known p q r s k within =
    elim (cases_lt k n) [
      | inl before ↦ known k before
      | inr past ↦
          elim (cases_eq k n) [
            | inl is ↦ subst P (sym is) p
            | inr not_p ↦
                elim (cases_eq k (n + 1)) [
                  | inl is ↦ subst P (sym is) q
                  | inr not_q ↦
                      elim (cases_eq k (n + 2)) [
                        | inl is ↦ subst P (sym is) r
                        | inr not_r ↦
                            let is : k ≡ n + 3 = omega (arith, not_p, not_q, not_r) in
                            subst P (sym is) s
                      ]
                ]
          ]
    ]

-- two functions that agree at each place
pub map-zip_same : {A B : Type 0} (g h : A × B → A) (xs : List A) (ys : List B) (x : A) (y : B) → length xs ≡ length ys
    → ((k : ℕ) → k < length xs → g (get_or xs k x, get_or ys k y) ≡ h (get_or xs k x, get_or ys k y))
    → map g (zip xs ys) ≡ map h (zip xs ys)
map-zip_same g h [] ys x y same each = refl
map-zip_same g h (a ∷ xs) [] x y same each = absurd (omega arith)
map-zip_same g h (a ∷ xs) (b ∷ ys) x y same each =
    let head : g (a, b) ≡ h (a, b) = each 0 (omega arith) in
    let tail : map g (zip xs ys) ≡ map h (zip xs ys) = map-zip_same g h xs ys x y (omega arith)
    (λ k lt. each (suc k) (omega arith)) in
    cc

-- the same for a row by itself
unfoldable pub mapped_so_far : {A : Type 0} → (A → A) → (i : ℕ) → (row : List A) → List A
mapped_so_far f i row = take i row ++ map f (drop i row)

pub mapped_so_far-none : {A : Type 0} (f : A → A) (row : List A) → mapped_so_far f 0 row ≡ map f row
unfolding mapped_so_far
mapped_so_far-none f row = refl

pub mapped_so_far-more : {A : Type 0} (f : A → A) (i : ℕ) (row : List A) (x : A) (value : A) → i < length row
    → value ≡ f (get_or row i x) → mapped_so_far f (i + 1) (set row i value) ≡ mapped_so_far f i row
unfolding mapped_so_far
mapped_so_far-more f i row x value in_row is =
    let past : i < i + 1 = omega arith in
    rw (take_more_set row i value in_row, drop-set-lt (i + 1) row i value past, add-one, drop-cons row i x in_row, ← is)
    (append_assoc (take i row) (value ∷ []) (map f (drop (suc i) row)))

pub mapped_so_far-all : {A : Type 0} (f : A → A) (i : ℕ) (row : List A) → length row ≤ i → mapped_so_far f i row ≡ row
unfolding mapped_so_far
mapped_so_far-all f i row all = rw (take_all i row all, drop_all i row all) (append-nil row)

-- what is known of each element that is left stays known
pub rest-more : {A : Type 0} (P : ℕ → A → Type 0) (i : ℕ) (row : List A) (value d : A)
    → ((k : ℕ) → i ≤ k → k < length row → P k (get_or row k d))
    → (k : ℕ) → i + 1 ≤ k → k < length (set row i value) → P k (get_or (set row i value) k d)
rest-more {A} P i row value d known k past within =
    let apart : k ≢ i = omega arith in
    let same : get_or (set row i value) k d ≡ get_or row k d = get_or-set_other row i k value d apart in
    let inside : k < length row = omega (arith, length-set row i value) in
    let Q : A → Type 0 = λ a. P k a in
    subst Q (sym same) (known k (omega arith) inside)

-- a function of both elements that reads one of them alone
pub map-zip_first : {A B : Type 0} (g : A × B → A) (f : A → A) (xs : List A) (ys : List B) (x : A) (y : B) → length xs ≡ length ys
    → ((k : ℕ) → k < length xs → g (get_or xs k x, get_or ys k y) ≡ f (get_or xs k x)) → map g (zip xs ys) ≡ map f xs
map-zip_first g f [] ys x y same each = refl
map-zip_first g f (a ∷ xs) [] x y same each = absurd (omega arith)
map-zip_first g f (a ∷ xs) (b ∷ ys) x y same each =
    let head : g (a, b) ≡ f a = each 0 (omega arith) in
    let tail : map g (zip xs ys) ≡ map f xs = map-zip_first g f xs ys x y (omega arith) (λ k h. each (suc k) (omega arith)) in
    cc

pub map-zip_second : {A B : Type 0} (g : A × B → A) (f : B → A) (xs : List A) (ys : List B) (x : A) (y : B) → length xs ≡ length ys
    → ((k : ℕ) → k < length xs → g (get_or xs k x, get_or ys k y) ≡ f (get_or ys k y)) → map g (zip xs ys) ≡ map f ys
map-zip_second g f [] [] x y same each = refl
map-zip_second g f [] (b ∷ ys) x y same each = absurd (omega arith)
map-zip_second g f (a ∷ xs) [] x y same each = absurd (omega arith)
map-zip_second g f (a ∷ xs) (b ∷ ys) x y same each =
    let head : g (a, b) ≡ f b = each 0 (omega arith) in
    let tail : map g (zip xs ys) ≡ map f ys = map-zip_second g f xs ys x y (omega arith) (λ k h. each (suc k) (omega arith)) in
    cc

zip-nil : {A B : Type 0} (xs : List A) → zip {K = A} {X = B} xs [] ≡ []
zip-nil [] = refl
zip-nil (x ∷ xs) = refl

-- the first k and the rest
mapped_in_two : {A B : Type 0} (g : A × B → A) (k : ℕ) (xs : List A) (ys : List B)
    → map g (zip xs ys) ≡ map g (zip (take k xs) (take k ys)) ++ map g (zip (drop k xs) (drop k ys))
mapped_in_two g zero xs ys = refl
mapped_in_two g (suc k) [] ys = refl
mapped_in_two g (suc k) (x ∷ xs) [] = rw (zip-nil (drop k xs)) refl
mapped_in_two g (suc k) (x ∷ xs) (y ∷ ys) = ap (λ zs. g (x, y) ∷ zs) (mapped_in_two g k xs ys)

length-mapped : {A B : Type 0} (g : A × B → A) (xs : List A) (ys : List B) → length xs ≡ length ys
    → length (map g (zip xs ys)) ≡ length xs
length-mapped g xs ys same = length-map (zip xs ys) g ∙ (length-zip xs ys ∙ omega arith)

-- a piece of k elements more
pub so_far-piece : {A B : Type 0} (g : A × B → A) (i k n : ℕ) (row : List A) (other : List B) (piece : List A) → n ≡ i + k
    → n ≤ length row → length row ≡ length other
    → piece ≡ map g (zip (take k (drop i row)) (take k (drop i other)))
    → so_far g n (put_mid i k row piece) other ≡ so_far g i row other
unfolding so_far
so_far-piece g i k n row other piece n_is within same is =
    let inside : i ≤ length row = omega arith in
    let rows : length (take k (drop i row)) ≡ k = length-take-le k (drop i row) (omega (arith, length-drop i row)) in
    let others : length (take k (drop i other)) ≡ k = length-take-le k (drop i other) (omega (arith, length-drop i other)) in
    let long : length piece ≡ k = ap length is ∙ length-mapped g (take k (drop i row)) (take k (drop i other)) (omega arith)
    ∙ rows in
    let front : take n (put_mid i k row piece) ≡ take i row ++ piece = take-put_mid i k row piece n (omega arith) inside in
    let back : drop n (put_mid i k row piece) ≡ drop n row = drop-put_mid i k row piece n (omega arith) inside long in
    let row_rest : drop n row ≡ drop k (drop i row) = ap (λ m. drop m row) n_is ∙ sym (drop-drop k i row) in
    let other_rest : drop n other ≡ drop k (drop i other) = ap (λ m. drop m other) n_is ∙ sym (drop-drop k i other) in
    rw (front, back, row_rest, other_rest, is, mapped_in_two g k (drop i row) (drop i other))
    (append_assoc (take i row) (map g (zip (take k (drop i row)) (take k (drop i other))))
    (map g (zip (drop k (drop i row)) (drop k (drop i other)))))
