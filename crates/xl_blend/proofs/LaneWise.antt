-- What operations leave in the lanes of vectors, as functions of the lanes of two vectors i and m.
use Rattle.std.proofs.Common.{◌≡◌, ℕ, ◌≤◌, Bool, cond, List, [], ◌∷◌, length, map, zero, suc, min, max, refl, ap, sym, ◌∙◌, arith}
use Rattle.std.proofs.lemmas.Bool.{cond_both, ltb-true, ltb-false}
use Rattle.std.proofs.lemmas.Simd.{tops_compared, length-zip2}
use Rattle.std.specs.Simd.Lanes.{zip2, Each1}
use mir.Val.{Fits}
use lib.Lanes.{sel_l, top}
use lib.Dec.{ltb}
use lib.ListN.{replicate}
use mir.Syntax.{w16}
use Rattle.xl_blend.specs.Lanes.{AreBytes}

both_at : {C : Type 0} (f : ℕ → ℕ → C) (g h : ℕ → ℕ → ℕ) (is ms : List ℕ)
    → zip2 f (zip2 g is ms) (zip2 h is ms) ≡ zip2 (λ i m. f (g i m) (h i m)) is ms
both_at f g h [] ms = refl
both_at f g h (i ∷ is) [] = refl
both_at f g h (i ∷ is) (m ∷ ms) = ap (λ zs. f (g i m) (h i m) ∷ zs) (both_at f g h is ms)

-- an operation on two vectors
pub both : (f g h : ℕ → ℕ → ℕ) (is ms : List ℕ) {xs ys : List ℕ} → xs ≡ zip2 g is ms → ys ≡ zip2 h is ms
    → zip2 f xs ys ≡ zip2 (λ i m. f (g i m) (h i m)) is ms
both f g h is ms x y = rw (x, y) (both_at f g h is ms)

-- a function of one vector
mapped_at : (f : ℕ → ℕ) (g : ℕ → ℕ → ℕ) (is ms : List ℕ) → map f (zip2 g is ms) ≡ zip2 (λ i m. f (g i m)) is ms
mapped_at f g [] ms = refl
mapped_at f g (i ∷ is) [] = refl
mapped_at f g (i ∷ is) (m ∷ ms) = ap (λ zs. f (g i m) ∷ zs) (mapped_at f g is ms)

pub mapped : (f : ℕ → ℕ) (g : ℕ → ℕ → ℕ) (is ms : List ℕ) {xs ys : List ℕ} → ys ≡ map f xs → xs ≡ zip2 g is ms
    → ys ≡ zip2 (λ i m. f (g i m)) is ms
mapped f g is ms y x = rw (y, x) (mapped_at f g is ms)

-- two functions of one number of 16 bits that agree
pub agreed_one : (F G : ℕ → ℕ) (xs : List ℕ) → Each1 (Fits w16) xs → ((x : ℕ) → Fits w16 x → F x ≡ G x) → map F xs ≡ map G xs
agreed_one F G [] fits same = refl
agreed_one F G (x ∷ xs) fits same =
    let head : F x ≡ G x = same x fits.0 in
    let tail : map F xs ≡ map G xs = agreed_one F G xs fits.1 same in
    cc

-- the vectors themselves
pub first : (is ms : List ℕ) → length is ≡ length ms → is ≡ zip2 (λ i m. i) is ms
first [] ms same = refl
first (i ∷ is) [] same = absurd (omega arith)
first (i ∷ is) (m ∷ ms) same = ap (λ zs. i ∷ zs) (first is ms (omega arith))

pub second : (is ms : List ℕ) → length is ≡ length ms → ms ≡ zip2 (λ i m. m) is ms
second [] [] same = refl
second [] (m ∷ ms) same = absurd (omega arith)
second (i ∷ is) [] same = absurd (omega arith)
second (i ∷ is) (m ∷ ms) same = ap (λ zs. m ∷ zs) (second is ms (omega arith))

-- a number in each lane
pub splat : (n c : ℕ) (is ms : List ℕ) → length is ≡ n → length ms ≡ n → replicate n c ≡ zip2 (λ i m. c) is ms
splat zero c [] ms i_long m_long = refl
splat zero c (i ∷ is) ms i_long m_long = absurd (omega arith)
splat (suc n) c [] ms i_long m_long = absurd (omega arith)
splat (suc n) c (i ∷ is) [] i_long m_long = absurd (omega arith)
splat (suc n) c (i ∷ is) (m ∷ ms) i_long m_long = ap (λ zs. c ∷ zs) (splat n c is ms (omega arith) (omega arith))

-- a choice by a comparison
chosen_at : (t : ℕ → ℕ → Bool) (g h : ℕ → ℕ → ℕ) (is ms : List ℕ)
    → sel_l (zip2 t is ms) (zip2 g is ms) (zip2 h is ms) ≡ zip2 (λ i m. cond (t i m) (g i m) (h i m)) is ms
chosen_at t g h [] ms = refl
chosen_at t g h (i ∷ is) [] = refl
chosen_at t g h (i ∷ is) (m ∷ ms) = ap (λ zs. cond (t i m) (g i m) (h i m) ∷ zs) (chosen_at t g h is ms)

pub chosen : (a b g h : ℕ → ℕ → ℕ) (is ms : List ℕ) {us bs xs ys : List ℕ} → us ≡ zip2 a is ms → bs ≡ zip2 b is ms
    → xs ≡ zip2 g is ms → ys ≡ zip2 h is ms
    → sel_l (map (top 15) (zip2 (λ (x y : ℕ). cond (ltb x y) 65535 0) us bs)) xs ys
    ≡ zip2 (λ i m. cond (ltb (a i m) (b i m)) (g i m) (h i m)) is ms
chosen a b g h is ms a_is b_is x_is y_is =
    rw (tops_compared w16 ltb _ _, a_is, b_is, both_at ltb a b is ms, x_is, y_is)
    (chosen_at (λ i m. ltb (a i m) (b i m)) g h is ms)

-- ---- two functions that agree
pub agreed : (P : ℕ → Type 0) (F G : ℕ → ℕ → ℕ) (is ms : List ℕ) → Each1 P is → Each1 P ms
    → ((i m : ℕ) → P i → P m → F i m ≡ G i m) → zip2 F is ms ≡ zip2 G is ms
agreed P F G [] ms is_are ms_are same = refl
agreed P F G (i ∷ is) [] is_are ms_are same = refl
agreed P F G (i ∷ is) (m ∷ ms) is_are ms_are same =
    let head : F i m ≡ G i m = same i m is_are.0 ms_are.0 in
    let tail : zip2 F is ms ≡ zip2 G is ms = agreed P F G is ms is_are.1 ms_are.1 same in
    cc

-- ---- a function that gives bytes
small_at : (F : ℕ → ℕ → ℕ) (is ms : List ℕ) → Each1 (λ x. x ≤ 255) is → Each1 (λ x. x ≤ 255) ms
    → ((i m : ℕ) → i ≤ 255 → m ≤ 255 → F i m ≤ 255) → Each1 (λ x. x ≤ 255) (zip2 F is ms)
small_at F [] ms is_small ms_small byte = tt
small_at F (i ∷ is) [] is_small ms_small byte = tt
small_at F (i ∷ is) (m ∷ ms) is_small ms_small byte =
    (byte i m is_small.0 ms_small.0, small_at F is ms is_small.1 ms_small.1 byte)

pub small : (F : ℕ → ℕ → ℕ) (is ms : List ℕ) → AreBytes is → AreBytes ms
    → ((i m : ℕ) → i ≤ 255 → m ≤ 255 → F i m ≤ 255) → AreBytes (zip2 F is ms)
small F is ms i_bytes m_bytes byte =
    (length-zip2 F is ms (i_bytes.0 ∙ sym m_bytes.0) ∙ i_bytes.0, small_at F is ms i_bytes.1 m_bytes.1 byte)

-- ---- a function of three vectors
pub agreed_three : (R P Q : ℕ → ℕ → ℕ) (F : ℕ → ℕ → ℕ → ℕ) (ts xs ys : List ℕ) → Each1 (λ x. x ≤ 255) ts
    → Each1 (λ x. x ≤ 255) xs → Each1 (λ x. x ≤ 255) ys
    → ((t x y : ℕ) → t ≤ 255 → x ≤ 255 → y ≤ 255 → R (P x t) (Q y t) ≡ F t x y)
    → zip2 R (zip2 P xs ts) (zip2 Q ys ts) ≡ zip2 (λ (f : ℕ → ℕ) (y : ℕ). f y) (zip2 F ts xs) ys
agreed_three R P Q F [] [] ys t_small x_small y_small same = refl
agreed_three R P Q F [] (x ∷ xs) ys t_small x_small y_small same = refl
agreed_three R P Q F (t ∷ ts) [] ys t_small x_small y_small same = refl
agreed_three R P Q F (t ∷ ts) (x ∷ xs) [] t_small x_small y_small same = refl
agreed_three R P Q F (t ∷ ts) (x ∷ xs) (y ∷ ys) t_small x_small y_small same =
    let head : R (P x t) (Q y t) ≡ F t x y = same t x y t_small.0 x_small.0 y_small.0 in
    let tail : zip2 R (zip2 P xs ts) (zip2 Q ys ts) ≡ zip2 (λ (f : ℕ → ℕ) (y : ℕ). f y) (zip2 F ts xs) ys =
    agreed_three R P Q F ts xs ys t_small.1 x_small.1 y_small.1 same in
    cc

small_three_at : (F : ℕ → ℕ → ℕ → ℕ) (ts xs ys : List ℕ) → Each1 (λ x. x ≤ 255) ts → Each1 (λ x. x ≤ 255) xs
    → Each1 (λ x. x ≤ 255) ys → ((t x y : ℕ) → t ≤ 255 → x ≤ 255 → y ≤ 255 → F t x y ≤ 255)
    → Each1 (λ x. x ≤ 255) (zip2 (λ (f : ℕ → ℕ) (y : ℕ). f y) (zip2 F ts xs) ys)
small_three_at F [] xs ys t_small x_small y_small byte = tt
small_three_at F (t ∷ ts) [] ys t_small x_small y_small byte = tt
small_three_at F (t ∷ ts) (x ∷ xs) [] t_small x_small y_small byte = tt
small_three_at F (t ∷ ts) (x ∷ xs) (y ∷ ys) t_small x_small y_small byte = (
  byte t x y t_small.0 x_small.0 y_small.0,
  small_three_at F ts xs ys t_small.1 x_small.1 y_small.1 byte,
)

pub small_three : (F : ℕ → ℕ → ℕ → ℕ) (ts xs ys : List ℕ) → AreBytes ts → AreBytes xs → AreBytes ys
    → ((t x y : ℕ) → t ≤ 255 → x ≤ 255 → y ≤ 255 → F t x y ≤ 255)
    → AreBytes (zip2 (λ (f : ℕ → ℕ) (y : ℕ). f y) (zip2 F ts xs) ys)
small_three F ts xs ys t_bytes x_bytes y_bytes byte =
    let long : length (zip2 F ts xs) ≡ 16 = length-zip2 F ts xs (t_bytes.0 ∙ sym x_bytes.0) ∙ t_bytes.0 in (
      length-zip2 (λ (f : ℕ → ℕ) (y : ℕ). f y) (zip2 F ts xs) ys (long ∙ sym y_bytes.0) ∙ long,
      small_three_at F ts xs ys t_bytes.1 x_bytes.1 y_bytes.1 byte,
    )

-- ---- the lesser, the greater and the difference of two numbers of 16 bits
pub lesser : (x y : ℕ) → cond (ltb x y) x y ≡ min x y
lesser x y = cond_both (ltb x y) x y (λ z. z ≡ min x y) (λ e. omega (arith, ltb-true x y e)) (λ e. omega (arith, ltb-false x y e))

pub greater : (x y : ℕ) → cond (ltb x y) y x ≡ max x y
greater x y = cond_both (ltb x y) y x (λ z. z ≡ max x y) (λ e. omega (arith, ltb-true x y e)) (λ e. omega (arith, ltb-false x y e))
