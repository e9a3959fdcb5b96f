-- The pixels of a picture, from its bytes.
use Rattle.std.proofs.Common.{◌≡◌, ℕ, zero, suc, ◌+◌, ◌-◌, ◌*◌, ◌<◌, List, ◌++◌, length, get_or, refl, ◌∙◌, ap, arith}
use Rattle.std.proofs.Common.{length-append}
use Rattle.std.specs.Prelude.{flat_map}
use Rattle.std.proofs.lemmas.List.{get_or_append_left, get_or-append_right}
use Rattle.spec_document.specs.declared.Pixel.{Pixel}
use Rattle.spec_document.specs.Rect.{count_from}
use Rattle.spec_document.specs.Picture.{pixel_bytes}
use Rattle.xl_compose.specs.Pieces.{kept_pixel}

-- a byte of a row
row_byte : (f : ℕ → Pixel) (x w k c : ℕ) → k < w → c < 4
    → get_or (flat_map (λ u. pixel_bytes (f u)) (count_from x w)) (k * 4 + c) 0 ≡ get_or (pixel_bytes (f (x + k))) c 0
row_byte f x zero k c hk hc = absurd (omega (arith, hk))
row_byte f x (suc w) zero c hk hc =
    let here : x ≡ x + 0 = omega arith in
    let first : 0 * 4 + c ≡ c = omega arith in
    ap (λ n. get_or (flat_map (λ u. pixel_bytes (f u)) (count_from x (suc w))) n 0) first
    ∙ (get_or_append_left (pixel_bytes (f x)) (flat_map (λ u. pixel_bytes (f u)) (count_from (suc x) w)) 0 c hc
    ∙ ap (λ n. get_or (pixel_bytes (f n)) c 0) here)
row_byte f x (suc w) (suc k) c hk hc =
    let rest = flat_map (λ u. pixel_bytes (f u)) (count_from (suc x) w) in
    let place : suc k * 4 + c - 4 ≡ k * 4 + c = omega arith in
    let there : suc x + k ≡ x + suc k = omega arith in
    get_or-append_right (pixel_bytes (f x)) rest 4 (suc k * 4 + c) 0 refl (omega arith)
    ∙ (ap (λ n. get_or rest n 0) place
    ∙ (row_byte f (suc x) w k c (omega (arith, hk)) hc ∙ ap (λ n. get_or (pixel_bytes (f n)) c 0) there))

row_length : (f : ℕ → Pixel) (x w : ℕ) → length (flat_map (λ u. pixel_bytes (f u)) (count_from x w)) ≡ w * 4
row_length f x zero = refl
row_length f x (suc w) = length-append (pixel_bytes (f x)) (flat_map (λ u. pixel_bytes (f u)) (count_from (suc x) w))
    ∙ omega (arith, row_length f (suc x) w)

rows_byte : (g : ℕ → List ℕ) (size y h v j : ℕ) → ((n : ℕ) → length (g n) ≡ size) → v < h → j < size
    → get_or (flat_map g (count_from y h)) (v * size + j) 0 ≡ get_or (g (y + v)) j 0
rows_byte g size y zero v j many hv hj = absurd (omega (arith, hv))
rows_byte g size y (suc h) zero j many hv hj =
    let here : y ≡ y + 0 = omega arith in
    let first : 0 * size + j ≡ j = omega arith in
    ap (λ n. get_or (flat_map g (count_from y (suc h))) n 0) first
    ∙ (get_or_append_left (g y) (flat_map g (count_from (suc y) h)) 0 j (omega (arith, hj, many y))
    ∙ ap (λ n. get_or (g n) j 0) here)
rows_byte g size y (suc h) (suc v) j many hv hj =
    let rest = flat_map g (count_from (suc y) h) in
    let place : suc v * size + j - size ≡ v * size + j = omega arith in
    let there : suc y + v ≡ y + suc v = omega arith in
    get_or-append_right (g y) rest size (suc v * size + j) 0 (many y) (omega arith)
    ∙ (ap (λ n. get_or rest n 0) place
    ∙ (rows_byte g size (suc y) h v j many (omega (arith, hv)) hj ∙ ap (λ n. get_or (g n) j 0) there))

rows_length : (g : ℕ → List ℕ) (size y h : ℕ) → ((n : ℕ) → length (g n) ≡ size) → length (flat_map g (count_from y h)) ≡ h * size
rows_length g size y zero many = omega arith
rows_length g size y (suc h) many =
    length-append (g y) (flat_map g (count_from (suc y) h)) ∙ omega (arith, rows_length g size (suc y) h many, many y)

-- the bytes of the pixels of a rectangle
abbrev pub rect_bytes : (of : ℕ → ℕ → Pixel) → (x y w h : ℕ) → List ℕ
rect_bytes of x y w h = flat_map (λ v. flat_map (λ u. pixel_bytes (of u v)) (count_from x w)) (count_from y h)

pub rect_length : (of : ℕ → ℕ → Pixel) (x y w h : ℕ) → length (rect_bytes of x y w h) ≡ 4 * (h * w)
rect_length of x y w h = rows_length (λ v. flat_map (λ u. pixel_bytes (of u v)) (count_from x w)) (w * 4) y h
    (λ v. row_length (λ u. of u v) x w) ∙ omega arith

rect_byte : (of : ℕ → ℕ → Pixel) (x y w h v k c : ℕ) → v < h → k < w → c < 4
    → get_or (rect_bytes of x y w h) ((v * w + k) * 4 + c) 0 ≡ get_or (pixel_bytes (of (x + k) (y + v))) c 0
rect_byte of x y w h v k c hv hk hc =
    let place : (v * w + k) * 4 + c ≡ v * (w * 4) + (k * 4 + c) = omega arith in
    ap (λ n. get_or (rect_bytes of x y w h) n 0) place
    ∙ (rows_byte (λ v. flat_map (λ u. pixel_bytes (of u v)) (count_from x w)) (w * 4) y h v (k * 4 + c)
    (λ n. row_length (λ u. of u n) x w) hv (omega (arith, hk, hc))
    ∙ row_byte (λ u. of u (y + v)) x w k c hk hc)

-- a pixel of them
pub rect_pixel : (of : ℕ → ℕ → Pixel) (x y w h v k : ℕ) → v < h → k < w
    → kept_pixel (rect_bytes of x y w h) (v * w + k) ≡ of (x + k) (y + v)
rect_pixel of x y w h v k hv hk =
    let byte : (c : ℕ) → c < 4 → get_or (rect_bytes of x y w h) ((v * w + k) * 4 + c) 0
    ≡ get_or (pixel_bytes (of (x + k) (y + v))) c 0 = λ c hc. rect_byte of x y w h v k c hv hk hc in
    λ i. record { r = byte 0 (omega arith) i; g = byte 1 (omega arith) i; b = byte 2 (omega arith) i; a = byte 3 (omega arith) i }

count_same : (f g : ℕ → List ℕ) (a b n : ℕ) → ((k : ℕ) → k < n → f (a + k) ≡ g (b + k))
    → flat_map f (count_from a n) ≡ flat_map g (count_from b n)
count_same f g a b zero same = refl
count_same f g a b (suc n) same =
    let ha : a ≡ a + 0 = omega arith in
    let hb : b + 0 ≡ b = omega arith in
    let first : f a ≡ g b = ap f ha ∙ (same 0 (omega arith) ∙ ap g hb) in
    let rest = count_same f g (suc a) (suc b) n
    (λ k h. let ta : suc a + k ≡ a + suc k = omega arith in let tb : b + suc k ≡ suc b + k = omega arith in
    ap f ta ∙ (same (suc k) (omega (arith, h)) ∙ ap g tb)) in
    λ i. first i ++ rest i

-- the same pixels, counted from elsewhere
pub rect_same : (f g : ℕ → ℕ → Pixel) (x y x' y' w h : ℕ) → ((v k : ℕ) → v < h → k < w → f (x + k) (y + v) ≡ g (x' + k) (y' + v))
    → rect_bytes f x y w h ≡ rect_bytes g x' y' w h
rect_same f g x y x' y' w h same =
    count_same (λ v. flat_map (λ u. pixel_bytes (f u v)) (count_from x w))
    (λ v. flat_map (λ u. pixel_bytes (g u v)) (count_from x' w)) y y' h
    (λ v hv. count_same (λ u. pixel_bytes (f u (y + v))) (λ u. pixel_bytes (g u (y' + v))) x x' w
    (λ k hk. ap pixel_bytes (same v k hv hk)))
