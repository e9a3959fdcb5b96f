-- Planes that are decoded one after another.
use Rattle.std.proofs.Common.{◌≡◌, ℕ, zero, suc, ◌+◌, ◌-◌, ◌*◌, ◌<◌, ◌≤◌, List, [], ◌∷◌, ◌++◌, take, drop, refl, sym}
use Rattle.std.proofs.Common.{ap, ◌∙◌, arith, append-nil, append_assoc}
use Rattle.std.specs.Prelude.{Ok, Err}
use Rattle.std.proofs.lemmas.List.{drop-drop, drop-take, take-take}
use Rattle.spec_fields.specs.declared.ReadRefused.{ReadRefused}
use Rattle.spec_fields.specs.Reading.{Read, ◌>>=◌}
use Rattle.spec_rle.specs.Reading.{plane_at}
use Rattle.spec_hierarchy.specs.Reading.{planes_at}
use Rattle.xl_tile.specs.Joined.{pieces}
use Rattle.xl_tile.specs.Behind.{behind}

pub behind-behind : {A : Type 0} (a b : List A) (r : Read (List A)) → behind a (behind b r) ≡ behind (a ++ b) r
behind-behind a b (Ok xs) = ap Ok (sym (append_assoc a b xs))
behind-behind a b (Err e) = refl

pub one_behind : {A : Type 0} (x : A) (r : Read (List A)) → (r >>= (λ rest. Ok (x ∷ rest))) ≡ behind (x ∷ []) r
one_behind x (Ok xs) = refl
one_behind x (Err e) = refl

-- the first planes stand, and the others are still to be read
pub record Decoding (file : List ℕ) (from n bpp c at : ℕ) (planes : List ℕ) : Type 0 where
  pub reads : planes_at bpp file from n ≡ behind (pieces c n planes) (planes_at (bpp - c) file at n)

-- the pieces at the front do not depend on what stands behind
front_only : (c n : ℕ) (a b : List ℕ) → take (c * n) a ≡ take (c * n) b → pieces c n a ≡ pieces c n b
front_only zero n a b e = refl
front_only (suc c) n a b e =
    let size : suc c * n ≡ n + c * n = omega arith in
    let within : n ≤ suc c * n = omega (arith, size) in
    let first : take n a ≡ take n b = sym (take-take n (suc c * n) a within) ∙ (ap (take n) e ∙ take-take n (suc c * n) b within) in
    let both : take (n + c * n) a ≡ take (n + c * n) b = ap (λ k. take k a) (sym size) ∙ (e ∙ ap (λ k. take k b) size) in
    let rest : take (c * n) (drop n a) ≡ take (c * n) (drop n b) = sym (drop-take n (c * n) a)
    ∙ (ap (drop n) both ∙ drop-take n (c * n) b) in
    λ i. first i ∷ front_only c n (drop n a) (drop n b) rest i

-- one plane more
more : (c n : ℕ) (planes : List ℕ) → pieces (suc c) n planes ≡ pieces c n planes ++ take n (drop (c * n) planes) ∷ []
more zero n planes = let none : zero * n ≡ zero = omega arith in ap (λ k. take n (drop k planes) ∷ []) (sym none)
more (suc c) n planes =
    let place : n + c * n ≡ suc c * n = omega arith in
    ap (λ xs. take n planes ∷ xs) (more c n (drop n planes))
    ∙ ap (λ xs. take n planes ∷ (pieces c n (drop n planes) ++ take n xs ∷ [])) (drop-drop (c * n) n planes
    ∙ ap (λ k. drop k planes) place)

pub stops : {file : List ℕ} {from n bpp c at : ℕ} {planes : List ℕ} {e : ReadRefused} → Decoding file from n bpp c at planes
    → c < bpp
    → plane_at file at n ≡ Err e → planes_at bpp file from n ≡ Err e
unfolding planes_at
stops {file = file} {n = n} {bpp = bpp} {c = c} {at = at} {planes = planes} so_far some h =
    let left : bpp - c ≡ suc (bpp - (c + 1)) = omega (arith, some) in
    so_far.reads
    ∙ (ap (λ k. behind (pieces c n planes) (planes_at k file at n)) left
    ∙ ap (λ r. behind (pieces c n planes)
    (r >>= (λ part. planes_at (bpp - (c + 1)) file part.next n >>= (λ rest. Ok (part.pixels ∷ rest))))) h)

pub goes_on : {file : List ℕ} {from n bpp c at : ℕ} {planes : List ℕ} → Decoding file from n bpp c at planes → c < bpp
    → (next : ℕ) (new : List ℕ)
    → take (c * n) new ≡ take (c * n) planes → plane_at file at n ≡ Ok (record { pixels = take n (drop (c * n) new); next = next })
    → Decoding file from n bpp (c + 1) next new
unfolding planes_at
goes_on {file = file} {from = from} {n = n} {bpp = bpp} {c = c} {at = at} {planes = planes} so_far some next new same h =
    let left : bpp - c ≡ suc (bpp - (c + 1)) = omega (arith, some) in
    let pixels = take n (drop (c * n) new) in
    let rest = planes_at (bpp - (c + 1)) file next n in
    let step : suc c ≡ c + 1 = omega arith in
    record {
      reads = so_far.reads
          ∙ (ap (λ k. behind (pieces c n planes) (planes_at k file at n)) left
          ∙ (ap (λ r. behind (pieces c n planes)
          (r >>= (λ part. planes_at (bpp - (c + 1)) file part.next n >>= (λ rest. Ok (part.pixels ∷ rest))))) h
          ∙ (ap (behind (pieces c n planes)) (one_behind pixels rest)
          ∙ (behind-behind (pieces c n planes) (pixels ∷ []) rest
          ∙ (ap (λ ps. behind (ps ++ pixels ∷ []) rest) (front_only c n planes new (sym same))
          ∙ ap (λ ps. behind ps rest) (sym (more c n new) ∙ ap (λ k. pieces k n new) step))))));
    }

pub ends : {file : List ℕ} {from n bpp c at : ℕ} {planes : List ℕ} → Decoding file from n bpp c at planes → bpp ≤ c → c ≤ bpp
    → planes_at bpp file from n ≡ Ok (pieces bpp n planes)
unfolding planes_at
ends {file = file} {n = n} {bpp = bpp} {c = c} {at = at} {planes = planes} so_far whole within =
    let none : bpp - c ≡ zero = omega (arith, whole) in
    let same : c ≡ bpp = omega (arith, whole, within) in
    so_far.reads
    ∙ (ap (λ k. behind (pieces c n planes) (planes_at k file at n)) none
    ∙ (ap Ok (append-nil (pieces c n planes)) ∙ ap (λ k. Ok (pieces k n planes)) same))
