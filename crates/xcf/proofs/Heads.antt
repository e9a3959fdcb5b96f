-- The head of a PAM, as it is put together.
use Rattle.std.proofs.Common.{◌≡◌, ℕ, List, [], ◌∷◌, ◌++◌, ◌∙◌, ap, append_assoc}
use Rattle.std.specs.Prelude.{codes, decimal}
use Rattle.spec_report.specs.Pam.{pam_head}

regroup : (a w b h c : List ℕ) → (((a ++ w) ++ 10 ∷ b) ++ h) ++ 10 ∷ c ≡ a ++ ((w ++ 10 ∷ []) ++ (b ++ ((h ++ 10 ∷ []) ++ c)))
regroup a w b h c = simp append_assoc

abbrev first : List ℕ
first = codes "P7" ++ 10 ∷ codes "WIDTH "

abbrev last : List ℕ
last = codes "DEPTH 4" ++ 10 ∷ (codes "MAXVAL 255" ++ 10 ∷ (codes "TUPLTYPE RGB_ALPHA" ++ 10 ∷ (codes "ENDHDR" ++ 10 ∷ [])))

pub head_is : (t0 t1 t2 t3 t4 t5 w h : List ℕ) (width height : ℕ) → t0 ≡ [] → t1 ≡ t0 ++ first → w ≡ decimal width → t2 ≡ t1 ++ w
    → t3 ≡ t2 ++ 10 ∷ codes "HEIGHT " → h ≡ decimal height → t4 ≡ t3 ++ h → t5 ≡ t4 ++ 10 ∷ last → t5 ≡ pam_head width height
head_is t0 t1 t2 t3 t4 t5 w h width height e0 e1 ew e2 e3 eh e4 e5 =
    e5 ∙ (ap (λ t. t ++ 10 ∷ last) (e4 ∙ (λ i. e3 i ++ eh i))
    ∙ (ap (λ t. ((t ++ 10 ∷ codes "HEIGHT ") ++ decimal height) ++ 10 ∷ last) (e2 ∙ (λ i. (e1 ∙ ap (λ t. t ++ first) e0) i ++ ew i))
    ∙ regroup first (decimal width) (codes "HEIGHT ") (decimal height) last))
