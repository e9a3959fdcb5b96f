-- The summary, as it is put together.
use Rattle.std.proofs.Common.{◌≡◌, ℕ, List, [], ◌∷◌, ◌++◌, ◌∙◌, ap, append_assoc}
use Rattle.std.specs.Prelude.{codes}
use Rattle.spec_document.specs.Document.{Document}
use Rattle.spec_document.specs.Picture.{picture_bytes}
use Rattle.spec_text.specs.Text.{digest_of}
use Rattle.spec_generated.specs.Summary.{summary_of}

abbrev head : List ℕ
head = codes "made 1024 768 nodes 10 sessions 8 calls 800 entries 808 version 768 digest "

pub summary_is : (t0 t1 t2 t3 digest : List ℕ) → t0 ≡ [] → t1 ≡ t0 ++ head → t2 ≡ t1 ++ digest → t3 ≡ t2 ++ 10 ∷ []
    → (d : Document) → digest ≡ digest_of (picture_bytes d 0 0 0 d.width d.height) → t3 ≡ summary_of d
summary_is t0 t1 t2 t3 digest e0 e1 e2 e3 d is =
    e3
    ∙ (ap (λ t. t ++ 10 ∷ []) (e2 ∙ ap (λ t. t ++ digest) (e1 ∙ ap (λ t. t ++ head) e0))
    ∙ (append_assoc head digest (10 ∷ []) ∙ ap (λ t. head ++ (t ++ 10 ∷ [])) is))
