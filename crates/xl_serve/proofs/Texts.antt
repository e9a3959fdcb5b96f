-- The texts of one piece and of two.
use Rattle.std.proofs.Common.{◌≡◌, ℕ, List, [], ◌∷◌, ◌++◌, ap, ◌∙◌, append-nil}
use Rattle.std.proofs.lemmas.List.Concat.{flat_map-cons}
use Rattle.spec_document.specs.Document.{Document}
use Rattle.spec_history.specs.History.{Entry}
use Rattle.spec_serve.specs.Said.{Said, said_text, texts_in}

pub one_text : (base : Document) (es : List Entry) (s : Said) → texts_in base es (s ∷ []) ≡ said_text base es s
one_text base es s = flat_map-cons (said_text base es) s [] ∙ append-nil (said_text base es s)

pub two_texts : (base : Document) (es : List Entry) (s t : Said) → texts_in base es (s ∷ t ∷ []) ≡ said_text base es s ++ said_text base es t
two_texts base es s t =
    flat_map-cons (said_text base es) s (t ∷ []) ∙ ap (λ (l : List ℕ). said_text base es s ++ l) (one_text base es t)
