use Rattle.std.proofs.Common.{List, ℕ, ◌∙◌, ap, ◌++◌, ◌∷◌, []}
use Rattle.serde_json.specs.Written.{compact_text, has_float}
use Rattle.xl_listing.proofs.NoFloats.{document_whole}
use Rattle.xl_listing.proofs.document_line.listing.Goals as goal

pub returns : goal.returns
returns c =
    let whole = ap has_float c.in_ok-object.ensures ∙ document_whole c.args.doc.now in
    c.in_ok-push_str.ensures.bytes
    ∙ ap (λ (t : List ℕ). t ++ 10 ∷ []) (c.in_ok-line.ensures.text whole ∙ ap compact_text c.in_ok-object.ensures)
