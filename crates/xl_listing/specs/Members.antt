-- The members of an object, with those of a label, a node or a layer.
use Rattle.std.specs.Prelude.{ℕ, [], ◌∷◌, codes, is_some}
use Rattle.serde_json.specs.Data.{Members, boolean, put}
use Rattle.spec_document.specs.Blend.{mode_code}
use Rattle.spec_document.specs.Document.{Group}
use Rattle.spec_listing.specs.Listing.{Label, integer, list, natural}
use Rattle.xl_doc.specs.Sheet.{Sheet}

abbrev pub with_label : Label → Members → Members
with_label own ms = put (codes "text") own.text (put (codes "parasites") own.parasites (put (codes "name") own.name ms))

-- what layers and groups have alike
abbrev pub with_node : (id : ℕ) → Group → Members → Members
with_node id g ms =
    put (codes "visible") (boolean g.visible)
    (put (codes "opacity") (natural g.opacity)
    (put (codes "mode") (natural (mode_code g.mode))
    (put (codes "lock_content") (boolean g.lock_content)
    (put (codes "lock_alpha") (boolean g.lock_alpha)
    (put (codes "id") (natural id) ms)))))

abbrev pub with_sheet : Sheet → Members → Members
with_sheet s ms =
    put (codes "width") (natural s.plane.width)
    (put (codes "type") (natural s.kind)
    (put (codes "mask") (boolean (is_some s.mask))
    (put (codes "height") (natural s.plane.height)
    (put (codes "apply_mask") (boolean s.apply_mask)
    (put (codes "offset") (list (integer s.x ∷ integer s.y ∷ [])) ms)))))
