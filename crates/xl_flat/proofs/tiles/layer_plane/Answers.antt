-- The tiles are those of the layer's plane.
use Rattle.std.proofs.Common.{◌≡◌, ℕ, ◌*◌, ◌≤◌, List, sym, ◌∙◌, ap, subst, arith}
use Rattle.std.proofs.lemmas.Result.{IfOk-weaker}
use Rattle.spec_document.specs.Document.{Document, bytes_of_kind, picture_kind}
use Rattle.spec_document.specs.Grid.{tiles_along}
use Rattle.spec_document.specs.Limits.{IsDocument}
use Rattle.spec_flat.specs.Flattened.{flat_layer}
use Rattle.spec_flat.proofs.Bytes.{bytes_length}
use Rattle.xl_flat.specs.Flattening.{AreFlatTiles}
use Rattle.xl_tiles.proofs.FreshTiles.{IsPut, table_done}
use Rattle.xl_tiles.proofs.Tables.{by_is}
use Rattle.xl_flat.proofs.tiles.layer_plane.Goals as goal

-- all tiles are a table of these sides
all_put : (d : Document) (w h n : ℕ) (tiles : List (List ℕ)) → IsDocument d → w ≡ d.width → h ≡ d.height
    → n ≡ bytes_of_kind (picture_kind d.base) → 1 ≤ n → n ≤ 4
    → AreFlatTiles d (tiles_along d.width * tiles_along d.height) tiles → IsPut w h n (flat_layer d).plane tiles
all_put d w h n tiles within width height bpp some few first =
    let q = (flat_layer d).plane in
    let put : IsPut d.width d.height (bytes_of_kind (picture_kind d.base)) q tiles =
    table_done q tiles within.width within.height (omega (arith, bpp, some)) (omega (arith, bpp, few)) (bytes_length d) first in
    subst (λ w. IsPut w h n q tiles) (sym width) (subst (λ h. IsPut d.width h n q tiles) (sym height)
    (subst (λ n. IsPut d.width d.height n q tiles) (sym bpp) put))

pub of_tiles-requires : goal.of_tiles-requires
of_tiles-requires g c =
    let d = c.args.doc.now in
    (all_put d _ _ c.layer_bpp.result c.in_ok-made.made.items (subst IsDocument c.doc.view_is c.doc.invariant.limits)
    (ap (λ d. d.width) c.doc.view_is) (ap (λ d. d.height) c.doc.view_is) c.layer_bpp.ensures.value c.layer_bpp.ensures.some
    c.layer_bpp.ensures.few c.in_ok-made.ensures.tiles).tiled

pub returns-clause-plane : goal.returns-clause-plane
returns-clause-plane g c =
    let d = c.args.doc.now in
    let put = all_put d c.doc.inside.width c.doc.inside.height c.layer_bpp.result c.in_ok-made.made.items
    (subst IsDocument c.doc.view_is c.doc.invariant.limits)
    (ap (λ d. d.width) c.doc.view_is) (ap (λ d. d.height) c.doc.view_is) c.layer_bpp.ensures.value c.layer_bpp.ensures.some
    c.layer_bpp.ensures.few c.in_ok-made.ensures.tiles in
    IfOk-weaker c.of_tiles.result _ _
    (λ p is. is ∙ (sym (by_is c.doc.inside.width c.doc.inside.height c.layer_bpp.result c.in_ok-made.made.items) ∙ put.plane))
    c.of_tiles.ensures
