use Rattle.std.proofs.Common.{◌≡◌, ◌≤◌, ◌∙◌, ap, sym, subst, length, arith}
use Rattle.xl_tile.specs.Overlay.{FitsOver}
use Rattle.xl_tile.proofs.Overlays.{few_bytes, length_under}
use Rattle.xl_tile.proofs.tile.TileRef.copy_block.Goals as goal

pub copy_block-requires-in-Some-clause-bytes_small : goal.copy_block-requires-in-Some-clause-bytes_small
copy_block-requires-in-Some-clause-bytes_small c =
    let same : length c.bytes.result.now ≡ length c.self.inside.stored =
    ap length (c.bytes.ensures ∙ sym c.self.view_is)
    ∙ length_under c.self.inside.patch c.self.inside.stored c.self.invariant.0 in
    let few : length c.self.inside.stored ≤ 16384 =
    few_bytes (subst (λ patch. FitsOver patch (length c.self.inside.stored)) c.in-Some.is c.self.invariant.0) in
    omega (arith, same, few)
