-- The plane of the channel has one byte per pixel.
use Rattle.std.proofs.Common.{sym, ◌∙◌, ap, subst}
use Rattle.std.proofs.lemmas.Result.{on_ok_weaker}
use Rattle.spec_document.specs.Document.{Channel}
use Rattle.spec_edit.specs.Effect.{with_plane, with_rect}
use Rattle.xl_tiles.specs.Written.{IsWithin}
use Rattle.xl_edit.proofs.CanvasMade.{channel_written}
use Rattle.xl_edit.proofs.canvas.write_channel.Goals as goal

pub returns : goal.returns
returns c =
    let ch : Channel = record { name = c.channel.inside.name; kept = c.channel.inside.kept; plane = c.channel.inside.plane } in
    let P : Channel → Type 0 = λ x. IsWithin x.plane.width x.plane.height c.args.rect in
    on_ok_weaker c.write_rect.result
    (λ e. ap (λ p. record ch { plane = p }) e
    ∙ (channel_written ch c.args.rect c.args.value c.args.bytes.now c.channel.invariant
    (subst P (sym c.channel.view_is) c.requires.within) c.requires.flat
    ∙ ap (with_plane (with_rect c.args.rect (λ x y k. c.args.value))) c.channel.view_is))
    c.write_rect.ensures.ok
