-- The channel that is filled is the one at the index.
use Rattle.std.proofs.Common.{◌≡◌, ◌∙◌, subst}
use Rattle.spec_document.specs.Document.{Channel}
use Rattle.xl_paint.specs.Channels.{canvas_site}
use Rattle.xl_paint.specs.Paint.{spread_over, PaintsPlane}
use Rattle.xl_paint.proofs.ChannelMade.{one_there}
use Rattle.xl_paint.proofs.channel_filling.channel_bytes.Goals as goal

pub returns-clause-paints : goal.returns-clause-paints
returns-clause-paints c = λ other at.
    let d = c.args.doc.now in
    let n = c.in_ok-channel.channel.now in
    let same : n ≡ other = one_there c.args.index d.channels n other c.in_ok-channel.ensures.there c.in_ok-channel.ensures.channel
    at in
    let P : Channel → Type 0 = λ q. PaintsPlane d canvas_site c.args.rect c.args.value
    (spread_over c.args.rect c.in_ok-bytes.bytes.spread c.in_ok-bytes.bytes.given.items) q.plane in
    subst P (c.channel.view_is ∙ same) c.in_ok-bytes.ensures
