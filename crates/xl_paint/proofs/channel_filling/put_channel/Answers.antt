-- The channel that is lent is the one at the index.
use Rattle.std.proofs.Common.{ap, ◌∙◌, set}
use Rattle.std.proofs.lemmas.List.{set-get_or}
use Rattle.std.proofs.lemmas.Result.{on_ok_weaker, on_err_weaker}
use Rattle.spec_document.specs.Document.{Channel}
use Rattle.spec_document.specs.Plane.{Plane}
use Rattle.spec_edit.specs.Effect.{with_plane}
use Rattle.xl_tiles.specs.Written.{written}
use Rattle.xl_paint.specs.Paint.{spread_over}
use Rattle.xl_paint.proofs.ChannelMade.{set_changed}
use Rattle.xl_paint.proofs.channel_filling.put_channel.Goals as goal

pub returns-clause-ok : goal.returns-clause-ok
returns-clause-ok c =
    let with : Plane → Channel = λ p. record { name = c.channel.inside.name; kept = c.channel.inside.kept; plane = p } in
    let change : Channel → Channel = with_plane (λ p. written p c.args.rect (spread_over c.args.rect c.args.spread c.args.bytes.now)) in
    on_ok_weaker c.put_plane.result
    (λ e. set_changed change c.args.index c.args.channels.now c.get_mut-channel.result.now
    (with c.put_plane.new.plane) c.get_mut-channel.ensures.value c.requires.there
    (ap with e ∙ ap change c.channel.view_is))
    c.put_plane.ensures.ok

pub returns-clause-err : goal.returns-clause-err
returns-clause-err c =
    let with : Plane → Channel = λ p. record { name = c.channel.inside.name; kept = c.channel.inside.kept; plane = p } in
    on_err_weaker c.put_plane.result
    (λ e. ap (set c.args.channels.now c.args.index) (ap with e ∙ (c.channel.view_is ∙ c.get_mut-channel.ensures.value))
    ∙ set-get_or c.args.channels.now c.args.index c.get_mut-channel.result.now)
    c.put_plane.ensures.err
