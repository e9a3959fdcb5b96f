-- The channels are the document's, before and after.
use Rattle.std.proofs.Common.{List, ℕ, sym, subst, arith}
use Rattle.spec_document.specs.Document.{Document}
use Rattle.xl_paint.specs.Channels.{IsChannelPiece, PaintsChannel}
use Rattle.xl_paint.specs.Paint.{spread_over}
use Rattle.xl_paint.proofs.ChannelMade.{channel_fits, channel_limits, channel_made, channels_kept}
use Rattle.xl_paint.proofs.channel_filling.fill_channel.Goals as goal

pub put_channel-requires-clause-piece : goal.put_channel-requires-clause-piece
put_channel-requires-clause-piece c =
    let d = c.args.doc.now in
    let P : Document → Type 0 = λ x. IsChannelPiece c.args.rect (spread_over c.args.rect c.in_ok-new.new.spread c.deref.result.now) c.args.index x.channels in
    let Q : List ℕ → Type 0 = λ given.
    PaintsChannel d c.args.index c.args.rect c.args.value (spread_over c.args.rect c.in_ok-new.new.spread given) in
    subst P (sym c.doc.view_is) (channel_fits d c.args.index c.args.rect c.args.value (spread_over c.args.rect c.in_ok-new.new.spread c.deref.result.now)
    (subst Q (sym c.deref.ensures.value) c.in_ok-new.ensures.paints))

pub invariant_of-doc : goal.invariant_of-doc
invariant_of-doc c = channels_kept _ _ _ c.in_err-put_channel.ensures.err c.doc.invariant

pub invariant_of-doc-2 : goal.invariant_of-doc-2
invariant_of-doc-2 c =
    let d = c.args.doc.now in
    let Q : List ℕ → Type 0 = λ given.
    PaintsChannel d c.args.index c.args.rect c.args.value (spread_over c.args.rect c.in_ok-new.new.spread given) in
    record {
      marks = c.doc.invariant.marks;
      limits =
          channel_limits _ d c.args.index c.args.rect c.args.value (spread_over c.args.rect c.in_ok-new.new.spread c.deref.result.now) _ c.doc.view_is c.in_ok-new.ensures.allowed
          (subst Q (sym c.deref.ensures.value) c.in_ok-new.ensures.paints) c.in_ok-put_channel.ensures.ok c.doc.invariant.limits
          (omega arith);
    }

pub returns : goal.returns
returns c =
    let d = c.args.doc.now in
    let Q : List ℕ → Type 0 = λ given.
    PaintsChannel d c.args.index c.args.rect c.args.value (spread_over c.args.rect c.in_ok-new.new.spread given) in
    channel_made _ d c.args.index c.args.rect c.args.value (spread_over c.args.rect c.in_ok-new.new.spread c.deref.result.now) _ c.doc.view_is c.in_ok-new.ensures.allowed
    (subst Q (sym c.deref.ensures.value) c.in_ok-new.ensures.paints) c.in_ok-put_channel.ensures.ok
