use Rattle.std.proofs.Common.{map, take, sym, ap, subst, arith}
use Rattle.spec_layout.specs.Layout.{plain_sheet}
use Rattle.xl_layout.specs.Costs.{sheet_cost}
use Rattle.xl_layout.specs.Writable.{IsWritableSheet}
use Rattle.xl_write.proofs.PlanesFollowed.{channel_followed}
use Rattle.xl_write.proofs.SheetWalk.{sheets_end, writable_at, writable_first, costs_at, one_channel_more}
use Rattle.xl_write.proofs.channels.put_channels.Goals as goal

pub put_channel-requires-clause-sheet : goal.put_channel-requires-clause-sheet
put_channel-requires-clause-sheet g c =
    let item = c.channel-item.result in
    subst (λ c. IsWritableSheet (plain_sheet c)) (sym c.channel-item.is)
    (writable_at c.args.channels.now c.loop-channel.channel-index item c.loop-channel-test.true c.requires.sheets)

pub put_channel-requires-clause-room : goal.put_channel-requires-clause-room
put_channel-requires-clause-room g c =
    let cs = c.args.channels.now in
    let i = c.loop-channel.channel-index in
    let end = sheets_end g.C.PlaneCoder.fits c.args.compression
    (map plain_sheet (take i cs)) c.args.unfinished.now.bytes c.loop-channel.unfinished.bytes _ _
    (writable_first cs i c.requires.sheets) c.loop-channel.invariant.pieces in
    omega (
      arith,
      end,
      c.requires.room,
      costs_at cs i c.channel-item.result c.loop-channel-test.true,
      ap (λ c. sheet_cost (plain_sheet c)) c.channel-item.is,
    )

pub loop-channel-preserved : goal.loop-channel-preserved
loop-channel-preserved g c = record {
  pieces =
      one_channel_more g.C.PlaneCoder.fits c.args.compression c.args.channels.now c.loop-channel.channel-index c.channel-item.result
      c.channel-item.result c.args.unfinished.now.bytes
      c.loop-channel.unfinished.bytes c.put_channel.new.unfinished.bytes c.args.unfinished.now.begins.items
      c.loop-channel.unfinished.begins.items c.put_channel.new.unfinished.begins.items
      c.loop-channel-test.true c.channel-item.is c.loop-channel.invariant.pieces c.in_ok-put_channel.ensures.piece;
  followed =
      channel_followed g.C.PlaneCoder.follows c.args.compression c.args.channels.now c.loop-channel.channel-index
      c.channel-item.result c.channel-item.result c.args.coder.now c.loop-channel.coder c.put_channel.new.coder
      c.loop-channel-test.true c.channel-item.is c.loop-channel.invariant.followed c.in_ok-put_channel.ensures.followed;
}
