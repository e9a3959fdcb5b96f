use Rattle.std.proofs.Common.{rules}
use Rattle.xl_report.specs.Bands.{HasRoom}
use Rattle.xl_report.proofs.Behind.{behind}
use Rattle.xl_report.proofs.lanes.new_lanes.Goals as goal

pub loop-alloc-preserved : goal.loop-alloc-preserved
loop-alloc-preserved c = record {
  some = search rules;
  few = search rules;
  more = search rules;
  room = behind (λ lane. HasRoom c.args.doc.now lane.composer lane.bytes.items) c.loop-alloc.lanes.items
      c.push_reserved-in-Ok.new.self.items c.in-Ok.lane c.push_reserved-in-Ok.ensures.items c.loop-alloc.invariant.room
      (search rules);
}
