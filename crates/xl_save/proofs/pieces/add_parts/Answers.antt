use Rattle.std.proofs.Common.{[], refl, arith}
use Rattle.xl_save.proofs.Adding.{none_added, adds_quietly, only_quiet, adds_more, bytes_before}
use Rattle.xl_save.proofs.pieces.add_parts.Goals as goal

pub loop-part-init : goal.loop-part-init
loop-part-init g c = record {
  so_far = none_added [] _;
  opened = c.requires.opened;
  selected = refl;
  loads = refl;
  reading = refl;
  saving = refl;
}

pub returns-in_err-add_all-clause-quiet : goal.returns-in_err-add_all-clause-quiet
returns-in_err-add_all-clause-quiet g c = adds_quietly _ _ _ _ c.loop-part.invariant.so_far c.add_all.ensures.quiet

pub loop-part-preserved : goal.loop-part-preserved
loop-part-preserved g c =
    let so_far = c.loop-part.invariant in
    let added = c.in_ok-add_all.ensures in
    record {
      so_far = adds_more _ _ _ _ _ _ (bytes_before c.args.parts.now c.loop-part.part-index c.part-item.result c.as_slice.result.now
          (omega arith) c.part-item.is c.as_slice.ensures) so_far.so_far added.added;
      opened = added.opened;
      selected = cc (added.selected, so_far.selected);
      loads = cc (added.loads, so_far.loads);
      reading = cc (added.reading, so_far.reading);
      saving = cc (added.cause, so_far.saving);
    }

pub returns-clause-quiet : goal.returns-clause-quiet
returns-clause-quiet g c = only_quiet _ _ _ c.loop-part.invariant.so_far
