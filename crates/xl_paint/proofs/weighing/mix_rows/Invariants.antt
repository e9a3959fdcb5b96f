use Rattle.std.specs.Prelude.{◌≡◌, ◌*◌, vec_len}
use Rattle.xl_doc.specs.declared.selecting.TheConstants.{ROW_SCRATCH}
use Rattle.xl_paint.specs.Filling.{byte_in, in_rows}
use Rattle.xl_paint.proofs.MixedRows.{AreSoFar}
use Rattle.xl_paint.proofs.weighing.mix_rows.Given as goal

-- the rows so far, and the room for a row's weights
abbrev pub invariant-loop-row : goal.invariant-loop-row
invariant-loop-row l = record {
  rows : AreSoFar l.fn.rect.w l.plane.bpp l.row
      (byte_in l.doc l.site l.plane l.fn.rect (in_rows l.new.step l.plane.bpp l.new.bytes.now)) l.initial.bytes l.bytes;
  pixels : vec_len l.weights.pixels ≡ l.fn.rect.w;
  wide : vec_len l.weights.bytes ≡ l.fn.rect.w * l.plane.bpp;
  scratch : vec_len l.weights.scratch ≡ ROW_SCRATCH;
}
