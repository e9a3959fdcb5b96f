use Rattle.std.proofs.Common.{List, ℕ, refl}
use Rattle.spec_layout.specs.Layout.{WrittenBy}
use Rattle.xl_snapshot.proofs.Putting.{coded_there}
use Rattle.xl_snapshot.proofs.saving.save_document.Goals as goal

pub returns-in-Ok-save_file-clause-saved : goal.returns-in-Ok-save_file-clause-saved
returns-in-Ok-save_file-clause-saved g c = c.in-Ok-save_file.ensures.saved c.args.document.now c.in-Ok.ensures.written

pub returns-clause-saved : goal.returns-clause-saved
returns-clause-saved g c = c.in-Err.ensures.failed c.args.document.now c.in-Ok.ensures.written

pub returns-in-Ok-save_file-clause-coded : goal.returns-in-Ok-save_file-clause-coded
returns-in-Ok-save_file-clause-coded g c done =
    coded_there (λ (file : List ℕ). WrittenBy g.C.PlaneCoder.fits file c.args.document.now)
    (g.D.Shelf.shelf_state c.args.shelf.now).selected (g.D.Shelf.shelf_state c.save_file.new.shelf).disk c.in-Ok.file
    c.in-Ok.file c.in-Ok.ensures.coded refl c.in-Ok-save_file.ensures.whole
