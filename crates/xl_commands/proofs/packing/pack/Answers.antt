use Rattle.std.proofs.Common.{refl, sym, ◌∙◌, arith}
use Rattle.xl_outcome.proofs.FirstSaves.{ok_at, err_at}
use Rattle.xl_outcome.proofs.PackSaves.{IsPackRead, is_packed, may_be_packed, save_rose, text_moved}
use Rattle.xl_outcome.proofs.PackSaves.{rose_at, stays_at}
use Rattle.xl_outcome.proofs.Reported.{wrote_part, wrote_all}
use Rattle.xl_commands.proofs.packing.pack.Goals as goal
use Rattle.xl_ports.specs.State.{ShelfState}

pub returns-then-is_err-clause-comes : goal.returns-then-is_err-clause-comes
returns-then-is_err-clause-comes g c = λ given.
    let see = g.D.Shelf.shelf_state in
    let before : ShelfState = see c.args.shelf.now in
    let mid : ShelfState = see c.load_document.new.shelf in
    let after : ShelfState = see c.save_smallest.new.shelf in
    let loaded = c.in_ok-loaded.loaded in
    let read : IsPackRead before mid c.args.name.now loaded.document loaded.length = record {
      holds = c.in_ok-loaded.ensures.loads.0;
      size_is = c.in_ok-loaded.ensures.loads.1;
      within = c.in_ok-loaded.ensures.limits;
      untouched = c.in_ok-loaded.ensures.untouched;
      named = c.in_ok-loaded.ensures.named;
      reading = c.in_ok-loaded.ensures.cause;
    } in (
      (refl, refl),
      may_be_packed read after c.args.with_plans
          (err_at c.save_smallest.result (sym c.is_err.ensures.value ∙ c.if-is_err.true) c.save_smallest.ensures.stopped
          loaded.document c.in-Ok.ensures.smallest)
          c.save_smallest.ensures.reading
          (rose_at _ _ c.save_smallest.result (sym c.is_err.ensures.value ∙ c.if-is_err.true) c.save_smallest.ensures.cause),
    )

pub returns-then-is_err-clause-cause : goal.returns-then-is_err-clause-cause
returns-then-is_err-clause-cause g c =
    let see = g.D.Shelf.shelf_state in
    let before : ShelfState = see c.args.shelf.now in
    let mid : ShelfState = see c.load_document.new.shelf in
    let after : ShelfState = see c.save_smallest.new.shelf in
    let loaded = c.in_ok-loaded.loaded in
    let read : IsPackRead before mid c.args.name.now loaded.document loaded.length = record {
      holds = c.in_ok-loaded.ensures.loads.0;
      size_is = c.in_ok-loaded.ensures.loads.1;
      within = c.in_ok-loaded.ensures.limits;
      untouched = c.in_ok-loaded.ensures.untouched;
      named = c.in_ok-loaded.ensures.named;
      reading = c.in_ok-loaded.ensures.cause;
    } in
    save_rose read after c.args.with_plans
    (rose_at _ _ c.save_smallest.result (sym c.is_err.ensures.value ∙ c.if-is_err.true) c.save_smallest.ensures.cause)

pub returns-then-is_err-2-clause-comes : goal.returns-then-is_err-2-clause-comes
returns-then-is_err-2-clause-comes g c = λ given.
    let see = g.D.Shelf.shelf_state in
    let before : ShelfState = see c.args.shelf.now in
    let mid : ShelfState = see c.load_document.new.shelf in
    let after : ShelfState = see c.save_smallest.new.shelf in
    let loaded = c.in_ok-loaded.loaded in
    let well = sym c.is_err.ensures.value ∙ c.if-is_err.false in
    let read : IsPackRead before mid c.args.name.now loaded.document loaded.length = record {
      holds = c.in_ok-loaded.ensures.loads.0;
      size_is = c.in_ok-loaded.ensures.loads.1;
      within = c.in_ok-loaded.ensures.limits;
      untouched = c.in_ok-loaded.ensures.untouched;
      named = c.in_ok-loaded.ensures.named;
      reading = c.in_ok-loaded.ensures.cause;
    } in (
      c.deref.result.now,
      (
        is_packed read after c.args.with_plans c.in-Ok.packed.file c.deref.result.now
            (ok_at c.save_smallest.result well c.save_smallest.ensures.saved
            loaded.document c.in-Ok.ensures.smallest)
            c.save_smallest.ensures.reading
            (stays_at _ _ c.save_smallest.result well c.save_smallest.ensures.cause)
            (text_moved loaded.document c.args.with_plans loaded.length _ _ _ c.deref.ensures.value
            c.in-Ok.ensures.text),
        tt,
      ),
      wrote_part g.K.Sink.held g.K.Sink.faults c.args.sink.now c.write_all.new.sink c.deref.result.now c.write_all.result
          (sym c.is_err-2.ensures.value ∙ c.if-is_err-2.true) c.write_all.ensures,
    )

pub returns-clause-comes : goal.returns-clause-comes
returns-clause-comes g c = λ given.
    let see = g.D.Shelf.shelf_state in
    let before : ShelfState = see c.args.shelf.now in
    let mid : ShelfState = see c.load_document.new.shelf in
    let after : ShelfState = see c.save_smallest.new.shelf in
    let loaded = c.in_ok-loaded.loaded in
    let well = sym c.is_err.ensures.value ∙ c.if-is_err.false in
    let read : IsPackRead before mid c.args.name.now loaded.document loaded.length = record {
      holds = c.in_ok-loaded.ensures.loads.0;
      size_is = c.in_ok-loaded.ensures.loads.1;
      within = c.in_ok-loaded.ensures.limits;
      untouched = c.in_ok-loaded.ensures.untouched;
      named = c.in_ok-loaded.ensures.named;
      reading = c.in_ok-loaded.ensures.cause;
    } in (
      c.deref.result.now,
      (
        is_packed read after c.args.with_plans c.in-Ok.packed.file c.deref.result.now
            (ok_at c.save_smallest.result well c.save_smallest.ensures.saved
            loaded.document c.in-Ok.ensures.smallest)
            c.save_smallest.ensures.reading
            (stays_at _ _ c.save_smallest.result well c.save_smallest.ensures.cause)
            (text_moved loaded.document c.args.with_plans loaded.length _ _ _ c.deref.ensures.value
            c.in-Ok.ensures.text),
        refl,
      ),
      wrote_all g.K.Sink.held g.K.Sink.faults c.args.sink.now c.write_all.new.sink c.deref.result.now c.write_all.result
          (sym c.is_err-2.ensures.value ∙ c.if-is_err-2.false) c.write_all.ensures,
    )

pub returns-then-is_err-clause-few_loads : goal.returns-then-is_err-clause-few_loads
returns-then-is_err-clause-few_loads g c = omega (arith, c.in_ok-loaded.ensures.few_loads, c.save_smallest.ensures.loads)

pub returns-then-is_err-2-clause-few_loads : goal.returns-then-is_err-2-clause-few_loads
returns-then-is_err-2-clause-few_loads g c = omega (arith, c.in_ok-loaded.ensures.few_loads, c.save_smallest.ensures.loads)

pub returns-clause-few_loads : goal.returns-clause-few_loads
returns-clause-few_loads g c = omega (arith, c.in_ok-loaded.ensures.few_loads, c.save_smallest.ensures.loads)
