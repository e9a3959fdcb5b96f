use Rattle.std.proofs.Common.{◌≡◌, ℕ, ◌^◌, List, Option, Some, ap, subst, sym, ◌∙◌, arith}
use Rattle.std.specs.Prelude.{IfSome}
use Rattle.spec_file.specs.Holds.{Holds}
use Rattle.spec_file.specs.Reading.{reading}
use Rattle.xl_ports.specs.Shelf.{Content, selected_content, GivesFront}
use Rattle.xl_ports.proofs.Fronts.{same_content}
use Rattle.xl_outcome.proofs.Limits.{front_holds, front_length, front_faults}
use Rattle.xl_outcome.proofs.Quiet.{two_quiet}
use Rattle.xl_commands.proofs.loading.load_document.Goals as goal

-- what was loaded is the front of the named file
of_name : (s : Option (List ℕ)) (name : List ℕ) (c d : List ℕ → Option Content) (bytes : List ℕ) → s ≡ Some name → c ≡ d
    → IfSome (selected_content s c) (λ x. GivesFront x (2 ^ 31) bytes) → IfSome (d name) (λ x. GivesFront x (2 ^ 31) bytes)
of_name s name c d bytes e f front =
    subst (λ (o : Option Content). IfSome o (λ x. GivesFront x (2 ^ 31) bytes)) (same_content s (Some name) c d e f) front

pub returns-in-Ok-decode_beside-clause-loads : goal.returns-in-Ok-decode_beside-clause-loads
returns-in-Ok-decode_beside-clause-loads g c =
    let selected = c.in-Ok.ensures in
    let loaded = c.in-Ok-load_all.ensures in
    let bytes : List ℕ = c.in-Ok-load_all.bytes.items in
    let front = of_name _ _ _ _ bytes selected.selected selected.contents loaded.front in
    let file = ap (λ v. v.items) c.in-Ok-new.ensures.ok in
    let holds = subst (λ (l : List ℕ). Holds l c.in-Ok-decode_beside.document) file c.in-Ok-decode_beside.ensures.held in (
      front_holds _ bytes c.in-Ok-decode_beside.document front holds,
      front_length _ bytes c.len-length.result c.in-Ok-decode_beside.document front holds
          (omega (arith, c.len-length.ensures, c.in-Ok-load_all.bytes.ok.0)),
    )

pub returns-in-Err-Refused-clause-loads : goal.returns-in-Err-Refused-clause-loads
returns-in-Err-Refused-clause-loads g c =
    let selected = c.in-Ok.ensures in
    let loaded = c.in-Ok-load_all.ensures in
    let bytes : List ℕ = c.in-Ok-load_all.bytes.items in
    let front = of_name _ _ _ _ bytes selected.selected selected.contents loaded.front in
    let fails = rw c.in-Err-Refused.field-0-is at c.in-Err-Refused.ensures.exact in
    let file = ap (λ v. v.items) c.in-Ok-new.ensures.ok in
    front_faults _ bytes c.in-Err-Refused.refused front (ap reading (sym file) ∙ fails)

pub returns-in-Err-Failed-clause-untouched : goal.returns-in-Err-Failed-clause-untouched
returns-in-Err-Failed-clause-untouched g c =
    two_quiet g.D.Shelf.shelf_state c.args.shelf.now
    c.select.new.self c.load_all.new.shelf
    c.select.ensures.contents c.select.ensures.quiet c.select.ensures.saving c.load_all.ensures.contents c.load_all.ensures.quiet
    c.load_all.ensures.saving

pub returns-in-Err-Memory-clause-untouched : goal.returns-in-Err-Memory-clause-untouched
returns-in-Err-Memory-clause-untouched g c =
    two_quiet g.D.Shelf.shelf_state c.args.shelf.now
    c.select.new.self c.load_all.new.shelf
    c.select.ensures.contents c.select.ensures.quiet c.select.ensures.saving c.load_all.ensures.contents c.load_all.ensures.quiet
    c.load_all.ensures.saving

pub returns-in_default-clause-untouched : goal.returns-in_default-clause-untouched
returns-in_default-clause-untouched g c =
    two_quiet g.D.Shelf.shelf_state c.args.shelf.now
    c.select.new.self c.load_all.new.shelf
    c.select.ensures.contents c.select.ensures.quiet c.select.ensures.saving c.load_all.ensures.contents c.load_all.ensures.quiet
    c.load_all.ensures.saving

pub returns-in-Ok-decode_beside-clause-untouched : goal.returns-in-Ok-decode_beside-clause-untouched
returns-in-Ok-decode_beside-clause-untouched g c =
    two_quiet g.D.Shelf.shelf_state c.args.shelf.now
    c.select.new.self c.load_all.new.shelf
    c.select.ensures.contents c.select.ensures.quiet c.select.ensures.saving c.load_all.ensures.contents c.load_all.ensures.quiet
    c.load_all.ensures.saving

pub returns-in-Err-Refused-clause-untouched : goal.returns-in-Err-Refused-clause-untouched
returns-in-Err-Refused-clause-untouched g c =
    two_quiet g.D.Shelf.shelf_state c.args.shelf.now
    c.select.new.self c.load_all.new.shelf
    c.select.ensures.contents c.select.ensures.quiet c.select.ensures.saving c.load_all.ensures.contents c.load_all.ensures.quiet
    c.load_all.ensures.saving

pub returns-clause-untouched : goal.returns-clause-untouched
returns-clause-untouched g c =
    two_quiet g.D.Shelf.shelf_state c.args.shelf.now
    c.select.new.self c.load_all.new.shelf
    c.select.ensures.contents c.select.ensures.quiet c.select.ensures.saving c.load_all.ensures.contents c.load_all.ensures.quiet
    c.load_all.ensures.saving

pub returns-in-Err-Failed-clause-few_loads : goal.returns-in-Err-Failed-clause-few_loads
returns-in-Err-Failed-clause-few_loads g c = omega (arith, c.select.ensures.loads, c.load_all.ensures.loads)

pub returns-in-Err-Memory-clause-few_loads : goal.returns-in-Err-Memory-clause-few_loads
returns-in-Err-Memory-clause-few_loads g c = omega (arith, c.select.ensures.loads, c.load_all.ensures.loads)

pub returns-in_default-clause-few_loads : goal.returns-in_default-clause-few_loads
returns-in_default-clause-few_loads g c = omega (arith, c.select.ensures.loads, c.load_all.ensures.loads)

pub returns-in-Ok-decode_beside-clause-few_loads : goal.returns-in-Ok-decode_beside-clause-few_loads
returns-in-Ok-decode_beside-clause-few_loads g c = omega (arith, c.select.ensures.loads, c.load_all.ensures.loads)

pub returns-in-Err-Refused-clause-few_loads : goal.returns-in-Err-Refused-clause-few_loads
returns-in-Err-Refused-clause-few_loads g c = omega (arith, c.select.ensures.loads, c.load_all.ensures.loads)

pub returns-clause-few_loads : goal.returns-clause-few_loads
returns-clause-few_loads g c = omega (arith, c.select.ensures.loads, c.load_all.ensures.loads)
