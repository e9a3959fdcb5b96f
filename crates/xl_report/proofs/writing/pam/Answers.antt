use Rattle.std.proofs.Common.{◌≡◌, ap, ◌∙◌, subst}
use Rattle.spec_document.specs.Picture.{picture_bytes}
use Rattle.spec_report.specs.Pam.{pam, pam_head}
use Rattle.xl_ports.specs.Sink.{WritesAll, WritesPart}
use Rattle.xl_ports.proofs.Pieces.{all_then_all, all_then_part, part_of_more}
use Rattle.xl_report.proofs.Ends.{fault_text}
use Rattle.xl_report.proofs.writing.pam.Goals as goal

pub returns-in_err-write_all : goal.returns-in_err-write_all
returns-in_err-write_all g c =
    let d = c.args.doc.now in
    let head : c.as_bytes.result.now ≡ pam_head d.width d.height =
    c.as_bytes.ensures.value ∙ (c.in_ok-head.ensures ∙ ap (λ d. pam_head d.width d.height) c.doc.view_is) in
    let part = subst (WritesPart g.K.Sink.held g.K.Sink.faults c.args.sink.now c.write_all.new.sink) head
    c.in_err-write_all.ensures in
    fault_text g.K.Sink.held g.K.Sink.faults c.args.sink.now c.write_all.new.sink
    (pam d) c.from_residual-in_err-write_all.result _ c.from_residual-in_err-write_all.ensures.1
    (part_of_more g.K.Sink.held g.K.Sink.faults c.args.sink.now c.write_all.new.sink (pam_head d.width d.height)
    (picture_bytes d 0 0 0 d.width d.height) part)

pub returns-in_err-write_rows : goal.returns-in_err-write_rows
returns-in_err-write_rows g c =
    let d = c.args.doc.now in
    let head : c.as_bytes.result.now ≡ pam_head d.width d.height =
    c.as_bytes.ensures.value ∙ (c.in_ok-head.ensures ∙ ap (λ d. pam_head d.width d.height) c.doc.view_is) in
    let first = subst (WritesAll g.K.Sink.held g.K.Sink.faults c.args.sink.now c.write_all.new.sink) head
    c.in_ok-write_all.ensures in
    fault_text g.K.Sink.held g.K.Sink.faults c.args.sink.now c.write_rows.new.sink
    (pam d) c.from_residual-in_err-write_rows.result _ c.from_residual-in_err-write_rows.ensures.1
    (all_then_part g.K.Sink.held g.K.Sink.faults c.args.sink.now c.write_all.new.sink c.write_rows.new.sink
    (pam_head d.width d.height) (picture_bytes d 0 0 0 d.width d.height) first c.in_err-write_rows.ensures)

pub returns : goal.returns
returns g c =
    let d = c.args.doc.now in
    let head : c.as_bytes.result.now ≡ pam_head d.width d.height =
    c.as_bytes.ensures.value ∙ (c.in_ok-head.ensures ∙ ap (λ d. pam_head d.width d.height) c.doc.view_is) in
    let first = subst (WritesAll g.K.Sink.held g.K.Sink.faults c.args.sink.now c.write_all.new.sink) head
    c.in_ok-write_all.ensures in
    all_then_all g.K.Sink.held g.K.Sink.faults c.args.sink.now c.write_all.new.sink c.write_rows.new.sink
    (pam_head d.width d.height) (picture_bytes d 0 0 0 d.width d.height) first c.in_ok-write_rows.ensures
