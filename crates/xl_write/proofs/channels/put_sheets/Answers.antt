use Rattle.std.proofs.Common.{◌≡◌, ◌++◌, map, sym, ap, ◌∙◌, subst, arith}
use Rattle.std.specs.List.{AllByRecursion}
use Rattle.std.proofs.lemmas.Result.{on_ok_weaker}
use Rattle.spec_layout.specs.Layout.{plain_sheet, selection_sheet, sheets}
use Rattle.xl_layout.proofs.Lengths.{sheet_costs-append}
use Rattle.xl_layout.specs.Costs.{sheet_costs}
use Rattle.xl_layout.specs.Writable.{IsWritableSheet}
use Rattle.xl_write.specs.Appended.{PiecesAppended, IsSheetAt}
use Rattle.xl_write.proofs.Followed.{both_appended}
use Rattle.xl_write.proofs.PlanesFollowed.{sheets_followed}
use Rattle.xl_write.proofs.SheetWalk.{sheets_end, all_before, all_behind}
use Rattle.xl_write.proofs.channels.put_sheets.Goals as goal

pub put_channels-requires-clause-sheets : goal.put_channels-requires-clause-sheets
put_channels-requires-clause-sheets g c =
    let whole : map plain_sheet c.as_slice.result.now ++ selection_sheet c.doc.inside.selection ≡ sheets c.args.doc.now =
    λ i. map plain_sheet ((c.as_slice.ensures ∙ ap (λ d. d.channels) c.doc.view_is) i)
    ++ selection_sheet (ap (λ d. d.selection) c.doc.view_is i) in
    all_before IsWritableSheet (map plain_sheet c.as_slice.result.now) (selection_sheet c.doc.inside.selection)
    (subst (AllByRecursion IsWritableSheet) (sym whole) c.requires.sheets)

pub put_channels-requires-clause-room : goal.put_channels-requires-clause-room
put_channels-requires-clause-room g c =
    let xs = map plain_sheet c.as_slice.result.now in
    let ys = selection_sheet c.doc.inside.selection in
    let whole : xs ++ ys ≡ sheets c.args.doc.now =
    λ i. map plain_sheet ((c.as_slice.ensures ∙ ap (λ d. d.channels) c.doc.view_is) i)
    ++ selection_sheet (ap (λ d. d.selection) c.doc.view_is i) in
    omega (arith, c.requires.room, ap sheet_costs whole, sheet_costs-append xs ys)

pub put_selection-requires-clause-sheets : goal.put_selection-requires-clause-sheets
put_selection-requires-clause-sheets g c =
    let whole : map plain_sheet c.as_slice.result.now ++ selection_sheet c.doc.inside.selection ≡ sheets c.args.doc.now =
    λ i. map plain_sheet ((c.as_slice.ensures ∙ ap (λ d. d.channels) c.doc.view_is) i)
    ++ selection_sheet (ap (λ d. d.selection) c.doc.view_is i) in
    all_behind IsWritableSheet (map plain_sheet c.as_slice.result.now) (selection_sheet c.doc.inside.selection)
    (subst (AllByRecursion IsWritableSheet) (sym whole) c.requires.sheets)

pub put_selection-requires-clause-room : goal.put_selection-requires-clause-room
put_selection-requires-clause-room g c =
    let xs = map plain_sheet c.as_slice.result.now in
    let ys = selection_sheet c.doc.inside.selection in
    let whole : xs ++ ys ≡ sheets c.args.doc.now =
    λ i. map plain_sheet ((c.as_slice.ensures ∙ ap (λ d. d.channels) c.doc.view_is) i)
    ++ selection_sheet (ap (λ d. d.selection) c.doc.view_is i) in
    let all = all_before IsWritableSheet xs ys (subst (AllByRecursion IsWritableSheet) (sym whole) c.requires.sheets) in
    let end = sheets_end g.C.PlaneCoder.fits c.doc.inside.compression xs c.args.unfinished.now.bytes
    c.put_channels.new.unfinished.bytes _ _ all c.in_ok-put_channels.ensures.pieces in
    omega (
      arith,
      end,
      c.requires.room,
      ap sheet_costs whole,
      sheet_costs-append xs ys,
    )

pub returns-clause-pieces : goal.returns-clause-pieces
returns-clause-pieces g c =
    let fits = g.C.PlaneCoder.fits in
    let xs = map plain_sheet c.as_slice.result.now in
    let ys = selection_sheet c.doc.inside.selection in
    let old = c.args.unfinished.now.bytes in
    let mid = c.put_channels.new.unfinished.bytes in
    let new = c.put_selection.new.unfinished.bytes in
    let a = c.args.unfinished.now.begins.items in
    let b = c.put_channels.new.unfinished.begins.items in
    let e = c.put_selection.new.unfinished.begins.items in
    let whole : xs ++ ys ≡ sheets c.args.doc.now =
    λ i. map plain_sheet ((c.as_slice.ensures ∙ ap (λ d. d.channels) c.doc.view_is) i)
    ++ selection_sheet (ap (λ d. d.selection) c.doc.view_is i) in
    on_ok_weaker c.put_selection.result
    (λ last. subst (λ n. PiecesAppended (IsSheetAt fits n) (sheets c.args.doc.now) old new a e)
    (ap (λ d. d.compression) c.doc.view_is)
    (subst (λ ss. PiecesAppended (IsSheetAt fits c.doc.inside.compression) ss old new a e) whole
    (both_appended (IsSheetAt fits c.doc.inside.compression) xs ys old mid new a b e c.in_ok-put_channels.ensures.pieces last)))
    c.put_selection.ensures.pieces

pub returns-clause-followed : goal.returns-clause-followed
returns-clause-followed g c =
    let xs = map plain_sheet c.as_slice.result.now in
    let ys = selection_sheet c.doc.inside.selection in
    let whole : xs ++ ys ≡ sheets c.args.doc.now =
    λ i. map plain_sheet ((c.as_slice.ensures ∙ ap (λ d. d.channels) c.doc.view_is) i)
    ++ selection_sheet (ap (λ d. d.selection) c.doc.view_is i) in
    on_ok_weaker c.put_selection.result
    (sheets_followed g.C.PlaneCoder.follows c.doc.inside.compression c.args.doc.now.compression xs ys (sheets c.args.doc.now)
    c.args.coder.now c.put_channels.new.coder c.put_selection.new.coder (ap (λ d. d.compression) c.doc.view_is) whole
    c.in_ok-put_channels.ensures.followed)
    c.put_selection.ensures.followed
