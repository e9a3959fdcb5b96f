use Rattle.std.proofs.Common.{[], sym, ap, ◌∙◌, arith}
use Rattle.spec_layout.specs.Layout.{items, IsItem}
use Rattle.xl_doc.specs.Nodes.{nodes_of}
use Rattle.xl_layout.proofs.Short.{room}
use Rattle.xl_layout.proofs.Writable.{items_writable, sheets_writable}
use Rattle.xl_write.specs.Appended.{PiecesAppended}
use Rattle.xl_write.proofs.Counting.{can_walk}
use Rattle.xl_write.proofs.Followed.{items_end}
use Rattle.xl_write.proofs.Walking.{put_moved}
use Rattle.xl_write.proofs.PlanesFollowed.{nodes_followed, all_followed}
use Rattle.xl_write.proofs.encoding.put_all.Goals as goal

pub put_nodes-requires-clause-can : goal.put_nodes-requires-clause-can
put_nodes-requires-clause-can g c =
    let d = c.args.doc.now in
    can_walk d c.new-path.result.items c.top.result _ c.requires.document (sym c.new-path.ensures.items)
    (ap (λ d. d.nodes) (sym c.doc.view_is) ∙ ap nodes_of (sym c.top.ensures.value))
    (omega (arith, c.requires.begin))

pub put_sheets-requires-clause-sheets : goal.put_sheets-requires-clause-sheets
put_sheets-requires-clause-sheets g c = sheets_writable c.args.doc.now c.requires.document

pub put_sheets-requires-clause-room : goal.put_sheets-requires-clause-room
put_sheets-requires-clause-room g c =
    let d = c.args.doc.now in
    let put : PiecesAppended (IsItem g.C.PlaneCoder.fits d.compression) (items d) _ _ _ _ =
    put_moved g.C.PlaneCoder.fits d c.new-path.result.items [] 0
    (nodes_of c.top.result) d.nodes c.args.unfinished.now.bytes c.put_nodes.new.unfinished.bytes _ _
    c.new-path.ensures.items
    (ap nodes_of c.top.ensures.value ∙ ap (λ d. d.nodes) c.doc.view_is) c.in_ok-put_nodes.ensures.pieces in
    let end = items_end g.C.PlaneCoder.fits d.compression d.base
    (items d) c.args.unfinished.now.bytes c.put_nodes.new.unfinished.bytes _ _ (items_writable d c.requires.document) put in
    omega (arith, end, room d c.requires.document, c.requires.begin)

pub returns-clause-followed : goal.returns-clause-followed
returns-clause-followed g c =
    let d = c.args.doc.now in
    let follows = g.C.PlaneCoder.follows in
    all_followed follows d c.args.coder.now c.put_nodes.new.coder c.put_sheets.new.coder
    (nodes_followed follows d c.new-path.result.items [] 0 (nodes_of c.top.result) d.nodes c.args.coder.now c.put_nodes.new.coder
    c.new-path.ensures.items
    (ap nodes_of c.top.ensures.value ∙ ap (λ d. d.nodes) c.doc.view_is) c.in_ok-put_nodes.ensures.followed)
    c.in_ok-put_sheets.ensures.followed
