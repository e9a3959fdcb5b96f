-- A lead may go to another thread, by its parts.
use denote.Param.Send.{IsSend, sendable, recorded_send, struct_send, view_send}
use denote.Struct.Declared.{shape}
use denote.Struct.Struct.{Struct}
use Rattle.std.proofs.Crossing.{crosses}
use Rattle.xl_doc.proofs.document.Document.TheSendSync as document
use Rattle.xl_doc.proofs.node.Node.TheSendSync as node
use Rattle.xl_tree.proofs.handle.Handle.TheSendSync as handle
use Rattle.xl_undo.specs.contracts.back.Back as Back
use Rattle.xl_undo.specs.contracts.kept_layer.KeptLayer as KeptLayer
use Rattle.xl_undo.specs.contracts.lead.Lead as Lead
use Rattle.xl_undo.specs.contracts.lead.Lead.TheInside as Inside

kept_send : IsSend KeptLayer.the_row
kept_send = search (handle.the_send, node.the_send, node.the_sync, crosses, sendable) depth 60

back_send : IsSend (Back.the_field).row
back_send = search (document.the_send, kept_send, crosses, sendable) depth 60

pub lead_send : IsSend Lead.the_row
lead_send =
    let T = Inside.the_type in
    view_send Inside.the_row _ _ _ _ (recorded_send (Struct (shape T)) _ _ T.to_one (struct_send (shape T) (
      search (crosses, sendable) depth 60,
      (back_send, tt),
    )))
