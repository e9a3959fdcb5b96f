-- What may go to another thread: what is heard.
use denote.Param.Send.{IsSend, sendable}
use Rattle.std.proofs.Crossing.{crosses}
use Rattle.std.specs.contracts.alloc.AllocError as AllocError
use Rattle.std.specs.contracts.result.Result as Result
use Rattle.xl_calls.proofs.reply.Reply.TheSendSync as reply
use Rattle.xl_calls.specs.contracts.reply.Reply as Reply

pub heard_send : IsSend (Result.the_row Reply.the_row AllocError.the_row)
heard_send = search (reply.the_send, crosses, sendable) depth 60 fits 20000
