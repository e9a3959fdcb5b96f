use Rattle.std.proofs.Common.{arith}
use Rattle.std.proofs.lemmas.Option.{IfSome_then}
use Rattle.std.proofs.lemmas.Result.{IfOk-weaker}
use Rattle.xl_tile.proofs.Coded.{begins_inside, codes_are}
use Rattle.xl_tile.proofs.stored.Stored.codes.Goals as goal

pub codes_at-requires-clause-inside : goal.codes_at-requires-clause-inside
codes_at-requires-clause-inside c =
    let all = rw (c.as_slice.ensures.value, c.deref.ensures) at c.know_bytes.ensures in
    begins_inside _ _ _ _ _ all c.self.invariant (omega arith)

pub returns : goal.returns
returns c =
    rw (← c.self.view_is) (IfOk-weaker c.codes_at.result _ _ (λ found have. IfSome_then found have (λ codes are.
    codes_are _ _ _ _ _ _ _ codes c.self.invariant (omega arith) (omega arith) (omega arith) are)) c.codes_at.ensures)
