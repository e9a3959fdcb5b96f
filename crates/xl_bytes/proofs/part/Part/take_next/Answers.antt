use Rattle.std.proofs.Common.{refl}
use Rattle.xl_bytes.proofs.Slices.{joined, behind}
use Rattle.xl_bytes.proofs.part.Part.take_next.Goals as goal

pub returns-clause-joined : goal.returns-clause-joined
returns-clause-joined c _ =
    let all_is = rw c.deref.ensures at c.as_slice-all.ensures.value in
    let next = behind _ _ _ c.args.next.now _ _ all_is c.between.ensures (c.are_equal.ensures c.if-not-are_equal.false) in
    rw (← c.self.view_is) (joined _ _ _ _ _ refl next)
