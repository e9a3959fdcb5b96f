-- The rectangle lies on the canvas.
use Rattle.std.proofs.Common.{◌*◌, subst, arith}
use Rattle.std.proofs.lemmas.Result.{IfOk-weaker}
use Rattle.spec_document.specs.Limits.{IsDocument}
use Rattle.xl_edit.proofs.CanvasMade.{few_within, repeated_flat}
use Rattle.xl_edit.proofs.canvas.flat_bytes.Goals as goal

pub repeat-requires : goal.repeat-requires
repeat-requires c =
    let limits : IsDocument c.args.doc.now = subst IsDocument c.doc.view_is c.doc.invariant.limits in
    omega (arith, few_within c.args.doc.now.width c.args.doc.now.height c.args.rect c.requires limits.width.1 limits.height.1)

pub returns : goal.returns
returns c =
    IfOk-weaker c.repeat.result _ _
    (λ v repeated. repeated_flat (c.args.rect.w * c.args.rect.h) c.args.value v.items repeated) c.repeat.ensures
