-- The file is written, whatever its coder.
use Rattle.std.proofs.lemmas.Result.{IfOk-weaker}
use Rattle.spec_layout.proofs.AnyCoder.{any_coder}
use Rattle.xcf.proofs.showing.save.Goals as goal

pub returns-clause-written : goal.returns-clause-written
returns-clause-written c =
    IfOk-weaker c.encode.result _ _ (λ file written. any_coder _ file.items c.args.document.now written) c.encode.ensures.written
