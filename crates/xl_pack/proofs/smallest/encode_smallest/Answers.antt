use Rattle.std.proofs.Common.{List, length, ◌≤◌, ℕ}
use Rattle.std.proofs.lemmas.Result.{IfOk-weaker}
use Rattle.spec_layout.specs.Layout.{Written, WrittenBy}
use Rattle.spec_layout.proofs.AnyCoder.{any_coder}
use Rattle.spec_shortest.proofs.Shorter.{file_shorter}
use Rattle.xl_pack.proofs.smallest.encode_smallest.Goals as goal

pub returns-clause-written : goal.returns-clause-written
returns-clause-written g c = IfOk-weaker c.encode_parts.result (λ (file : List ℕ). WrittenBy g.C.PlaneCoder.fits file c.args.doc.now)
    (λ (file : List ℕ). Written file c.args.doc.now)
    (λ (file : List ℕ) w. any_coder g.C.PlaneCoder.fits file c.args.doc.now w) c.encode_parts.ensures.written

pub returns-clause-least : goal.returns-clause-least
returns-clause-least g c = IfOk-weaker c.encode_parts.result (λ (file : List ℕ). WrittenBy g.C.PlaneCoder.fits file c.args.doc.now)
    (λ (file : List ℕ). (other : List ℕ) → Written other c.args.doc.now → length file ≤ length other)
    (λ (file : List ℕ) w. λ other is. file_shorter g.C.PlaneCoder.fits c.requires file other c.args.doc.now w is)
    c.encode_parts.ensures.written
