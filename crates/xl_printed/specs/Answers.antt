-- What is told of a verdict.
use Rattle.std.specs.Prelude.{ℕ, List, [], ◌∷◌, ◌++◌, codes, Option, Some, None}
use Rattle.spec_text.specs.Printed.{place_text}
use Rattle.spec_audit.specs.declared.Verdict.{Verdict}
use Rattle.spec_audit.specs.declared.Verdict.TheVariants as verdicts
use Rattle.xl_printed.specs.declared.answers.Rejection.{Rejection}
use Rattle.xl_printed.specs.declared.answers.Rejection.TheVariants as rejections

-- a rejection has a number, and a reply is named as its line names it
abbrev pub verdict_text : Verdict → List ℕ
verdict_text verdicts.Accepted = codes "accepted"
verdict_text verdicts.Shape = codes "rejected 1"
verdict_text (verdicts.Reply session index) = codes "rejected 2 " ++ place_text session index

abbrev pub verdict_line : Verdict → List ℕ
verdict_line v = verdict_text v ++ 10 ∷ []

-- why an output is not accepted
abbrev pub rejection_of : Verdict → Option Rejection
rejection_of verdicts.Accepted = None
rejection_of verdicts.Shape = Some rejections.Shape
rejection_of (verdicts.Reply session index) = Some (rejections.Reply session index)
