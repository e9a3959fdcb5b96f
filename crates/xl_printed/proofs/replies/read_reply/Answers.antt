use Rattle.std.proofs.Common.{◌∙◌, refl, arith}
use Rattle.spec_audit.specs.Reading.{phrases}
use Rattle.xl_printed.proofs.Looking.{phrase_found, phrase_goes_on, phrase_nowhere}
use Rattle.xl_printed.proofs.replies.read_reply.Goals as goal

-- the code's table is the definition's
pub loop-words-init : goal.loop-words-init
unfolding phrases
loop-words-init c = record { whole = refl; same = refl }

pub returns-in-Some : goal.returns-in-Some
returns-in-Some c =
    c.read_rest.ensures ∙ phrase_found _ _ _ c.in-Some.rest.now _ c.loop-words.invariant (omega arith) c.in-Some.ensures

pub loop-words-preserved : goal.loop-words-preserved
loop-words-preserved c = phrase_goes_on _ _ _ _ c.loop-words.invariant (omega arith) c.in_default.ensures

pub returns : goal.returns
returns c = phrase_nowhere _ c.loop-words.words-index _ c.loop-words.invariant (omega arith)
