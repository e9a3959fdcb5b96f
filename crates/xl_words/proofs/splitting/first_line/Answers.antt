use Rattle.xl_words.proofs.Splits.{line_and_rest}
use Rattle.xl_words.proofs.splitting.first_line.Goals as goal

pub returns-in-Some-clause-lines : goal.returns-in-Some-clause-lines
returns-in-Some-clause-lines c = line_and_rest c.args.text.now c.in-Some.line.now c.in-Some.after.now c.in-Some.ensures.pieces
