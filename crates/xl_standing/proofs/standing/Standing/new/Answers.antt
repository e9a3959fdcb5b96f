-- What stands first is the document and its next id.
use Rattle.std.specs.Prelude.{reverse}
use Rattle.xl_standing.proofs.standing.Standing.new.Goals as goal

pub returns-clause-first : goal.returns-clause-first
returns-clause-first c = λ i. record {
  document = c.args.document;
  undo = reverse (c.requires.undo i);
  redo = reverse (c.requires.redo i);
  next_id = c.next_id_of-next_id.ensures.next i;
  next_group = 1;
  version = 0;
  cache = c.requires.cache i;
}

pub returns-clause-within : goal.returns-clause-within
returns-clause-within c = c.next_id_of-next_id.ensures.at.document
