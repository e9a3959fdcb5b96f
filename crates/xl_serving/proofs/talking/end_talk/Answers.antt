use Rattle.xl_serving.proofs.talking.end_talk.Goals as goal

pub returns-clause-written : goal.returns-clause-written
returns-clause-written g c = λ begun told kept. (
  c.has_save_fault-failed.result,
  rw c.entries.ensures at c.has_save_fault-failed.ensures,
  c.write_end-status.ensures begun told kept,
)
