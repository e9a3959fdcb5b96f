use Rattle.xcf.proofs.image.Image.of.Goals as goal

pub invariant_of-result : goal.invariant_of-result
invariant_of-result c = c.next_id_of-next_id.ensures.at

pub returns : goal.returns
returns c = λ i. record { document = c.args.document; next = c.next_id_of-next_id.ensures.next i }
