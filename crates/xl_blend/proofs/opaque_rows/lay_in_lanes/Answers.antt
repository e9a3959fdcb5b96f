use Rattle.std.proofs.Common.{inl, inr}
use Rattle.std.proofs.lemmas.Bool.{cases_lt}
use Rattle.xl_blend.proofs.opaque_rows.lay_in_lanes.Goals as goal

pub returns-clause-pixels : goal.returns-clause-pixels
returns-clause-pixels c = λ k h.
    elim (cases_lt k c.lay_fours-done.result) [
      | inl done ↦ c.lay_fours-done.ensures.pixels k done
      | inr rest ↦ c.lay_ones.ensures.pixels k rest h
    ]
