-- What becomes of the coders that spell shortest, by planes one after another.
use Rattle.std.proofs.Common.{◌≡◌, ℕ, ◌+◌, ◌^◌, ◌<◌, List, [], ◌∷◌, ◌++◌, length, refl, sym, ap, ◌∙◌, arith, append_assoc, append-nil}
use Rattle.xl_rle.specs.Follows.{FollowsEach}
use Rattle.spec_small.specs.Lines.{plan_line}
use Rattle.spec_shortest.specs.Lines.{ArePlanLines}
use Rattle.xl_small.specs.Told.{Told, TellsOneMore, one_more}

next_is : (n : ℕ) → n + 1 < 2 ^ 64 → one_more n ≡ n + 1
next_is n room = omega (arith, room)

pub counted : (planes : List (List ℕ)) (before after : ℕ)
    → FollowsEach (λ (n : ℕ) (plane : List ℕ) (m : ℕ). m ≡ one_more n) before planes after
    → before + length planes < 2 ^ 64 → after ≡ before + length planes
counted [] before after followed room = omega (arith, followed)
counted (plane ∷ planes) before after (next, step, rest) room =
    let next' : next ≡ before + 1 = step ∙ next_is before (omega (arith, room)) in
    omega (arith, counted planes next after rest (omega (arith, room, next')), next')

-- the planes are counted, and their lines are behind those before
pub record AreTold (planes : List (List ℕ)) (before after : Told) : Type 0 where
  pub lines : List ℕ
  pub are : ArePlanLines lines planes
  pub behind : after.lines ≡ before.lines ++ lines
  pub count : after.planes ≡ before.planes + length planes

pub told : (planes : List (List ℕ)) (before after : Told) → FollowsEach TellsOneMore before planes after
    → before.planes + length planes < 2 ^ 64 → AreTold planes before after
told [] before after followed room = record {
  lines = [];
  are = refl;
  behind = ap (λ (t : Told). t.lines) followed ∙ sym (append-nil before.lines);
  count = omega (arith, ap (λ (t : Told). t.planes) followed);
}
told (plane ∷ planes) before after (next, step, rest) room =
    let next' : next.planes ≡ before.planes + 1 = step.counted ∙ next_is before.planes (omega (arith, room)) in
    let more = told planes next after rest (omega (arith, room, next')) in
    let line = plan_line step.cuts in
    record {
      lines = line ++ more.lines;
      are = (step.cuts, more.lines, step.smallest, refl, more.are);
      behind = more.behind ∙ (ap (λ xs. xs ++ more.lines) step.line ∙ append_assoc before.lines line more.lines);
      count = omega (arith, more.count, next');
    }
