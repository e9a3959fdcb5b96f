-- The greatest id, and that one after the next is left where the nodes are numbered.
use Rattle.std.proofs.Common.{ℕ, ◌-◌, ◌^◌, ◌<◌, ◌≤◌, List, [], ◌∷◌, arith}
use Rattle.std.specs.Prelude.{max, fold}
use Rattle.std.specs.List.{AllByRecursion}
use Rattle.spec_document.specs.Forest.{ids, size}
use Rattle.spec_document.specs.Document.{Document}
use Rattle.spec_document.specs.Ids.{next_id}
use Rattle.xl_doc.specs.Numbered.{AreNumbered}

greatest_from : (most n : ℕ) (xs : List ℕ) → n ≤ most → AllByRecursion (λ x. x ≤ most) xs → fold max n xs ≤ most
greatest_from most n [] le all = le
greatest_from most n (x ∷ xs) le all = let here = all.0 in greatest_from most (max n x) xs (omega arith) all.1

-- the greatest of numbers up to the most
pub greatest_within : (most : ℕ) (xs : List ℕ) → AllByRecursion (λ x. x ≤ most) xs → fold max 0 xs ≤ most
greatest_within most xs all = greatest_from most 0 xs (omega arith) all

pub next_small : (d : Document) → AreNumbered d.nodes → next_id d < 2 ^ 32 - 1
next_small d numbered =
    let greatest = greatest_within (size d.nodes) (ids d.nodes) numbered.within in
    let few = numbered.few in
    omega (arith, greatest, few)
