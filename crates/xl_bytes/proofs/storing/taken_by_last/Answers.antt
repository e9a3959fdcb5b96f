use Rattle.std.proofs.Common.{◌≡◌, ℕ, List, arith, ap, ◌∙◌, ◌+◌, ◌-◌, length, set}
use Rattle.std.specs.List.{concat}
use Rattle.xl_bytes.proofs.Parts.{last_longer, set_same}
use Rattle.xl_bytes.proofs.storing.taken_by_last.Goals as goal

last_place : (parts : List (List ℕ)) → (length parts ≡ 0 → ⊥) → length parts - 1 + 1 ≡ length parts
last_place parts some = omega (arith, some)

pub returns-clause-joined : goal.returns-clause-joined
returns-clause-joined c all =
    let parts : List (List ℕ) = c.args.parts.now in
    let k = length parts - 1 in
    let longer = rw c.as_slice.ensures at c.take_next.ensures.joined all in
    ap (λ (last : List ℕ). concat (set parts k last)) (rw (← c.index-parts-count.is) at longer)
    ∙ last_longer parts k c.index-parts-count.result c.args.next.now (last_place parts c.if-count-eq0.false) c.index-parts-count.is

pub returns-clause-apart : goal.returns-clause-apart
returns-clause-apart c none =
    let parts : List (List ℕ) = c.args.parts.now in
    let k = length parts - 1 in
    ap (λ (last : List ℕ). set parts k last) (rw (← c.index-parts-count.is) at c.take_next.ensures.apart none)
    ∙ set_same parts k c.index-parts-count.result c.index-parts-count.is
