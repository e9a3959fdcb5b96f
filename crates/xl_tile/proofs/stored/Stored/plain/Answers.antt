use Rattle.std.proofs.Common.{◌≡◌, ◌+◌, ◌-◌, ◌*◌, ◌≤◌, ℕ, List, length, sym, ap, ◌∙◌, take, drop, subst, arith}
use Rattle.xl_tile.specs.Packed.{packed, IsPacked}
use Rattle.xl_tile.proofs.PackedTiles.{plain_reads}
use Rattle.xl_tile.proofs.stored.Stored.plain.Goals as goal

-- a plain tile stands inside, and its bytes are those between its ends
plain_part : (file : List ℕ) (at n bpp compression : ℕ) → compression ≡ 0 → IsPacked file at n bpp compression
    → (at + n * bpp ≤ length file) × (take (at + n * bpp - at) (drop at file) ≡ packed file at n bpp compression)
plain_part file at n bpp compression is h =
    let plain = plain_reads file at n bpp (subst (IsPacked file at n bpp) is h) in
    let size : at + n * bpp - at ≡ n * bpp = omega arith in
    (plain.0, ap (λ k. take k (drop at file)) size ∙ (plain.1 ∙ ap (packed file at n bpp) (sym is)))

pub of-requires-clause-inside : goal.of-requires-clause-inside
of-requires-clause-inside c = (plain_part _ _ _ _ _ c.if-self-ne0.false c.self.invariant).0

pub returns : goal.returns
returns c = rw (← c.self.view_is) (c.in_ok-of.ensures ∙ (plain_part _ _ _ _ _ c.if-self-ne0.false c.self.invariant).1)
