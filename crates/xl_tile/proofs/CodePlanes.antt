-- Planes whose spellings stand one after another.
use Rattle.std.proofs.Common.{◌≡◌, ℕ, suc, ◌+◌, ◌-◌, ◌<◌, ◌≤◌, List, [], ◌∷◌, ◌++◌, length, take, drop, refl, sym, ap, ◌∙◌}
use Rattle.std.proofs.Common.{subst, arith}
use Rattle.std.specs.Prelude.{Ok, Err}
use Rattle.std.specs.List.{AllByRecursion}
use Rattle.std.proofs.Math.Seq.{take-add}
use Rattle.std.proofs.lemmas.List.{drop-drop}
use Rattle.spec_fields.specs.Reading.{Read, ◌>>=◌}
use Rattle.spec_fields.proofs.Steps.{onward}
use Rattle.spec_rle.specs.declared.TheConstants.{MAX_EXCESS}
use Rattle.spec_rle.specs.Reading.{Part, plane_at}
use Rattle.spec_rle.proofs.SpelledBack.{spelled_has}
use Rattle.spec_hierarchy.specs.Reading.{planes_at}
use Rattle.xl_rle.specs.NextOf.{next_of}
use Rattle.xl_tile.specs.Codes.{StandTo}

-- a plane that is read, and the offset behind it
record ReadTo (read : Read Part) (next : ℕ) : Type 0 where
  pub part : Part
  pub is : read ≡ Ok part
  pub ends : part.next ≡ next

read_to : (read : Read Part) (next : ℕ) → next_of read ≡ Ok next → ReadTo read next
read_to (Ok part) next e = record { part = part; is = refl; ends = cc }
read_to (Err f) next e = absurd (cc)

planes_more : (file : List ℕ) (at n k : ℕ) (part : Part) (list : List (List ℕ)) → plane_at file at n ≡ Ok part
    → planes_at k file part.next n ≡ Ok list → planes_at (suc k) file at n ≡ Ok (part.pixels ∷ list)
unfolding planes_at
planes_more file at n k part list one rest =
    onward (plane_at file at n) part (λ p. planes_at k file p.next n >>= (λ l. Ok (p.pixels ∷ l))) one
    ∙ onward (planes_at k file part.next n) list (λ l. Ok (part.pixels ∷ l)) rest

pub no_planes : (file : List ℕ) (at n : ℕ) → at ≤ length file → StandTo file at n 0 at
unfolding planes_at
no_planes file at n inside =
    let none : at - at ≡ 0 = omega arith in
    record {
      behind = omega arith;
      inside = inside;
      codes = record {
        list = [];
        reads = refl;
        as_many = refl;
        full = tt;
        spelled = ap (λ k. take k (drop at file)) none;
      };
    }

pub next_inside : (file : List ℕ) (at n next : ℕ) → AllByRecursion (λ b. b < 256) file → 1 ≤ n
    → next_of (plane_at file at n) ≡ Ok next → next ≤ length file
next_inside file at n next all some e =
    let one = read_to (plane_at file at n) next e in
    let there = spelled_has file at n one.part all some one.is in
    omega (arith, there.has.fits, there.next, one.ends)

one_more : (file : List ℕ) (at n k next end : ℕ) → AllByRecursion (λ b. b < 256) file → 1 ≤ n
    → next_of (plane_at file at n) ≡ Ok next → next ≤ at + n + MAX_EXCESS → StandTo file next n k end → StandTo file at n (suc k) end
one_more file at n k next end all some e short rest =
    let one = read_to (plane_at file at n) next e in
    let there = spelled_has file at n one.part all some one.is in
    let far : next ≡ at + length there.bytes = sym one.ends ∙ there.next in
    let whole : end - at ≡ length there.bytes + (end - next) = omega (arith, far, rest.behind) in
    let cut : take (end - at) (drop at file) ≡ there.bytes ++ take (end - next) (drop next file) =
    ap (λ m. take m (drop at file)) whole
    ∙ (take-add (length there.bytes) (end - next) (drop at file)
    ∙ (ap (λ l. l ++ take (end - next) (drop (length there.bytes) (drop at file))) there.has.are
    ∙ ap (λ l. there.bytes ++ take (end - next) l) (drop-drop (length there.bytes) at file ∙ ap (λ m. drop m file) (sym far)))) in
    record {
      behind = omega (arith, far, rest.behind);
      inside = rest.inside;
      codes = record {
        list = one.part.pixels ∷ rest.codes.list;
        reads = planes_more file at n k one.part rest.codes.list one.is (rw one.ends rest.codes.reads);
        as_many = ap suc rest.codes.as_many;
        full = (there.full, rest.codes.full);
        spelled = (
          there.bytes,
          take (end - next) (drop next file),
          there.spells,
          omega (arith, far, short, there.full),
          tt,
          cut,
          rest.codes.spelled,
        );
      };
    }

-- one plane before those that stand
pub one_before : (file : List ℕ) (at n planes c next end : ℕ) → AllByRecursion (λ b. b < 256) file → 1 ≤ n → c < planes
    → next_of (plane_at file at n) ≡ Ok next → next ≤ at + n + MAX_EXCESS → StandTo file next n (planes - (c + 1)) end
    → StandTo file at n (planes - c) end
one_before file at n planes c next end all some less e short stands =
    let count : suc (planes - (c + 1)) ≡ planes - c = omega (arith, less) in
    subst (λ k. StandTo file at n k end) count (one_more file at n (planes - (c + 1)) next end all some e short stands)
