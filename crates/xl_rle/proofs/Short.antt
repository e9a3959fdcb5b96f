-- Short codes, told by their first byte.
use Rattle.std.proofs.Common.{◌≡◌, ℕ, ◌+◌, ◌-◌, ◌*◌, ◌<◌, ◌≤◌, Bool, true, false, cond, List, length, slice_index}
use Rattle.std.proofs.Common.{◌++◌, nat_lt, refl, sym, ap, subst, ◌∙◌, arith}
use Rattle.std.specs.Prelude.{Some, None, nat_le, ◌==◌}
use Rattle.std.proofs.lemmas.Bool.{lt-ltb, ltb-true, leb-true}
use Rattle.std.proofs.lemmas.Bool.Decides.{nat_tests}
use Rattle.spec_rle.specs.Reading.{Head, body_length, body_pixels}
use Rattle.xl_rle.specs.HeadAt.{short_run_length, short_literal_length}
use Rattle.xl_rle.proofs.Steps.{Begins, Reading, not_lt, goes_on, length_of_run, length_of_literal}
use Rattle.xl_rle.proofs.Walk.{Walking, walk_goes_on, length_of_body}
use Rattle.xl_rle.specs.declared.head.TheConstants.{BLOCK}

pub run_is : (first count : ℕ) → Some count ≡ short_run_length first → (first < BLOCK) × (count ≡ first + 1)
run_is first count is = by (nat_lt first BLOCK) refl is
  where
    by : (t : Bool) → nat_lt first BLOCK ≡ t → Some count ≡ cond t (Some (first + 1)) None → (first < BLOCK) × (count ≡ first + 1)
    by true e h = (ltb-true first BLOCK e, grind (arith, h))
    by false e h = absurd (grind (arith, h))

pub literal_is : (first count : ℕ) → Some count ≡ short_literal_length first → (256 - BLOCK ≤ first) × (count ≡ 256 - first)
literal_is first count is = by (nat_le (256 - BLOCK) first) refl is
  where
    by : (t : Bool) → nat_le (256 - BLOCK) first ≡ t → Some count ≡ cond t (Some (256 - first)) None
        → (256 - BLOCK ≤ first) × (count ≡ 256 - first)
    by true e h = (leb-true (256 - BLOCK) first e, grind (arith, h))
    by false e h = absurd (grind (arith, h))

abbrev pub run_head : (at count : ℕ) → Head
run_head at count = record { is_run = true; count = count; body = at + 1 }

abbrev pub literal_head : (at count : ℕ) → Head
literal_head at count = record { is_run = false; count = count; body = at + 1 }

pub run_begins : (file : List ℕ) (at count : ℕ) → at < length file → Some count ≡ short_run_length (slice_index file at)
    → Begins file at (run_head at count)
run_begins file at count inside is =
    let first = slice_index file at in
    let found = run_is first count is in
    let long = 256 * slice_index file (at + 1) + slice_index file (at + 2) in
    let behind : Head =
    cond (first == 127) (record { is_run = true; count = long; body = at + 3 })
    (cond (first == 128) (record { is_run = false; count = long; body = at + 3 }) (literal_head at (256 - first))) in
    let short : nat_lt first 127 ≡ true = lt-ltb first 127 (omega (arith, found.0)) in
    record {
      is = ap (λ (n : ℕ). run_head at n) found.1 ∙ sym (ap (λ (t : Bool). cond t (run_head at (first + 1)) behind) short);
      starts = inside;
      fits = omega (arith, inside);
    }

pub literal_begins : (file : List ℕ) (at count : ℕ) → at < length file → Some count ≡ short_literal_length (slice_index file at)
    → Begins file at (literal_head at count)
literal_begins file at count inside is =
    let first = slice_index file at in
    let found = literal_is first count is in
    let long = 256 * slice_index file (at + 1) + slice_index file (at + 2) in
    let long_run : Head = record { is_run = true; count = long; body = at + 3 } in
    let long_literal : Head = record { is_run = false; count = long; body = at + 3 } in
    let last : Head = literal_head at (256 - first) in
    let no_short : nat_lt first 127 ≡ false = not_lt first 127 (omega (arith, found.0)) in
    let no_run : (first == 127) ≡ false = grind (arith, nat_tests, found.0) in
    let no_literal : (first == 128) ≡ false = grind (arith, nat_tests, found.0) in
    record {
      is = ap (λ (n : ℕ). literal_head at n) found.1
          ∙ sym (ap (λ (t : Bool). cond t (run_head at (first + 1)) (cond (first == 127) long_run
          (cond (first == 128) long_literal last))) no_short
          ∙ (ap (λ (t : Bool). cond t long_run (cond (first == 128) long_literal last)) no_run
          ∙ ap (λ (t : Bool). cond t long_literal last) no_literal));
      starts = inside;
      fits = omega (arith, inside);
    }

-- a short code at an offset, and the offset behind it
pub record IsShortCode (file : List ℕ) (at : ℕ) (h : Head) (next : ℕ) : Type 0 where
  pub begins : Begins file at h
  pub some : 0 < h.count
  pub few : h.count ≤ BLOCK
  pub behind : next ≡ h.body + body_length h
  pub near : next ≤ at + 2 * h.count

pub run_is_short : (file : List ℕ) (at count next : ℕ) → at < length file → Some count ≡ short_run_length (slice_index file at)
    → next ≡ at + 2 → IsShortCode file at (run_head at count) next
run_is_short file at count next inside is next_is =
    let found = run_is (slice_index file at) count is in
    record {
      begins = run_begins file at count inside is;
      some = omega (arith, found.1);
      few = omega (arith, found.0, found.1);
      behind = omega (arith, next_is, length_of_run (run_head at count) refl);
      near = omega (arith, next_is, found.1);
    }

pub literal_is_short : (file : List ℕ) (at count next : ℕ) → at < length file
    → Some count ≡ short_literal_length (slice_index file at) → 0 < count
    → next ≡ at + 1 + count → IsShortCode file at (literal_head at count) next
literal_is_short file at count next inside is some next_is =
    let found = literal_is (slice_index file at) count is in
    record {
      begins = literal_begins file at count inside is;
      some = some;
      few = omega (arith, found.0, found.1);
      behind = omega (arith, next_is, length_of_literal (literal_head at count) refl);
      near = omega (arith, next_is, some);
    }

-- neither the codes nor the file end before so many bytes are given by short codes, nor within a block behind them
abbrev pub IsAmple : (file : List ℕ) (at wanted left : ℕ) → Type 0
IsAmple file at wanted left = (wanted ≤ left) × (at + 2 * wanted + BLOCK ≤ length file)

-- what a short code leaves to the next one
leaves : {file : List ℕ} {at next wanted rest left most : ℕ} {h : Head} {tested : Type 0} → IsShortCode file at h next
    → IsAmple file at wanted left → BLOCK < wanted → left ≤ most → rest ≡ wanted - h.count
    → (0 < rest) × (left - 1 ≤ most) × (tested → IsAmple file next rest (left - 1))
leaves short ample more few rest_is = (
  omega (arith, more, short.few, rest_is),
  omega (arith, few),
  λ _. (omega (arith, ample.0, short.some, rest_is), omega (arith, ample.1, more, short.few, short.near, rest_is)),
)

pub walk_over_short : {file : List ℕ} {from at next room wanted rest left most : ℕ} {h : Head} {tested : Type 0}
    → Walking file from at room wanted left → IsShortCode file at h next → IsAmple file at wanted left → BLOCK < wanted
    → left ≤ most → rest ≡ wanted - h.count
    → Walking file from next room rest (left - 1)
    × (0 < rest)
    × (left - 1 ≤ most) × (tested → IsAmple file next rest (left - 1))
walk_over_short {file = file} {from = from} {next = next} {room = room} {left = left} {h = h} {tested =
    tested} walking short ample more few rest_is =
    let rest = leaves {tested = tested} short ample more few rest_is in (
      subst (λ n. Walking file from next room n (left - 1)) (sym rest_is)
          (walk_goes_on walking h short.begins (omega (arith, ample.0, more)) (omega (arith, more)) (omega (arith, more, short.few))
          (omega (arith, ample.1, more, short.few, short.near, short.behind)) next short.behind),
      rest.0,
      rest.1,
      rest.2,
    )

pub read_over_short : {so_far file : List ℕ} {from at next room filled left most : ℕ} {h : Head} {tested : Type 0}
    → Reading so_far file from at room filled left → IsShortCode file at h next → IsAmple file at (room - filled) left
    → BLOCK < room - filled → left ≤ most → (front : List ℕ) → front ≡ so_far ++ body_pixels file h
    → Reading front file from next room (filled + h.count) (left - 1)
    × (filled + h.count < room)
    × (left - 1 ≤ most) × (tested → IsAmple file next (room - (filled + h.count)) (left - 1))
read_over_short {file = file} {room = room} {filled = filled} {h = h} {tested =
    tested} reading short ample more few front front_is =
    let rest_is : room - (filled + h.count) ≡ room - filled - h.count = omega arith in
    let whole : h.body + body_length h ≤ length file = omega (arith, ample.1, more, short.few, short.near, short.behind) in
    let rest = leaves {tested = tested} short ample more few rest_is in (
      goes_on reading h short.begins (omega (arith, ample.0, more)) (omega (arith, more)) (omega (arith, more, short.few)) whole
          front _ front_is (length_of_body file h whole) short.behind,
      omega (arith, rest.0),
      rest.1,
      rest.2,
    )
