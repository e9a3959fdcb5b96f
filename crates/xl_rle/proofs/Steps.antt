-- What one code does to the plane that is read.
use Rattle.std.proofs.Common.{◌≡◌, ℕ, zero, suc, ◌+◌, ◌-◌, ◌<◌, ◌≤◌, Bool, true, false, cond, List, [], ◌++◌, length}
use Rattle.std.proofs.Common.{replicate, slice_index, nat_lt, refl, ap, ◌∙◌, append_assoc, append-nil, sym}
use Rattle.std.proofs.Common.{arith, inl, inr}
use Rattle.std.specs.Prelude.{Some, Ok, Err, nat_le}
use Rattle.std.proofs.lemmas.Bool.{lt-ltb, le-leb, cases_lt}
use Rattle.std.proofs.lemmas.Bool.Decides.{nat_tests}
use Rattle.spec_fields.specs.declared.Kind.TheVariants.{Truncated, BadRun}
use Rattle.spec_fields.specs.declared.ReadRefused.{ReadRefused}
use Rattle.spec_fields.specs.Reading.{Read, ◌>>=◌, fault, wants}
use Rattle.spec_fields.specs.Field.{bytes_at}
use Rattle.spec_fields.proofs.Steps.{pass, onward}
use Rattle.spec_rle.specs.Reading.{Head, head_of, body_length, body_pixels, Part, code_at, codes_at, plane_at}
use Rattle.xl_rle.specs.HeadAt.{HeadAt, as_read}
use Rattle.xl_rle.specs.declared.head.CodeHead as code

-- a rule that fails ends the reading
fails : {A : Type 0} (test : Bool) (refused : ReadRefused) (rest : Unit {0} → Read A) → test ≡ false
    → (wants test refused >>= rest) ≡ Err refused
fails test refused rest h = ap (λ b. wants b refused >>= rest) h

pub not_lt : (a b : ℕ) → b ≤ a → nat_lt a b ≡ false
not_lt a b h = grind (arith, nat_tests, h)

not_le : (a b : ℕ) → b < a → nat_le a b ≡ false
not_le a b h = grind (arith, nat_tests, h)

-- the code at an offset whose head is known
abbrev code_by : (file : List ℕ) (at codes room : ℕ) → Head → Read Part
code_by file at codes room head = do
  _ ← wants (nat_lt at (length file)) (fault Truncated at)
  _ ← wants (nat_le head.body (length file)) (fault Truncated at)
  _ ← wants (nat_le head.count room) (fault BadRun at)
  _ ← wants (nat_lt 0 codes) (fault BadRun at)
  _ ← wants (nat_le (head.body + body_length head) (length file)) (fault Truncated at)
  Ok (record { pixels = body_pixels file head; next = head.body + body_length head })

by_head : (file : List ℕ) (at codes room : ℕ) (h : Head) → h ≡ head_of file at (slice_index file at)
    → code_at file at codes room ≡ code_by file at codes room h
unfolding code_at
by_head file at codes room h e = ap (code_by file at codes room) (sym e)

-- a head that does not fit
pub cut : (file : List ℕ) (at codes room : ℕ) → length file < (head_of file at (slice_index file at)).body
    → code_at file at codes room ≡ Err (fault Truncated at)
cut file at codes room past =
    let h = head_of file at (slice_index file at) in
    by_head file at codes room h refl
    ∙ elim (cases_lt at (length file)) [
      | inl starts ↦
          pass (nat_lt at (length file)) (fault Truncated at) _ (lt-ltb at (length file) starts)
          ∙ fails (nat_le h.body (length file)) (fault Truncated at) _ (not_le h.body (length file) past)
      | inr ends ↦ fails (nat_lt at (length file)) (fault Truncated at) _ (not_lt at (length file) ends)
    ]

-- a head that fits
pub record Begins (file : List ℕ) (at : ℕ) (h : Head) : Type 0 where
  pub is : h ≡ head_of file at (slice_index file at)
  pub starts : at < length file
  pub fits : h.body ≤ length file

pub head_begins : (file : List ℕ) (at : ℕ) (h : code.CodeHead) → HeadAt file at (Some h) → Begins file at (as_read h)
head_begins file at h head = record { is = head.0; starts = omega (arith, head.1, head.2); fits = head.2 }

-- the rules of the plane, and of the body
abbrev rest_of : (file : List ℕ) (at codes room : ℕ) → Head → Read Part
rest_of file at codes room h = do
  _ ← wants (nat_le h.count room) (fault BadRun at)
  _ ← wants (nat_lt 0 codes) (fault BadRun at)
  _ ← wants (nat_le (h.body + body_length h) (length file)) (fault Truncated at)
  Ok (record { pixels = body_pixels file h; next = h.body + body_length h })

begun : (file : List ℕ) (at codes room : ℕ) (h : Head) (read : Read Part) → Begins file at h → rest_of file at codes room h ≡ read
    → code_at file at codes room ≡ read
begun file at codes room h read b rest =
    by_head file at codes room h b.is
    ∙ (pass (nat_lt at (length file)) (fault Truncated at) _ (lt-ltb at (length file) b.starts)
    ∙ (pass (nat_le h.body (length file)) (fault Truncated at) _ (le-leb h.body (length file) b.fits) ∙ rest))

-- more bytes than the plane has room for
pub too_long : (file : List ℕ) (at codes room : ℕ) (h : Head) → Begins file at h → room < h.count
    → code_at file at codes room ≡ Err (fault BadRun at)
too_long file at codes room h b long =
    begun file at codes room h _ b (fails (nat_le h.count room) (fault BadRun at) _ (not_le h.count room long))

-- one code too many
pub too_many : (file : List ℕ) (at room : ℕ) (h : Head) → Begins file at h → code_at file at 0 room ≡ Err (fault BadRun at)
too_many file at room h b =
    let rest : Unit {0} → Read Part =
    λ _. wants (nat_le (h.body + body_length h) (length file)) (fault Truncated at) >>=
    (λ _. Ok (record { pixels = body_pixels file h; next = h.body + body_length h })) in
    let many : Read Part = wants (nat_lt 0 0) (fault BadRun at) >>= rest in
    let no_more : many ≡ Err (fault BadRun at) = fails (nat_lt 0 0) (fault BadRun at) rest refl in
    elim (cases_lt room h.count) [
      | inl long ↦ too_long file at 0 room h b long
      | inr fits ↦ begun file at 0 room h _ b (pass (nat_le h.count room) (fault BadRun at) (λ _. many) (le-leb h.count room fits)
          ∙ no_more)
    ]

-- a body that does not fit
pub short : (file : List ℕ) (at codes room : ℕ) (h : Head) → Begins file at h → h.count ≤ room → 0 < codes
    → length file < h.body + body_length h
    → code_at file at codes room ≡ Err (fault Truncated at)
short file at codes room h b fits some past =
    begun file at codes room h _ b
    (pass (nat_le h.count room) (fault BadRun at) _ (le-leb h.count room fits)
    ∙ (pass (nat_lt 0 codes) (fault BadRun at) _ (lt-ltb 0 codes some)
    ∙ fails (nat_le (h.body + body_length h) (length file)) (fault Truncated at) _
    (not_le (h.body + body_length h) (length file) past)))

-- a code that fits
pub one : (file : List ℕ) (at codes room : ℕ) (h : Head) → Begins file at h → h.count ≤ room → 0 < codes
    → h.body + body_length h ≤ length file
    → code_at file at codes room ≡ Ok (record { pixels = body_pixels file h; next = h.body + body_length h })
one file at codes room h b fits some whole =
    begun file at codes room h _ b
    (pass (nat_le h.count room) (fault BadRun at) _ (le-leb h.count room fits)
    ∙ (pass (nat_lt 0 codes) (fault BadRun at) _ (lt-ltb 0 codes some)
    ∙ pass (nat_le (h.body + body_length h) (length file)) (fault Truncated at) _
    (le-leb (h.body + body_length h) (length file) whole)))

-- a run has a byte behind its head, and literals have as many as they give
pub length_of_run : (h : Head) → h.is_run ≡ true → body_length h ≡ 1
length_of_run h e = ap (λ b. cond b 1 h.count) e

pub length_of_literal : (h : Head) → h.is_run ≡ false → body_length h ≡ h.count
length_of_literal h e = ap (λ b. cond b 1 h.count) e

pub pixels_of_run : (file : List ℕ) (h : Head) → h.is_run ≡ true → body_pixels file h ≡ replicate h.count (slice_index file h.body)
pixels_of_run file h e = ap (λ b. cond b (replicate h.count (slice_index file h.body)) (bytes_at file h.body h.count)) e

pub pixels_of_literal : (file : List ℕ) (h : Head) → h.is_run ≡ false → body_pixels file h ≡ bytes_at file h.body h.count
pixels_of_literal file h e = ap (λ b. cond b (replicate h.count (slice_index file h.body)) (bytes_at file h.body h.count)) e

-- what is read goes behind what stands in front
abbrev prepend : List ℕ → Read Part → Read Part
prepend front (Ok part) = Ok (record { pixels = front ++ part.pixels; next = part.next })
prepend front (Err e) = Err e

prepend-prepend : (a b : List ℕ) (r : Read Part) → prepend a (prepend b r) ≡ prepend (a ++ b) r
prepend-prepend a b (Ok x) = ap (λ zs. Ok (record { pixels = zs; next = x.next })) (sym (append_assoc a b x.pixels))
prepend-prepend a b (Err e) = refl

full : (codes : ℕ) (file : List ℕ) (at : ℕ) → codes_at codes file at 0 ≡ Ok (record { pixels = []; next = at })
unfolding codes_at
full zero file at = refl
full (suc codes) file at = refl

-- the rest of the codes behind a first part
abbrev onto : (codes : ℕ) (file : List ℕ) (room : ℕ) → Part → Read Part
onto codes file room part = do
  rest ← codes_at codes file part.next (room - length part.pixels)
  Ok (record { pixels = part.pixels ++ rest.pixels; next = rest.next })

ended : (codes : ℕ) (file : List ℕ) (at room : ℕ) (e : ReadRefused) → 0 < room → code_at file at codes room ≡ Err e
    → codes_at codes file at room ≡ Err e
unfolding codes_at
ended codes file at zero e some h = absurd (omega arith)
ended zero file at (suc room) e some h = h
ended (suc codes) file at (suc room) e some h = ap (λ r. r >>= onto codes file (suc room)) h

as_prepend : (a : List ℕ) (r : Read Part)
    → (r >>= (λ rest. Ok (record { pixels = a ++ rest.pixels; next = rest.next }))) ≡ prepend a r
as_prepend a (Ok x) = refl
as_prepend a (Err e) = refl

went : (codes : ℕ) (file : List ℕ) (at room : ℕ) (part : Part) → 0 < room → 0 < codes → code_at file at codes room ≡ Ok part
    → codes_at codes file at room ≡ prepend part.pixels (codes_at (codes - 1) file part.next (room - length part.pixels))
unfolding codes_at
went codes file at zero part some more h = absurd (omega arith)
went zero file at (suc room) part some more h = absurd (omega arith)
went (suc codes) file at (suc room) part some more h =
    let k : codes ≡ suc codes - 1 = omega arith in
    onward (code_at file at (suc codes) (suc room)) part (onto codes file (suc room)) h
    ∙ (as_prepend part.pixels (codes_at codes file part.next (suc room - length part.pixels))
    ∙ ap (λ n. prepend part.pixels (codes_at n file part.next (suc room - length part.pixels))) k)

-- what is read so far goes before what is still to be read
pub record Reading (so_far file : List ℕ) (from at room filled left : ℕ) : Type 0 where
  pub inside : filled ≤ room
  pub reads : plane_at file from room ≡ prepend so_far (codes_at left file at (room - filled))

pub stops : {so_far file : List ℕ} {from at room filled left : ℕ} {e : ReadRefused} → Reading so_far file from at room filled left
    → filled < room
    → code_at file at left (room - filled) ≡ Err e → plane_at file from room ≡ Err e
stops {so_far = so_far} {file = file} {at = at} {room = room} {filled = filled} {left = left} {e = e} reading some h =
    reading.reads ∙ ap (prepend so_far) (ended left file at (room - filled) e (omega (arith, some)) h)

pub goes_on_part : {so_far file : List ℕ} {from at room filled left : ℕ} → Reading so_far file from at room filled left
    → (part : Part) → 0 < left → filled < room
    → code_at file at left (room - filled) ≡ Ok part → filled + length part.pixels ≤ room
    → (front : List ℕ) (next behind : ℕ) → front ≡ so_far ++ part.pixels → next ≡ part.next
    → behind ≡ filled + length part.pixels
    → Reading front file from next room behind (left - 1)
goes_on_part {so_far = so_far} {file = file} {at = at} {room = room} {filled = filled} {left =
    left} reading part some more is fits front next behind front_is next_is behind_is =
    let split = went left file at (room - filled) part (omega (arith, more)) some is in
    let joined = prepend-prepend so_far part.pixels (codes_at (left - 1) file part.next (room - filled - length part.pixels)) in
    let rest : room - filled - length part.pixels ≡ room - behind = omega (arith, behind_is) in
    record {
      inside = omega (arith, fits, behind_is);
      reads = reading.reads ∙ (ap (prepend so_far) split
          ∙ (joined ∙ (λ i. prepend (sym front_is i) (codes_at (left - 1) file (sym next_is i) (rest i)))));
    }

pub goes_on : {so_far file : List ℕ} {from at room filled left : ℕ} → Reading so_far file from at room filled left → (h : Head)
    → Begins file at h → 0 < left → filled < room
    → h.count ≤ room - filled → h.body + body_length h ≤ length file → (front : List ℕ) (next : ℕ)
    → front ≡ so_far ++ body_pixels file h → length (body_pixels file h) ≡ h.count
    → next ≡ h.body + body_length h → Reading front file from next room (filled + h.count) (left - 1)
goes_on {so_far = so_far} {file = file} {at = at} {room = room} {filled = filled} {left =
    left} reading h b some more fits whole front next front_is count next_is =
    let part : Part = record { pixels = body_pixels file h; next = h.body + body_length h } in
    goes_on_part reading part some more (one file at left (room - filled) h b fits some whole)
    (omega (arith, count, fits, more)) front next _ front_is next_is (omega (arith, count))

pub ends : {so_far file : List ℕ} {from at room filled left : ℕ} → Reading so_far file from at room filled left → room ≤ filled
    → plane_at file from room ≡ Ok (record { pixels = so_far; next = at })
ends {so_far = so_far} {file = file} {at = at} {room = room} {filled = filled} {left = left} reading whole =
    let none : room - filled ≡ 0 = omega (arith, whole) in
    reading.reads ∙ (ap (λ n. prepend so_far (codes_at left file at n)) none
    ∙ (ap (prepend so_far) (full left file at) ∙ ap (λ zs. Ok (record { pixels = zs; next = at })) (append-nil so_far)))
