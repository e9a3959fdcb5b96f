-- A spelling that was read stands in the file.
use Rattle.std.proofs.Common.{◌≡◌, ℕ, zero, suc, ◌+◌, ◌-◌, ◌*◌, ◌/◌, ◌%◌, ◌<◌, ◌≤◌, Bool, true, false, cond, List}
use Rattle.std.proofs.Common.{[], ◌∷◌, ◌++◌, length, take, drop, slice_index, nat_lt, nat_eq, refl, sym, ◌∙◌, ap}
use Rattle.std.proofs.Common.{subst, arith, length-append, drop-cons}
use Rattle.std.specs.Prelude.{Ok, nat_le, flat_map}
use Rattle.std.specs.List.{AllByRecursion}
use Rattle.std.proofs.lemmas.List.{length-replicate}
use Rattle.std.proofs.lemmas.Bool.{leb-true, ltb-true, ltb-false, eqb-true, eqb-false}
use Rattle.spec_fields.specs.declared.Kind.TheVariants.{Truncated, BadRun}
use Rattle.spec_fields.specs.Reading.{fault}
use Rattle.spec_fields.specs.Field.{bytes_at, HasBytes}
use Rattle.spec_fields.proofs.Steps.{chosen_true, chosen_false}
use Rattle.spec_fields.proofs.Back.{bind_back, wants_back}
use Rattle.spec_fields.proofs.All.{all_append, all_replicate}
use Rattle.spec_fields.proofs.FieldsBack.{length-bytes_at, has_bytes, has_both, byte_below, bytes_below}
use Rattle.spec_rle.specs.declared.TheConstants.{MAX_LONG}
use Rattle.spec_rle.specs.Codes.{Code, short_run, long_run, long_literal, short_literal, IsCode, code_bytes}
use Rattle.spec_rle.specs.Codes.{code_pixels, EndsWithBytes, Spells}
use Rattle.spec_rle.specs.Reading.{Head, head_of, body_length, body_pixels, Part, code_at, codes_at, plane_at}
use Rattle.spec_rle.specs.Standing.{IsSpelledAt}
use Rattle.spec_rle.proofs.Spelled.{Fits, part_of, spelled_is}

-- a byte before bytes
has_byte : (file : List ℕ) (at b : ℕ) (bytes : List ℕ) → at < length file → slice_index file at ≡ b → HasBytes file (at + 1) bytes
    → HasBytes file at (b ∷ bytes)
has_byte file at b bytes some is h =
    let next : suc at ≡ at + 1 = omega arith in
    record {
      fits = omega (arith, h.fits);
      are = ap (take (suc (length bytes))) (drop-cons file at 0 some) ∙ (λ i. is i ∷ take (length bytes) (drop (next i) file))
          ∙ ap (λ xs. b ∷ xs) h.are;
    }

-- a code stands at the offset, and gives a part of the plane
pub record HasCode (file : List ℕ) (at room : ℕ) (part : Part) : Type 0 where
  pub code : Code
  pub is_code : IsCode code
  pub bytes : HasBytes file at (code_bytes code)
  pub part_is : part ≡ part_of at code
  pub in_room : length (code_pixels code) ≤ room

fits_back : (file : List ℕ) (at codes room : ℕ) (part : Part) → code_at file at codes room ≡ Ok part
    → Fits file at codes room (head_of file at (slice_index file at)) part
unfolding code_at
fits_back file at codes room part e =
    let h = head_of file at (slice_index file at) in
    let a = wants_back (nat_lt at (length file)) (fault Truncated at) _ part e in
    let b = wants_back (nat_le h.body (length file)) (fault Truncated at) _ part a.1 in
    let c = wants_back (nat_le h.count room) (fault BadRun at) _ part b.1 in
    let d = wants_back (nat_lt 0 codes) (fault BadRun at) _ part c.1 in
    let f = wants_back (nat_le (h.body + body_length h) (length file)) (fault Truncated at) _ part d.1 in
    let is : record { pixels = body_pixels file h; next = h.body + body_length h } ≡ part = cc in
    record {
      starts = ltb-true at (length file) a.0;
      body = leb-true h.body (length file) b.0;
      in_room = leb-true h.count room c.0;
      more = ltb-true 0 codes d.0;
      whole = leb-true (h.body + body_length h) (length file) f.0;
      pixels = ap (λ p. p.pixels) is;
      next = ap (λ p. p.next) is;
    }

-- the head of a code in the long forms: its first byte, its length in two bytes, and what follows
has_long : (file : List ℕ) (at first : ℕ) (bytes : List ℕ) → AllByRecursion (λ b. b < 256) file → slice_index file at ≡ first
    → HasBytes file (at + 3) bytes
    → HasBytes file at (first ∷ ((256 * slice_index file (at + 1) + slice_index file (at + 2)) / 256)
    ∷ ((256 * slice_index file (at + 1) + slice_index file (at + 2)) % 256) ∷ bytes)
has_long file at first bytes all is h =
    let n = 256 * slice_index file (at + 1) + slice_index file (at + 2) in
    let low : slice_index file (at + 2) ≡ n % 256 = omega (arith, byte_below file (at + 2) all) in
    let high : slice_index file (at + 1) ≡ n / 256 = omega (arith, byte_below file (at + 2) all) in
    let two : at + 1 + 1 ≡ at + 2 = omega arith in
    let three : at + 3 ≡ at + 1 + 1 + 1 = omega arith in
    has_byte file at first _ (omega (arith, h.fits)) is
    (has_byte file (at + 1) (n / 256) _ (omega (arith, h.fits)) high
    (has_byte file (at + 1 + 1) (n % 256) _ (omega (arith, h.fits)) (ap (slice_index file) two ∙ low)
    (subst (λ place. HasBytes file place bytes) three h)))

long_below : (file : List ℕ) (at : ℕ) → AllByRecursion (λ b. b < 256) file
    → 256 * slice_index file (at + 1) + slice_index file (at + 2) ≤ MAX_LONG
long_below file at all = omega (arith, byte_below file (at + 1) all, byte_below file (at + 2) all)

module _ (file : List ℕ) (at codes room : ℕ) (part : Part) (all : AllByRecursion (λ b. b < 256) file) where
  short_run_has : slice_index file at < 127
      → Fits file at codes room (record { is_run = true; count = slice_index file at + 1; body = at + 1 }) part
      → HasCode file at room part
  short_run_has short f =
      let n = slice_index file at + 1 in
      let v = slice_index file (at + 1) in
      let next : part.next ≡ at + 2 = omega (arith, f.next) in
      let first : slice_index file at ≡ n - 1 = omega arith in
      record {
        code = short_run n v;
        is_code = (omega arith, omega (arith, short), byte_below file (at + 1) all);
        bytes = has_byte file at (n - 1) (v ∷ []) f.starts first
            (has_byte file (at + 1) v [] (omega (arith, f.whole)) refl (record { fits = omega (arith, f.whole); are = refl }));
        part_is = λ i. record { pixels = sym f.pixels i; next = next i };
        in_room = omega (arith, f.in_room, length-replicate n v);
      }

  long_run_has : slice_index file at ≡ 127
      → Fits file at codes room (record {
        is_run = true;
        count = 256 * slice_index file (at + 1) + slice_index file (at + 2);
        body =
            at + 3;
      }) part → HasCode file at room part
  long_run_has is f =
      let n = 256 * slice_index file (at + 1) + slice_index file (at + 2) in
      let v = slice_index file (at + 3) in
      let next : part.next ≡ at + 4 = omega (arith, f.next) in
      record {
        code = long_run n v;
        is_code = (long_below file at all, byte_below file (at + 3) all);
        bytes = has_long file at 127 (v ∷ []) all is
            (has_byte file (at + 3) v [] (omega (arith, f.whole)) refl (record { fits = omega (arith, f.whole); are = refl }));
        part_is = λ i. record { pixels = sym f.pixels i; next = next i };
        in_room = omega (arith, f.in_room, length-replicate n v);
      }

  long_literal_has : slice_index file at ≡ 128
      → Fits file at codes room (record {
        is_run = false;
        count = 256 * slice_index file (at + 1) + slice_index file (at + 2);
        body = at + 3;
      }) part → HasCode file at room part
  long_literal_has is f =
      let n = 256 * slice_index file (at + 1) + slice_index file (at + 2) in
      let bytes = bytes_at file (at + 3) n in
      let size : length bytes ≡ n = length-bytes_at file (at + 3) n f.whole in
      let next : part.next ≡ at + length (code_bytes (long_literal bytes)) = omega (arith, f.next, size) in
      record {
        code = long_literal bytes;
        is_code = (omega (arith, size, long_below file at all), bytes_below file (at + 3) n all);
        bytes = subst (λ k. HasBytes file at (128 ∷ (k / 256) ∷ (k % 256) ∷ bytes)) (sym size)
            (has_long file at 128 bytes all is (has_bytes file (at + 3) n f.whole));
        part_is = λ i. record { pixels = sym f.pixels i; next = next i };
        in_room = omega (arith, f.in_room, size);
      }

  short_literal_has : 128 < slice_index file at
      → Fits file at codes room (record { is_run = false; count = 256 - slice_index file at; body = at + 1 }) part
      → HasCode file at room part
  short_literal_has high f =
      let n = 256 - slice_index file at in
      let bytes = bytes_at file (at + 1) n in
      let size : length bytes ≡ n = length-bytes_at file (at + 1) n f.whole in
      let below = byte_below file at all in
      let first : slice_index file at ≡ 256 - length bytes = omega (arith, size, below) in
      let next : part.next ≡ at + length (code_bytes (short_literal bytes)) = omega (arith, f.next, size) in
      record {
        code = short_literal bytes;
        is_code = (omega (arith, size, below), omega (arith, size, high), bytes_below file (at + 1) n all);
        bytes = has_byte file at (256 - length bytes) bytes f.starts first (has_bytes file (at + 1) n f.whole);
        part_is = λ i. record { pixels = sym f.pixels i; next = next i };
        in_room = omega (arith, f.in_room, size);
      }

  abbrev first : ℕ
  first = slice_index file at

  abbrev long : ℕ
  long = 256 * slice_index file (at + 1) + slice_index file (at + 2)

  abbrev FitsHead : Head → Type 0
  FitsHead h = Fits file at codes room h part

  abbrev of_short_literal : Head
  of_short_literal = record { is_run = false; count = 256 - first; body = at + 1 }

  abbrev of_literal : Head
  of_literal = cond (nat_eq first 128) (record { is_run = false; count = long; body = at + 3 }) of_short_literal

  abbrev of_long : Head
  of_long = cond (nat_eq first 127) (record { is_run = true; count = long; body = at + 3 }) of_literal

  literal_has : (b : Bool) → nat_eq first 128 ≡ b → 127 < first → FitsHead of_literal → HasCode file at room part
  literal_has true t high f = long_literal_has (eqb-true first 128 t) (subst FitsHead (chosen_true (nat_eq first 128) _ _ t) f)
  literal_has false t high f =
      short_literal_has (omega (arith, high, eqb-false first 128 t)) (subst FitsHead (chosen_false (nat_eq first 128) _ _ t) f)

  long_has : (b : Bool) → nat_eq first 127 ≡ b → 127 ≤ first → FitsHead of_long → HasCode file at room part
  long_has true t high f = long_run_has (eqb-true first 127 t) (subst FitsHead (chosen_true (nat_eq first 127) _ _ t) f)
  long_has false t high f = literal_has (nat_eq first 128) refl (omega (arith, high, eqb-false first 127 t))
      (subst FitsHead (chosen_false (nat_eq first 127) _ _ t) f)

  any_has : (b : Bool) → nat_lt first 127 ≡ b → FitsHead (head_of file at first) → HasCode file at room part
  any_has true t f = short_run_has (ltb-true first 127 t) (subst FitsHead (chosen_true (nat_lt first 127) _ _ t) f)
  any_has false t f =
      long_has (nat_eq first 127) refl (ltb-false first 127 t) (subst FitsHead (chosen_false (nat_lt first 127) _ _ t) f)

  pub code_has : code_at file at codes room ≡ Ok part → HasCode file at room part
  code_has e = any_has (nat_lt first 127) refl (fits_back file at codes room part e)

-- codes stand from the offset on, and give a part of the plane
pub record HasCodes (budget : ℕ) (file : List ℕ) (at room : ℕ) (part : Part) : Type 0 where
  pub codes : List Code
  pub few : length codes ≤ budget
  pub each : AllByRecursion IsCode codes
  pub ends : 0 < room → EndsWithBytes codes
  pub nothing : room ≡ 0 → codes ≡ []
  pub bytes : at ≤ length file → HasBytes file at (flat_map code_bytes codes)
  pub pixels : part.pixels ≡ flat_map code_pixels codes
  pub next : part.next ≡ at + length (flat_map code_bytes codes)
  pub full : length part.pixels ≡ room

-- a full plane takes no more codes
no_codes : (budget : ℕ) (file : List ℕ) (at : ℕ) (part : Part) → record { pixels = []; next = at } ≡ part
    → HasCodes budget file at 0 part
no_codes budget file at part is = record {
  codes = [];
  few = omega arith;
  each = tt;
  ends = λ some. absurd (omega (arith, some));
  nothing = λ e. refl;
  bytes = λ within. record { fits = omega (arith, within); are = refl };
  pixels = ap (λ p. p.pixels) (sym is);
  next = omega (arith, ap (λ p. p.next) is);
  full = ap (λ p. length p.pixels) (sym is);
}

-- the last of the codes gives a byte
last_gives : (c : Code) (codes : List Code) (room : ℕ) → 0 < length (code_pixels c) + room → (0 < room → EndsWithBytes codes)
    → (room ≡ 0 → codes ≡ [])
    → room ≡ length (flat_map code_pixels codes) → EndsWithBytes (c ∷ codes)
last_gives c [] room some ends nothing is = omega (arith, some, is)
last_gives c (d ∷ codes) zero some ends nothing is = let e : d ∷ codes ≡ [] = nothing refl in cc
last_gives c (d ∷ codes) (suc room) some ends nothing is = ends (omega arith)

codes_has : (budget : ℕ) (file : List ℕ) (at room : ℕ) (part : Part) → AllByRecursion (λ b. b < 256) file
    → codes_at budget file at room ≡ Ok part → HasCodes budget file at room part
unfolding codes_at
codes_has zero file at zero part all e = no_codes zero file at part cc
codes_has zero file at (suc room) part all e =
    let more : 0 < 0 = (fits_back file at 0 (suc room) part e).more in absurd (omega (arith, more))
codes_has (suc budget) file at zero part all e = no_codes (suc budget) file at part cc
codes_has (suc budget) file at (suc room) part all e =
    let a = bind_back (code_at file at (suc budget) (suc room)) _ part e in
    let b = bind_back (codes_at budget file a.0.next (suc room - length a.0.pixels)) _ part a.2 in
    let c = code_has file at (suc budget) (suc room) a.0 all a.1 in
    let more = codes_has budget file a.0.next (suc room - length a.0.pixels) b.0 all b.1 in
    let is : record { pixels = a.0.pixels ++ b.0.pixels; next = b.0.next } ≡ part = cc in
    let given : a.0.pixels ≡ code_pixels c.code = ap (λ p. p.pixels) c.part_is in
    let after : a.0.next ≡ at + length (code_bytes c.code) = ap (λ p. p.next) c.part_is in
    let size : length a.0.pixels ≡ length (code_pixels c.code) = ap length given in
    let both : flat_map code_bytes (c.code ∷ more.codes) ≡ code_bytes c.code ++ flat_map code_bytes more.codes = refl in
    record {
      codes = c.code ∷ more.codes;
      few = omega (arith, more.few);
      each = (c.is_code, more.each);
      ends = λ some. last_gives c.code more.codes (suc room - length a.0.pixels) (omega (arith, size)) more.ends more.nothing
          (sym more.full ∙ ap length more.pixels);
      nothing = λ e. absurd (omega (arith, e));
      bytes = λ within. has_both file at (code_bytes c.code) (flat_map code_bytes more.codes) c.bytes
          (subst (λ place. HasBytes file place (flat_map code_bytes more.codes)) after
          (more.bytes (omega (arith, after, c.bytes.fits))));
      pixels = ap (λ p. p.pixels) (sym is) ∙ (λ i. given i ++ more.pixels i);
      next =
          omega (arith, ap (λ p. p.next) is, more.next, after, length-append (code_bytes c.code) (flat_map code_bytes more.codes));
      full = omega (arith, ap (λ p. length p.pixels) is, length-append a.0.pixels b.0.pixels, more.full, size, c.in_room);
    }

-- a plane of some bytes begins with a code
begins_within : (budget : ℕ) (file : List ℕ) (at room : ℕ) (part : Part) → AllByRecursion (λ b. b < 256) file → 0 < room
    → codes_at budget file at room ≡ Ok part → at ≤ length file
unfolding codes_at
begins_within budget file at zero part all some e = absurd (omega (arith, some))
begins_within zero file at (suc room) part all some e = omega (arith, (fits_back file at 0 (suc room) part e).starts)
begins_within (suc budget) file at (suc room) part all some e =
    let a = bind_back (code_at file at (suc budget) (suc room)) _ part e in
    omega (arith, (fits_back file at (suc budget) (suc room) a.0 a.1).starts)

pub spelled_has : (file : List ℕ) (at n : ℕ) (part : Part) → AllByRecursion (λ b. b < 256) file → 0 < n
    → plane_at file at n ≡ Ok part → IsSpelledAt file at n part
spelled_has file at n part all some e =
    let h = codes_has 8192 file at n part all e in
    record {
      bytes = flat_map code_bytes h.codes;
      spells = (h.codes, record { few = h.few; each = h.each; ends = h.ends some; spelled = refl; given = h.pixels });
      full = h.full;
      has = h.bytes (begins_within 8192 file at n part all some e);
      next = h.next;
    }

-- it is read where it stands
pub spelled_read : (file : List ℕ) (at n : ℕ) (part : Part) → IsSpelledAt file at n part → plane_at file at n ≡ Ok part
spelled_read file at n part h =
    ap (plane_at file at) (sym h.full)
    ∙ (spelled_is file at h.bytes part.pixels h.spells h.has ∙ (λ i. Ok (record { pixels = part.pixels; next = sym h.next i })))

code_pixels_below : (c : Code) → IsCode c → AllByRecursion (λ b. b < 256) (code_pixels c)
code_pixels_below (short_run n v) p = all_replicate (λ b. b < 256) n v p.2
code_pixels_below (long_run n v) p = all_replicate (λ b. b < 256) n v p.1
code_pixels_below (long_literal bytes) p = p.1
code_pixels_below (short_literal bytes) p = p.2

codes_below : (codes : List Code) → AllByRecursion IsCode codes → AllByRecursion (λ b. b < 256) (flat_map code_pixels codes)
codes_below [] p = tt
codes_below (c ∷ codes) p =
    all_append (λ b. b < 256) (code_pixels c) (flat_map code_pixels codes) (code_pixels_below c p.0) (codes_below codes p.1)

-- what is spelled is bytes
pub spelled_below : (bytes plane : List ℕ) → Spells bytes plane → AllByRecursion (λ b. b < 256) plane
spelled_below bytes plane (codes, s) = subst (AllByRecursion (λ b. b < 256)) (sym s.given) (codes_below codes s.each)
