-- A head that was read stands in the file.
use Rattle.std.proofs.Common.{◌≡◌, ◌≢◌, ℕ, ◌+◌, ◌-◌, ◌^◌, ◌<◌, ◌≤◌, Bool, true, false, cond, ◌&&◌, not, List, length}
use Rattle.std.proofs.Common.{take, drop, nat_lt, refl, sym, ◌∙◌, ap, subst, arith}
use Rattle.std.specs.Prelude.{Ok, Some, None, nat_le, ◌==◌}
use Rattle.std.specs.Cmp.Lexicographic.{same_text}
use Rattle.std.proofs.lemmas.Bool.{leb-true, ltb-true, eqb-true, eq-eqb}
use Rattle.std.proofs.lemmas.List.{take_all, length-take}
use Rattle.spec_document.specs.declared.Base.{Base}
use Rattle.spec_document.specs.declared.Base.TheVariants.{Rgb, Grey, Indexed}
use Rattle.spec_document.specs.Document.{base_code, is_indexed}
use Rattle.spec_document.specs.Limits.{IsSide}
use Rattle.spec_fields.specs.declared.Kind.TheVariants.{NotXcf, Version, Truncated, BadSize, BaseType, OldColourMap, TooLarge}
use Rattle.spec_fields.specs.Reading.{fault}
use Rattle.spec_fields.specs.Field.{bytes_at, HasWord, HasBytes}
use Rattle.spec_fields.proofs.Back.{bind_back, wants_back}
use Rattle.spec_fields.proofs.FieldsBack.{word_first, given_back}
use Rattle.spec_file.specs.Header.{magic, begins, version_of, base_of, is_side, Header, side_at, header_of}
use Rattle.spec_file.specs.Holds.{HasHeader}
use Rattle.spec_document.specs.declared.TheConstants.{MAX_SIDE}

pub both_hold : (a b : Bool) → (a && b) ≡ true → (a ≡ true) × (b ≡ true)
both_hold true true e = (refl, refl)
both_hold true false e = cc
both_hold false b e = cc

pub side_back : (n : ℕ) → is_side n ≡ true → IsSide n
side_back n e =
    let both = both_hold (nat_le 1 n) (nat_le n MAX_SIDE) e in (leb-true 1 n both.0, leb-true n MAX_SIDE both.1)

side_has : (file : List ℕ) (at n : ℕ) → side_at file at ≡ Ok n → HasWord file at n × IsSide n
unfolding side_at
side_has file at n e =
    let a = word_first file at _ n e in
    let b = wants_back (is_side a.0) (fault BadSize at) _ n a.2 in
    let is : a.0 ≡ n = cc in
    subst (λ m. HasWord file at m × IsSide m) is (a.1, side_back a.0 b.0)

base_back : (code : ℕ) (b : Base) → base_of code ≡ Some b → code ≡ base_code b
base_back code b e = by_0 (code == 0) refl e
  where
    by_2 : (t : Bool) → (code == 2) ≡ t → cond t (Some Indexed) None ≡ Some b → code ≡ base_code b
    by_2 true t e = let is : Indexed ≡ b = cc in eqb-true code 2 t ∙ ap base_code is
    by_2 false t e = cc

    by_1 : (t : Bool) → (code == 1) ≡ t → cond t (Some Grey) (cond (code == 2) (Some Indexed) None) ≡ Some b → code ≡ base_code b
    by_1 true t e = let is : Grey ≡ b = cc in eqb-true code 1 t ∙ ap base_code is
    by_1 false t e = by_2 (code == 2) refl e

    by_0 : (t : Bool) → (code == 0) ≡ t
        → cond t (Some Rgb) (cond (code == 1) (Some Grey) (cond (code == 2) (Some Indexed) None)) ≡ Some b → code ≡ base_code b
    by_0 true t e = let is : Rgb ≡ b = cc in eqb-true code 0 t ∙ ap base_code is
    by_0 false t e = by_1 (code == 1) refl e

not_zero : (indexed : Bool) (version : ℕ) → not (indexed && version == 0) ≡ true → indexed ≡ true → version ≢ 0
not_zero true version e i z = let f : (version == 0) ≡ true = eq-eqb version 0 z in cc
not_zero false version e i z = cc

-- the bytes that a file begins with
begins_back : (file : List ℕ) (at : ℕ) (bytes : List ℕ) → at + length bytes ≤ length file → begins file at bytes ≡ true
    → HasBytes file at bytes
begins_back file at bytes fits e =
    let found = bytes_at file at (length bytes) in
    let short : length found ≤ length bytes = omega (arith, length-take (length bytes) (drop at file)) in
    let whole : take (length bytes) found ≡ found = take_all (length bytes) found short in
    record { fits = fits; are = sym (same_text bytes (take (length bytes) found) (sym e) ∙ whole) }

-- the file is short, and has the head
pub record HasHead (file : List ℕ) (h : Header) : Type 0 where
  pub short : length file < 2 ^ 31
  pub header : HasHeader file h

pub header_has : (file : List ℕ) (h : Header) → header_of file ≡ Ok h → HasHead file h
unfolding header_of
header_has file h e =
    let a = wants_back (nat_lt (length file) (2 ^ 31)) (fault TooLarge (2 ^ 31 - 1)) _ h e in
    let b = wants_back (begins file 0 magic) (fault NotXcf 0) _ h a.1 in
    let c = wants_back (nat_le 14 (length file)) (fault Truncated 9) _ h b.1 in
    let d = given_back (version_of file) (fault Version 9) _ h c.1 in
    let w = bind_back (side_at file 14) _ h d.2 in
    let v = bind_back (side_at file 18) _ h w.2 in
    let k = word_first file 22 _ h v.2 in
    let f = given_back (base_of k.0) (fault BaseType 22) _ h k.2 in
    let g = wants_back (not (is_indexed f.0 && d.0 == 0)) (fault OldColourMap 22) _ h f.2 in
    let width = side_has file 14 w.0 w.1 in
    let height = side_has file 18 v.0 v.1 in
    let long = leb-true 14 (length file) c.0 in
    let is : record { width = w.0; height = v.0; base = f.0 } ≡ h = cc in
    record {
      short = ltb-true (length file) (2 ^ 31) a.0;
      header = subst (HasHeader file) is (record {
        magic = begins_back file 0 magic (omega (arith, long)) b.0;
        version = d.0;
        has_version = d.1;
        width = width.0;
        width_is = width.1;
        height = height.0;
        height_is = height.1;
        base = subst (λ n. HasWord file 22 n) (base_back k.0 f.0 f.1) k.1;
        old_colours = not_zero (is_indexed f.0) d.0 g.0;
      });
    }
