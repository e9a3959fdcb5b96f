-- What the payload of a value that was written says.
use Rattle.std.proofs.Common.{rules, ◌≡◌, ℕ, zero, suc, ◌+◌, ◌*◌, ◌/◌, ◌^◌, ◌<◌, ◌≤◌, Bool, true, false, List, [], ◌∷◌}
use Rattle.std.proofs.Common.{◌++◌, length, take, drop, map, get_or, refl, sym, ap, ◌∙◌, arith}
use Rattle.std.specs.Prelude.{Some, unwrap_or, ℤ, pos, negsuc, ◌≤ℤ◌}
use Rattle.std.specs.List.{AllByRecursion}
use Rattle.std.specs.Int.{w32, from_be_bytes, cast_signed, cast_unsigned}
use Rattle.std.specs.Prelude.{FitsSigned}
use Rattle.std.proofs.lemmas.Nat.{from_be_bytes-to_be_bytes_4}
use Rattle.std.proofs.lemmas.Int.{to_z-of_z, ints}
use Rattle.std.proofs.Math.Seq.{drop-append-add, take-append_seam}
use Rattle.spec_document.specs.declared.Mode.{Mode}
use Rattle.spec_document.specs.declared.Mode.TheVariants.{Normal, Multiply, Screen, Overlay, Difference, Addition}
use Rattle.spec_document.specs.declared.Mode.TheVariants.{Subtract, DarkenOnly, LightenOnly, Divide, Dodge, Burn}
use Rattle.spec_document.specs.declared.Mode.TheVariants.{HardLight, SoftLight, GrainExtract, GrainMerge}
use Rattle.spec_document.specs.Blend.{mode_code, mode_of_code}
use Rattle.spec_document.specs.Rect.{count_from}
use Rattle.spec_document.specs.declared.TheConstants.{MAX_OFFSET}
use Rattle.spec_document.specs.Limits.{IsColour, IsOffset}
use Rattle.spec_fields.specs.Field.{word_value}
use Rattle.spec_props.specs.Meaning.{payload_word, is_set, colour_number, colours_in, path_words}
use Rattle.xl_props.specs.Known.{AreOffsets}
use Rattle.xl_props.specs.Props.{property, opacity_in, mode_in, offsets_in}
use Rattle.spec_fields.specs.Put.{word}
use Rattle.spec_props.specs.Layout.{path_bytes as words, all_colours, colour_bytes}
use Rattle.xl_props.specs.Written.{flag_word, mode_word, offset_words}
use Rattle.xl_props.proofs.Lengths.{length_word, length_words}

-- the word in front
pub word_front : (n : ℕ) (rest : List ℕ) → n < 2 ^ 32 → word_value (word n ++ rest) 0 ≡ n
word_front n rest h = from_be_bytes-to_be_bytes_4 n h

-- a word behind the one in front
pub word_behind : (n : ℕ) (rest : List ℕ) (at : ℕ) → word_value (word n ++ rest) (4 + at) ≡ word_value rest at
word_behind n rest at =
    let e : 4 + at ≡ length (word n) + at = omega (arith, length_word n) in
    ap (λ xs. from_be_bytes w32 (take 4 xs)) (ap (λ k. drop k (word n ++ rest)) e ∙ drop-append-add (word n) rest at)

pub one_word : (n : ℕ) → n < 2 ^ 32 → word_value (word n) 0 ≡ n
one_word n h = from_be_bytes-to_be_bytes_4 n h

pub opacity_back : (kind n : ℕ) → n ≤ 255 → opacity_in (property 0 kind (word n)) ≡ n
opacity_back kind n h = omega (arith, one_word n (omega arith))

mode_back_code : (mode : Mode) → mode_of_code (mode_code mode) ≡ Some mode
mode_back_code Normal = refl
mode_back_code Multiply = refl
mode_back_code Screen = refl
mode_back_code Overlay = refl
mode_back_code Difference = refl
mode_back_code Addition = refl
mode_back_code Subtract = refl
mode_back_code DarkenOnly = refl
mode_back_code LightenOnly = refl
mode_back_code Divide = refl
mode_back_code Dodge = refl
mode_back_code Burn = refl
mode_back_code HardLight = refl
mode_back_code SoftLight = refl
mode_back_code GrainExtract = refl
mode_back_code GrainMerge = refl

small_code : (mode : Mode) → mode_code mode < 2 ^ 32
small_code Normal = omega arith
small_code Multiply = omega arith
small_code Screen = omega arith
small_code Overlay = omega arith
small_code Difference = omega arith
small_code Addition = omega arith
small_code Subtract = omega arith
small_code DarkenOnly = omega arith
small_code LightenOnly = omega arith
small_code Divide = omega arith
small_code Dodge = omega arith
small_code Burn = omega arith
small_code HardLight = omega arith
small_code SoftLight = omega arith
small_code GrainExtract = omega arith
small_code GrainMerge = omega arith

pub code_back : (at kind : ℕ) (mode : Mode) → mode_of_code (payload_word (property at kind (mode_word mode)) 0) ≡ Some mode
code_back at kind mode = ap mode_of_code (one_word (mode_code mode) (small_code mode)) ∙ mode_back_code mode

pub mode_back : (kind : ℕ) (mode : Mode) → mode_in (property 0 kind (mode_word mode)) ≡ mode
mode_back kind mode = ap (λ o. unwrap_or o Normal) (code_back 0 kind mode)

pub flag_back : (kind : ℕ) (flag : Bool) → is_set (property 0 kind (flag_word flag)) ≡ flag
flag_back kind true = refl
flag_back kind false = refl

fits_word : (z : ℤ) → IsOffset z → FitsSigned w32 z
fits_word z h = search rules

offset_back : (z : ℤ) → IsOffset z → cast_signed w32 (cast_unsigned w32 z) ≡ z
offset_back z h = to_z-of_z w32 z (fits_word z h)

word_of_offset : (z : ℤ) → IsOffset z → cast_unsigned w32 z < 2 ^ 32
word_of_offset (pos n) h = let near : pos n ≤ℤ MAX_OFFSET = h.1 in omega (arith, ints, near)
word_of_offset (negsuc n) h = omega arith

pub offsets_back : (at kind : ℕ) (o : ℤ × ℤ) → AreOffsets o → offsets_in (property at kind (offset_words o)) ≡ o
unfolding offset_words
offsets_back at kind o h =
    let x = word_front (cast_unsigned w32 o.0) (word (cast_unsigned w32 o.1)) (word_of_offset o.0 h.0) in
    let y = word_behind (cast_unsigned w32 o.0) (word (cast_unsigned w32 o.1)) 0
    ∙ one_word (cast_unsigned w32 o.1) (word_of_offset o.1 h.1) in
    λ i. ((ap (cast_signed w32) x ∙ offset_back o.0 h.0) i, (ap (cast_signed w32) y ∙ offset_back o.1 h.1) i)

-- the values of the numbers from one on are the items of a list
counted_items : {X : Type 0} (f : ℕ → X) (d : X) (xs : List X) (first : ℕ)
    → ((i : ℕ) → i < length xs → f (first + i) ≡ get_or xs i d) → map f (count_from first (length xs)) ≡ xs
counted_items f d [] first h = refl
counted_items f d (x ∷ xs) first h =
    let here : first + 0 ≡ first = omega arith in
    let head : f first ≡ x = ap f (sym here) ∙ h 0 (omega arith) in
    let tail = counted_items f d xs (suc first) (λ i l. let e : suc first + i ≡ first + suc i = omega arith in
    ap f e ∙ h (suc i) (omega arith)) in
    λ j. head j ∷ tail j

items_counted : {X : Type 0} (f : ℕ → X) (d : X) (xs : List X) (n : ℕ) → n ≡ length xs
    → ((i : ℕ) → i < length xs → f i ≡ get_or xs i d) → map f (count_from 0 n) ≡ xs
items_counted f d xs n e h =
    ap (λ k. map f (count_from 0 k)) e ∙ counted_items f d xs 0 (λ i l. let z : 0 + i ≡ i = omega arith in ap f z ∙ h i l)

word_number : (ns : List ℕ) (i : ℕ) → AllByRecursion (λ n. n < 2 ^ 32) ns → i < length ns
    → word_value (words ns) (4 * i) ≡ get_or ns i 0
word_number [] i h l = absurd (omega arith)
word_number (n ∷ ns) zero h l = word_front n (words ns) h.0
word_number (n ∷ ns) (suc i) h l =
    let e : 4 * suc i ≡ 4 + 4 * i = omega arith in
    ap (word_value (word n ++ words ns)) e ∙ (word_behind n (words ns) (4 * i) ∙ word_number ns i h.1 (omega arith))

pub path_back : (at kind : ℕ) (ns : List ℕ) → AllByRecursion (λ n. n < 2 ^ 32) ns → path_words (property at kind (words ns)) ≡ ns
path_back at kind ns h =
    items_counted (payload_word (property at kind (words ns))) 0 ns (length (words ns) / 4) (omega (arith, length_words ns))
    (λ i l. word_number ns i h l)

nth_colour : (colours : List (List ℕ)) (i : ℕ) → AllByRecursion IsColour colours → i < length colours
    → take 3 (drop (3 * i) (all_colours colours)) ≡ get_or colours i []
nth_colour [] i h l = absurd (omega arith)
nth_colour (colour ∷ colours) zero h l =
    ap (λ n. take n (colour ++ all_colours colours)) (sym h.0.0) ∙ take-append_seam colour (all_colours colours)
nth_colour (colour ∷ colours) (suc i) h l =
    let e : 3 * suc i ≡ length colour + 3 * i = omega (arith, h.0.0) in
    ap (λ n. take 3 (drop n (colour ++ all_colours colours))) e
    ∙ (ap (take 3) (drop-append-add colour (all_colours colours) (3 * i)) ∙ nth_colour colours i h.1 (omega arith))

pub count_back : (at kind : ℕ) (colours : List (List ℕ)) → length colours ≤ 256
    → payload_word (property at kind (colour_bytes colours)) 0 ≡ length colours
count_back at kind colours few = word_front (length colours) (all_colours colours) (omega arith)

pub colours_back : (at kind : ℕ) (colours : List (List ℕ)) → length colours ≤ 256 → AllByRecursion IsColour colours
    → colours_in (property at kind (colour_bytes colours)) ≡ colours
colours_back at kind colours few h =
    let n = length colours in
    items_counted (colour_number (property at kind (colour_bytes colours))) [] colours
    (payload_word (property at kind (colour_bytes colours)) 0) (count_back at kind colours few)
    (λ i l. let e : 4 + 3 * i ≡ length (word n) + 3 * i = omega (arith, length_word n) in
    ap (λ k. take 3 (drop k (word n ++ all_colours colours))) e
    ∙ (ap (take 3) (drop-append-add (word n) (all_colours colours) (3 * i)) ∙ nth_colour colours i h l))
