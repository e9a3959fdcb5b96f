-- How many bytes the payloads have that are written.
use Rattle.std.proofs.Common.{◌≡◌, ℕ, ◌+◌, ◌*◌, List, [], ◌∷◌, ◌++◌, length, Result, refl, sym, subst, ap, ◌∙◌, arith}
use Rattle.std.proofs.Common.{length-append, append_assoc, append-nil}
use Rattle.std.specs.Prelude.{OnOk}
use Rattle.std.specs.List.{AllByRecursion}
use Rattle.std.proofs.lemmas.Grind.{flat_map-append}
use Rattle.spec_document.specs.Document.{Kept}
use Rattle.spec_document.specs.Limits.{IsColour}
use Rattle.spec_fields.specs.Put.{word}
use Rattle.spec_props.specs.Layout.{path_bytes as words, all_colours, colour_bytes, property as raw, property_bytes, list_bytes}

pub length_word : (n : ℕ) → length (word n) ≡ 4
length_word n = refl

pub length_words : (ns : List ℕ) → length (words ns) ≡ 4 * length ns
length_words [] = refl
length_words (n ∷ ns) = omega (arith, length_words ns, length-append (word n) (words ns), length_word n)

length_all : (colours : List (List ℕ)) → AllByRecursion IsColour colours → length (all_colours colours) ≡ 3 * length colours
length_all [] h = refl
length_all (colour ∷ colours) h = omega (arith, length_all colours h.1, length-append colour (all_colours colours), h.0.0)

pub length_colours : (colours : List (List ℕ)) → AllByRecursion IsColour colours
    → length (colour_bytes colours) ≡ 4 + 3 * length colours
length_colours colours h =
    omega (arith, length_all colours h, length-append (word (length colours)) (all_colours colours), length_word (length colours))

-- a payload behind its head
pub headed : (out before payload : List ℕ) (kind len : ℕ) → before ≡ out ++ (word kind ++ word len) → len ≡ length payload
    → before ++ payload ≡ out ++ property_bytes (raw kind payload)
headed out before payload kind len e same =
    ap (λ xs. xs ++ payload) (e ∙ ap (λ n. out ++ (word kind ++ word n)) same)
    ∙ (append_assoc out (word kind ++ word (length payload)) payload
    ∙ ap (λ xs. out ++ xs) (append_assoc (word kind) (word (length payload)) payload))

-- the same where the payload was written in two parts
pub headed_parts : (out before more a b : List ℕ) (kind len : ℕ) → before ≡ out ++ (word kind ++ word len) → more ≡ before ++ a
    → len ≡ length (a ++ b)
    → more ++ b ≡ out ++ property_bytes (raw kind (a ++ b))
headed_parts out before more a b kind len e f same =
    ap (λ xs. xs ++ b) f ∙ (append_assoc before a b ∙ headed out before (a ++ b) kind len e same)

pub onto : {A E : Type 0} (r : Result A E) (new a b : List ℕ) → a ≡ b → OnOk r (new ≡ a) → OnOk r (new ≡ b)
onto r new a b e h = subst (λ (xs : List ℕ). OnOk r (new ≡ xs)) e h

-- properties behind others
pub joined : (out mid new : List ℕ) (a b : List Kept) → mid ≡ out ++ list_bytes a → new ≡ mid ++ list_bytes b
    → new ≡ out ++ list_bytes (a ++ b)
joined out mid new a b first second =
    second ∙ (ap (λ xs. xs ++ list_bytes b) first
    ∙ (append_assoc out (list_bytes a) (list_bytes b) ∙ ap (λ xs. out ++ xs) (sym (flat_map-append property_bytes a b))))

pub ended : (mid new : List ℕ) (k : Kept) → new ≡ mid ++ property_bytes k → new ≡ mid ++ list_bytes (k ∷ [])
ended mid new k is = is ∙ ap (λ xs. mid ++ xs) (sym (append-nil (property_bytes k)))
