-- What is found under a name among the files of a shelf in memory.
use Rattle.std.proofs.Common.{◌≡◌, zero, suc, ℕ, ◌<◌, List, [], ◌∷◌, ◌++◌, length, take, drop, Bool, true, false, refl}
use Rattle.std.proofs.Common.{sym, ◌∙◌, ap, arith}
use Rattle.std.specs.Prelude.{if◌then◌else◌, slice_index_or, remove}
use Rattle.std.specs.Str.{bytes_eq}
use Rattle.std.proofs.lemmas.Slice.Eq.{bytes_eq-Decides}
use Rattle.xl_fakes.specs.Kept.{Standing, found, is_known}

-- two names that differ
pub not_named : (a b : List ℕ) → (a ≡ b → ⊥) → bytes_eq a b ≡ false
not_named a b differ = by_case (bytes_eq a b) refl
  where
    by_case : (r : Bool) → bytes_eq a b ≡ r → bytes_eq a b ≡ false
    by_case true is = absurd (differ ((bytes_eq-Decides a b).0 is))
    by_case false is = is

pub named : (a b : List ℕ) → a ≡ b → bytes_eq a b ≡ true
named a b same = (bytes_eq-Decides a b).1 same

-- without a file of another name
found-remove : (files : List Standing) (i : ℕ) (other : List ℕ) → i < length files
    → ((d : Standing) → bytes_eq (slice_index_or files i d).name other ≡ false)
    → found (take i files ++ drop (suc i) files) other ≡ found files other
found-remove [] i other within not = absurd (omega arith)
found-remove (f ∷ fs) zero other within not = sym (ap (λ (r : Bool). if r then f else found fs other) (not f))
found-remove (f ∷ fs) (suc i) other within not =
    ap (λ (s : Standing). if bytes_eq f.name other then f else s) (found-remove fs i other (omega arith) (λ d. not d))

-- the names that are known without it
known-remove : (files : List Standing) (i : ℕ) (other : List ℕ) → i < length files
    → ((d : Standing) → bytes_eq (slice_index_or files i d).name other ≡ false)
    → is_known (take i files ++ drop (suc i) files) other ≡ is_known files other
known-remove [] i other within not = absurd (omega arith)
known-remove (f ∷ fs) zero other within not = sym (ap (λ (r : Bool). if r then true else is_known fs other) (not f))
known-remove (f ∷ fs) (suc i) other within not =
    ap (λ (k : Bool). if bytes_eq f.name other then true else k) (known-remove fs i other (omega arith) (λ d. not d))

pub known_others : (files left : List Standing) (i : ℕ) (name other : List ℕ) → left ≡ remove files i → i < length files
    → ((d : Standing) → (slice_index_or files i d).name ≡ name) → (other ≡ name → ⊥) → is_known left other ≡ is_known files other
known_others files left i name other is within named differ =
    ap (λ (l : List Standing). is_known l other) is
    ∙ known-remove files i other within (λ d. not_named _ other (λ e. differ (sym e ∙ named d)))

pub found_others : (files left : List Standing) (i : ℕ) (name other : List ℕ) → left ≡ remove files i → i < length files
    → ((d : Standing) → (slice_index_or files i d).name ≡ name) → (other ≡ name → ⊥) → found left other ≡ found files other
found_others files left i name other is within named differ =
    ap (λ (l : List Standing). found l other) is
    ∙ found-remove files i other within (λ d. not_named _ other (λ e. differ (sym e ∙ named d)))
