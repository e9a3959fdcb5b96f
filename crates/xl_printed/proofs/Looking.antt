-- Looking up the tables of phrases and of causes.
use Rattle.std.proofs.Common.{◌≡◌, ℕ, suc, ◌+◌, ◌<◌, ◌≤◌, false, List, [], ◌∷◌, length, map, drop, slice_index_or}
use Rattle.std.proofs.Common.{refl, ap, sym, ◌∙◌, arith, Bor, ◌==◌, subst}
use Rattle.std.specs.Prelude.{Some, None, Option}
use Rattle.std.proofs.lemmas.List.{drop_all}
use Rattle.std.proofs.Math.Seq.{drop-cons}
use Rattle.std.proofs.lemmas.Bool.{ne_eqb}
use Rattle.spec_audit.specs.Output.{Printed}
use Rattle.spec_audit.specs.Reading as reading
use Rattle.spec_audit.specs.Reading.{strip, by_rest, read_by, phrases, read_cause, causes, CauseRest}
use Rattle.xl_printed.specs.declared.replies.Phrase.{Phrase}
use Rattle.xl_printed.specs.declared.causes.Code.{Code}
use Rattle.xl_printed.specs.Phrases.{rest_of}
use Rattle.xl_printed.specs.Causes.{cause_of, cause_if_any}

pub strip_short : (front rest : List ℕ) (i : ℕ) → i < length front → length rest < 1 → strip (drop i front) rest ≡ None
strip_short front [] i lt short = ap (λ (f : List ℕ). strip f []) (drop-cons front i 0 lt)
strip_short front (b ∷ rest) i lt short = absurd (omega (arith, short))

-- ---- phrases

abbrev pub PhraseEntry : Type 0
PhraseEntry = Bor (List ℕ) × Phrase

abbrev pub phrase_of : PhraseEntry → reading.Phrase
phrase_of e = record { words = e.0.now; rest = rest_of e.1 }

abbrev read_from : (entries : List PhraseEntry) (place : ℕ) (text : List ℕ) → Option Printed
read_from entries place text = read_by (map phrase_of (drop place entries)) text

-- the entries are the phrases, and the text begins with none of those before the place
pub record IsPhraseLeft (entries : List PhraseEntry) (place : ℕ) (text : List ℕ) : Type 0 where
  pub whole : map phrase_of entries ≡ phrases
  pub same : read_from entries place text ≡ read_by phrases text

phrase_at : (entries : List PhraseEntry) (place : ℕ) (text : List ℕ) (d : PhraseEntry) → place < length entries
    → read_from entries place text ≡ read_by (phrase_of (slice_index_or entries place d) ∷ map phrase_of (drop (suc place) entries)) text
phrase_at entries place text d h =
    let P : List PhraseEntry → Option Printed = λ es. read_by (map phrase_of es) text in ap P (drop-cons entries place d h)

pub phrase_found : (entries : List PhraseEntry) (place : ℕ) (text rest : List ℕ) (d : PhraseEntry) → IsPhraseLeft entries place text
    → place < length entries → strip (slice_index_or entries place d).0.now text ≡ Some rest
    → rest_of (slice_index_or entries place d).1 rest ≡ read_by phrases text
phrase_found entries place text rest d left h e =
    let x = slice_index_or entries place d in
    let others = read_from entries (suc place) text in
    sym (phrase_at entries place text d h ∙ ap (λ (o : Option (List ℕ)). by_rest (rest_of x.1) o others) e) ∙ left.same

pub phrase_goes_on : (entries : List PhraseEntry) (place : ℕ) (text : List ℕ) (d : PhraseEntry) → IsPhraseLeft entries place text
    → place < length entries → strip (slice_index_or entries place d).0.now text ≡ None → IsPhraseLeft entries (place + 1) text
phrase_goes_on entries place text d left h e =
    let more : suc place ≡ place + 1 = omega arith in
    let x = slice_index_or entries place d in
    let others = read_from entries (suc place) text in
    let step : read_from entries place text ≡ others =
    phrase_at entries place text d h ∙ ap (λ (o : Option (List ℕ)). by_rest (rest_of x.1) o others) e in
    record { whole = left.whole; same = subst (λ (n : ℕ). read_from entries n text ≡ read_by phrases text) more (sym step ∙ left.same) }

pub phrase_nowhere : (entries : List PhraseEntry) (place : ℕ) (text : List ℕ) → IsPhraseLeft entries place text → length entries ≤ place
    → None ≡ read_by phrases text
phrase_nowhere entries place text left h =
    let P : List PhraseEntry → Option Printed = λ es. read_by (map phrase_of es) text in sym (ap P (drop_all place entries h)) ∙ left.same

-- ---- causes

abbrev pub CodeEntry : Type 0
CodeEntry = ℕ × Code

abbrev pub entry_cause : CodeEntry → reading.Cause
entry_cause e = record { code = e.0; rest = cause_of e.1 }

abbrev cause_from : (entries : List CodeEntry) (place code : ℕ) → CauseRest
cause_from entries place code words = read_cause (map entry_cause (drop place entries)) code words

pub record IsCauseLeft (entries : List CodeEntry) (place code : ℕ) : Type 0 where
  pub whole : map entry_cause entries ≡ causes
  pub same : (words : List (List ℕ)) → cause_from entries place code words ≡ read_cause causes code words

cause_at : (entries : List CodeEntry) (place code : ℕ) (words : List (List ℕ)) (d : CodeEntry) → place < length entries
    → cause_from entries place code words
    ≡ read_cause (entry_cause (slice_index_or entries place d) ∷ map entry_cause (drop (suc place) entries)) code words
cause_at entries place code words d h = ap (λ (es : List CodeEntry). read_cause (map entry_cause es) code words) (drop-cons entries place d h)

pub cause_goes_on : (entries : List CodeEntry) (place code : ℕ) (d : CodeEntry) → IsCauseLeft entries place code → place < length entries
    → (code ≡ (slice_index_or entries place d).0 → ⊥) → IsCauseLeft entries (place + 1) code
cause_goes_on entries place code d left h e =
    let more : suc place ≡ place + 1 = omega arith in
    let x = slice_index_or entries place d in
    let is : (code == x.0) ≡ false = ne_eqb code x.0 e in
    record {
      whole = left.whole;
      same = λ words. subst (λ (n : ℕ). cause_from entries n code words ≡ read_cause causes code words) more
          (sym (cause_at entries place code words d h ∙ rw is refl) ∙ left.same words);
    }

pub cause_nowhere : (entries : List CodeEntry) (place code : ℕ) → IsCauseLeft entries place code → length entries ≤ place
    → (words : List (List ℕ)) → cause_if_any None words ≡ read_cause causes code words
cause_nowhere entries place code left h words =
    sym (ap (λ (es : List CodeEntry). read_cause (map entry_cause es) code words) (drop_all place entries h)) ∙ left.same words
