-- The calls of the sessions, as they are counted.
use Rattle.std.proofs.Common.{◌≡◌, ℕ, zero, suc, ◌+◌, ◌<◌, ◌≤◌, ◌^◌, Bool, true, false, List, [], ◌∷◌, ◌++◌, length, map, drop, refl, ap, sym, ◌∙◌, arith, subst, get_or}
use Rattle.std.specs.Prelude.{Some, None}
use Rattle.std.specs.List.{AllByRecursion}
use Rattle.std.proofs.lemmas.Option.{unwrap_or-slice_get}
use Rattle.spec_document.specs.Rect.{count_from}
use Rattle.spec_script.specs.Script as script
use Rattle.spec_script.specs.declared.TheConstants.{MAX_CALLS}
use Rattle.spec_text.specs.Text.{calls_of}
use Rattle.spec_audit.specs.Output.{Output, calls_for, call_counts, HasFewCalls, IsMerge, IsShaped}
use Rattle.spec_audit.specs.Reading.{read_output}
use Rattle.spec_audit.proofs.OneVerdict.{shape_read}
use Rattle.spec_audit.proofs.Written.{read_shape}
use Rattle.xl_script.specs.declared.script.Line.{Line}
use Rattle.xl_script.specs.Lines.{lines_of, lists_of}
use Rattle.xl_printed.specs.Merging.{saves_along, saves_of, merges}
use Rattle.xl_printed.proofs.MergesAre.{merges_true, merges_all}

-- ---- one session

abbrev line_saves : script.Line → List Bool
line_saves (script.call c) = false ∷ []
line_saves script.save = true ∷ []
line_saves (script.forget slot) = []

pub record AreSaved (lines : List Line) (place : ℕ) (saves : List Bool) : Type 0 where
  pub same : saves ++ saves_along (calls_of (lines_of (drop place lines))) ≡ saves_along (calls_of (lines_of lines))

-- ---- all sessions

pub record AreListed (lists : List (List Line)) (session : ℕ) (saves : List (List Bool)) : Type 0 where
  pub same : saves ≡ map (λ (n : ℕ). saves_along (calls_for (lists_of lists) n)) (count_from 0 session)

map_snoc : (f : ℕ → List Bool) (first n : ℕ) → map f (count_from first (suc n)) ≡ map f (count_from first n) ++ f (first + n) ∷ []
map_snoc f first zero = let z : first ≡ first + 0 = omega arith in ap (λ (k : ℕ). f k ∷ []) z
map_snoc f first (suc n) =
    let z : suc first + n ≡ first + suc n = omega arith in
    ap (λ (xs : List (List Bool)). f first ∷ xs) (map_snoc f (suc first) n ∙ ap (λ (k : ℕ). map f (count_from (suc first) n) ++ f k ∷ []) z)

list_lines : (lists : List (List Line)) (session : ℕ) → get_or (lists_of lists) session [] ≡ lines_of (get_or lists session [])
list_lines [] zero = refl
list_lines [] (suc session) = refl
list_lines (ls ∷ lists) zero = refl
list_lines (ls ∷ lists) (suc session) = list_lines lists session

pub listed_more : (lists : List (List Line)) (session : ℕ) (saves : List (List Bool)) (next : List Bool) → AreListed lists session saves
    → next ≡ saves_along (calls_of (lines_of (get_or lists session []))) → AreListed lists (session + 1) (saves ++ next ∷ [])
listed_more lists session saves next listed is =
    let f : ℕ → List Bool = λ n. saves_along (calls_for (lists_of lists) n) in
    let one : suc session ≡ session + 1 = omega arith in
    let z : session ≡ 0 + session = omega arith in
    let at : saves_along (calls_of (lines_of (get_or lists session []))) ≡ f session =
    ap (λ (ls : List script.Line). saves_along (calls_of ls))
    (sym (list_lines lists session) ∙ sym (unwrap_or-slice_get (lists_of lists) session [])) in
    record {
      same = (λ i. listed.same i ++ is i ∷ []) ∙ ap (λ (s : List Bool). map f (count_from 0 session) ++ s ∷ []) (at ∙ ap f z)
          ∙ sym (map_snoc f 0 session) ∙ ap (λ (n : ℕ). map f (count_from 0 n)) one;
    }

-- ---- counts

length_saved : (calls : List script.Line) → length (saves_along calls) ≡ length calls
length_saved [] = refl
length_saved (c ∷ calls) = ap (λ (n : ℕ). suc n) (length_saved calls)

map_lengths : (scripts : List (List script.Line)) (first n : ℕ)
    → map length (map (λ (s : ℕ). saves_along (calls_for scripts s)) (count_from first n)) ≡ map (λ (s : ℕ). length (calls_for scripts s)) (count_from first n)
map_lengths scripts first zero = refl
map_lengths scripts first (suc n) =
    let here = length_saved (calls_for scripts first) in
    let rest = map_lengths scripts (suc first) n in
    λ i. here i ∷ rest i

pub counts_are : (scripts : List (List script.Line)) → map length (saves_of scripts) ≡ call_counts scripts
counts_are scripts = map_lengths scripts 0 8

short_from : (scripts : List (List script.Line)) (first n : ℕ) → first + n ≤ 8 → HasFewCalls scripts
    → AllByRecursion (λ s. length s < 2 ^ 32) (map (λ (s : ℕ). saves_along (calls_for scripts s)) (count_from first n))
short_from scripts first zero le few = tt
short_from scripts first (suc n) le few =
    let l = length_saved (calls_for scripts first) in
    let most : length (calls_for scripts first) ≤ MAX_CALLS = few first (omega (arith, le)) in
    (omega (arith, l, most), short_from scripts (suc first) n (omega (arith, le)) few)

pub are_short : (scripts : List (List script.Line)) → HasFewCalls scripts → AllByRecursion (λ s. length s < 2 ^ 32) (saves_of scripts)
are_short scripts few = short_from scripts 0 8 (omega arith) few

-- ---- the shape

pub no_output : (scripts : List (List script.Line)) (counts text : List ℕ) (o : Output) → HasFewCalls scripts → counts ≡ call_counts scripts
    → None ≡ read_output counts text → IsShaped scripts text o → ⊥
no_output scripts counts text o few is none shaped =
    let read = none ∙ ap (λ (ns : List ℕ). read_output ns text) is ∙ shape_read scripts text o few shaped in cc

pub no_merge : (scripts : List (List script.Line)) (counts text : List ℕ) (o p : Output) → HasFewCalls scripts → counts ≡ call_counts scripts
    → Some p ≡ read_output counts text → merges (saves_of scripts) p.order ≡ false → IsShaped scripts text o → ⊥
no_merge scripts counts text o p few is some none shaped =
    let same : Some p ≡ Some o = some ∙ ap (λ (ns : List ℕ). read_output ns text) is ∙ shape_read scripts text o few shaped in
    let e : p ≡ o = cc in
    let yes_merge = merges_all scripts p.order (subst (λ (x : Output). IsMerge scripts x.order) (sym e) shaped.order) in
    let bad : false ≡ true = sym none ∙ yes_merge in
    cc

pub is_output : (scripts : List (List script.Line)) (counts text : List ℕ) (p : Output) → counts ≡ call_counts scripts
    → Some p ≡ read_output counts text → merges (saves_of scripts) p.order ≡ true → IsShaped scripts text p
is_output scripts counts text p is some merge =
    read_shape scripts text p (ap (λ (ns : List ℕ). read_output ns text) (sym is) ∙ sym some) (merges_true scripts p.order merge)
