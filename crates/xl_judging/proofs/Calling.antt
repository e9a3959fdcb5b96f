-- The calls of the sessions, as they are listed.
use Rattle.std.proofs.Common.{◌≡◌, ℕ, zero, suc, ◌+◌, ◌<◌, List, [], ◌∷◌, ◌++◌, length, map, drop, refl, ap, sym, ◌∙◌, arith, get_or, append_assoc}
use Rattle.std.specs.Prelude.{slice_get, unwrap_or}
use Rattle.std.proofs.Math.Seq.{drop-cons}
use Rattle.std.proofs.lemmas.Option.{unwrap_or-slice_get}
use Rattle.spec_document.specs.Rect.{count_from}
use Rattle.spec_script.specs.Script as script
use Rattle.spec_text.specs.Text.{calls_of}
use Rattle.spec_text.specs.declared.OrderWord.{OrderWord}
use Rattle.spec_audit.specs.Output.{calls_for}
use Rattle.spec_audit.specs.Walk.{call_at}
use Rattle.xl_script.specs.declared.script.Line.{Line}
use Rattle.xl_script.specs.Lines.{line_of, lines_of, lists_of}
use Rattle.xl_judging.specs.Calls.{calls_in, line_in}

-- ---- one session

-- a line of the session is one of its calls or not
abbrev pub line_calls : script.Line → List script.Line
line_calls (script.call c) = script.call c ∷ []
line_calls script.save = script.save ∷ []
line_calls (script.forget slot) = []

pub record AreCalled (lines : List Line) (place : ℕ) (calls : List script.Line) : Type 0 where
  pub same : calls ++ calls_of (lines_of (drop place lines)) ≡ calls_of (lines_of lines)

first_calls : (line : script.Line) (ls : List script.Line) → calls_of (line ∷ ls) ≡ line_calls line ++ calls_of ls
first_calls (script.call c) ls = refl
first_calls script.save ls = refl
first_calls (script.forget slot) ls = refl

pub called_more : (lines : List Line) (place : ℕ) (calls : List script.Line) (d : Line) → AreCalled lines place calls → place < length lines
    → AreCalled lines (place + 1) (calls ++ line_calls (line_of (get_or lines place d)))
called_more lines place calls d called lt =
    let one : suc place ≡ place + 1 = omega arith in
    let line = line_of (get_or lines place d) in
    let rest = lines_of (drop (place + 1) lines) in
    let at : lines_of (drop place lines) ≡ line ∷ rest =
    ap lines_of (drop-cons lines place d lt) ∙ ap (λ (n : ℕ). line ∷ lines_of (drop n lines)) one in
    record {
      same = append_assoc calls (line_calls line) (calls_of rest)
          ∙ ap (λ (xs : List script.Line). calls ++ xs) (sym (first_calls line rest))
          ∙ ap (λ (ls : List script.Line). calls ++ calls_of ls) (sym at) ∙ called.same;
    }

-- ---- all sessions

pub record AreGathered (lists : List (List Line)) (session : ℕ) (calls : List (List script.Line)) : Type 0 where
  pub same : calls ≡ map (λ (n : ℕ). calls_for (lists_of lists) n) (count_from 0 session)

map_snoc : (f : ℕ → List script.Line) (first n : ℕ) → map f (count_from first (suc n)) ≡ map f (count_from first n) ++ f (first + n) ∷ []
map_snoc f first zero = let z : first ≡ first + 0 = omega arith in ap (λ (k : ℕ). f k ∷ []) z
map_snoc f first (suc n) =
    let z : suc first + n ≡ first + suc n = omega arith in
    ap (λ (xs : List (List script.Line)). f first ∷ xs)
    (map_snoc f (suc first) n ∙ ap (λ (k : ℕ). map f (count_from (suc first) n) ++ f k ∷ []) z)

list_lines : (lists : List (List Line)) (session : ℕ) → get_or (lists_of lists) session [] ≡ lines_of (get_or lists session [])
list_lines [] zero = refl
list_lines [] (suc session) = refl
list_lines (ls ∷ lists) zero = refl
list_lines (ls ∷ lists) (suc session) = list_lines lists session

pub gathered_more : (lists : List (List Line)) (session : ℕ) (calls : List (List script.Line)) (next : List script.Line)
    → AreGathered lists session calls → next ≡ calls_of (lines_of (get_or lists session []))
    → AreGathered lists (session + 1) (calls ++ next ∷ [])
gathered_more lists session calls next gathered is =
    let f : ℕ → List script.Line = λ n. calls_for (lists_of lists) n in
    let one : suc session ≡ session + 1 = omega arith in
    let z : session ≡ 0 + session = omega arith in
    let at : calls_of (lines_of (get_or lists session [])) ≡ f session =
    ap calls_of (sym (list_lines lists session) ∙ sym (unwrap_or-slice_get (lists_of lists) session [])) in
    record {
      same = (λ i. gathered.same i ++ is i ∷ []) ∙ ap (λ (s : List script.Line). map f (count_from 0 session) ++ s ∷ []) (at ∙ ap f z)
          ∙ sym (map_snoc f 0 session) ∙ ap (λ (n : ℕ). map f (count_from 0 n)) one;
    }

-- ---- a word

at_of : (f : ℕ → List script.Line) (first n session : ℕ) → session < n
    → unwrap_or (slice_get (map f (count_from first n)) session) [] ≡ f (first + session)
at_of f first zero session lt = absurd (omega (arith, lt))
at_of f first (suc n) zero lt = let z : first ≡ first + 0 = omega arith in ap f z
at_of f first (suc n) (suc session) lt =
    let z : suc first + session ≡ first + suc session = omega arith in
    at_of f (suc first) n session (omega (arith, lt)) ∙ ap f z

-- its line is that of the script
pub line_is : (scripts : List (List script.Line)) (calls : List (List script.Line)) (w : OrderWord) → calls ≡ calls_in scripts
    → w.session < 8 → line_in calls w ≡ call_at scripts w
line_is scripts calls w is lt =
    let z : 0 + w.session ≡ w.session = omega arith in
    let at : unwrap_or (slice_get calls w.session) [] ≡ calls_for scripts w.session =
    ap (λ (cs : List (List script.Line)). unwrap_or (slice_get cs w.session) []) is
    ∙ (at_of (calls_for scripts) 0 8 w.session lt ∙ ap (calls_for scripts) z) in
    ap (λ (cs : List script.Line). unwrap_or (slice_get cs w.index) script.save) at
