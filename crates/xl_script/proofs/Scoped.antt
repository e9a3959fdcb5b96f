-- Lines as they are taken by the scope of their script.
use Rattle.std.proofs.Common.{◌≡◌, ℕ, true, false, cond, List, [], ◌∷◌, map, refl, ◌∙◌, ap, subst}
use Rattle.std.specs.Prelude.{Option, Some, None, Result, IfOk, Ok, nat_le, length, ◌^◌, Err}
use Rattle.spec_script.specs.Words.{◌>>=◌, lines_of, words_of}
use Rattle.spec_script.specs.Commands.{Asked, command_of}
use Rattle.spec_script.specs.Script.{Parsed, take_line, take_asked, take_by, is_skipped, Line, script}
use Rattle.spec_script.specs.Script.{closed, take_lines, start, line_of_byte}
use Rattle.spec_view.specs.Script.{no_line, view_lists}
use Rattle.spec_view.proofs.Lines.{skipped_line, asking_line, AreViewed, lists_viewed}
use Rattle.xl_script.specs.Scopes.{may_ask, line_in, script_in}
use Rattle.xl_script.specs.Gives.{ScriptOf}
use Rattle.xl_script.specs.Lines.{lists_of}
use Rattle.xl_script.specs.declared.bad_line.BadLineOrMemory.{BadLineOrMemory}
use Rattle.xl_script.specs.declared.script.Line as code
use Rattle.xl_script.specs.declared.scope.Scope.{Scope}
use Rattle.xl_script.specs.declared.scope.Scope.TheVariants.{Whole, Viewed}

-- a line that is skipped
pub skipped_in : (scope : Scope) (number : ℕ) (line : List ℕ) (p : Parsed) → is_skipped line ≡ true
    → take_line number (line_in scope line) p ≡ Some p
skipped_in Whole number line p skipped = ap (λ b. cond b (Some p) (take_asked number (words_of line) p)) skipped
skipped_in Viewed number line p skipped =
    ap (λ l. take_line number l p) (skipped_line line skipped) ∙ ap (λ b. cond b (Some p) (take_asked number (words_of line) p)) skipped

-- a line by what its words ask for
by_words : (number : ℕ) (line : List ℕ) (p : Parsed) (o : Option Asked) → is_skipped line ≡ false → command_of (words_of line) ≡ o
    → take_line number line p ≡ (o >>= (λ a. take_by number a p))
by_words number line p o whole asks = λ i. cond (whole i) (Some p) (asks i >>= (λ a. take_by number a p))

-- one that asks for nothing
pub nothing_in : (scope : Scope) (number : ℕ) (line : List ℕ) (p : Parsed) → is_skipped line ≡ false
    → command_of (words_of line) ≡ None
    → take_line number (line_in scope line) p ≡ None
nothing_in Whole number line p whole asks = by_words number line p None whole asks
nothing_in Viewed number line p whole asks = ap (λ l. take_line number l p) (asking_line line None whole asks)

-- one that asks for what may not stand there
pub refused_in : (scope : Scope) (number : ℕ) (line : List ℕ) (asked : Asked) (p : Parsed) → is_skipped line ≡ false
    → command_of (words_of line) ≡ Some asked → may_ask scope asked ≡ false
    → take_line number (line_in scope line) p ≡ None
refused_in Whole number line asked p whole asks may = cc
refused_in Viewed number line asked p whole asks may =
    ap (λ l. take_line number l p) (asking_line line (Some asked) whole asks ∙ ap (λ b. cond b line no_line) may)

-- any other
pub asked_in : (scope : Scope) (number : ℕ) (line : List ℕ) (asked : Asked) (p : Parsed) → is_skipped line ≡ false
    → command_of (words_of line) ≡ Some asked → may_ask scope asked ≡ true
    → take_line number (line_in scope line) p ≡ take_by number asked p
asked_in Whole number line asked p whole asks may = by_words number line p (Some asked) whole asks
asked_in Viewed number line asked p whole asks may =
    ap (λ l. take_line number l p) (asking_line line (Some asked) whole asks ∙ ap (λ b. cond b line no_line) may)
    ∙ by_words number line p (Some asked) whole asks

-- ---- a whole script

all_whole : (lines : List (List ℕ)) → map (line_in Whole) lines ≡ lines
all_whole [] = refl
all_whole (line ∷ lines) = ap (λ ls. line ∷ ls) (all_whole lines)

pub whole_script : (text chests : List ℕ) → script_in Whole text chests ≡ script text chests
whole_script text chests =
    ap (λ ls. cond (nat_le (length text) (2 ^ 24)) (closed (take_lines 1 ls (start chests))) (Err (line_of_byte text (2 ^ 24))))
    (all_whole (lines_of text))

-- ---- one that is viewed

pub viewed_script : (text : List ℕ) (filters : ℕ) (lists : List (List Line)) → view_lists text filters ≡ Ok lists
    → AreViewed filters lists
viewed_script text filters lists read = subst (λ r. IfOk r (AreViewed filters)) read (lists_viewed text filters)

-- a result that is what the text of such a script gives
pub viewed_result : (text : List ℕ) (filters : ℕ) (r : Result (List (List code.Line)) BadLineOrMemory)
    → ScriptOf r (view_lists text filters) → IfOk r (λ lists. AreViewed filters (lists_of lists))
viewed_result text filters (Ok lists) read = viewed_script text filters (lists_of lists) read
viewed_result text filters (Err e) read = tt
