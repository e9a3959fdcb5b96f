-- Where the calls of each session end with a save, the last call of their history is a save.
use Rattle.std.proofs.Common.{◌≡◌, ℕ, zero, suc, ◌<◌, ◌≤◌, Bool, true, false, cond, eqb, ltb, List, [], ◌∷◌, ◌++◌}
use Rattle.std.proofs.Common.{length, refl, ap, sym, ◌∙◌, arith, filter_map, flat_map}
use Rattle.std.specs.Prelude.{Option, Some, None, slice_get, unwrap_or}
use Rattle.std.specs.List.{cons_option}
use Rattle.std.proofs.lemmas.Bool.{eq-eqb, ltb-true, ltb-false, lt-ltb}
use Rattle.spec_filters.specs.declared.FilterState.{FilterState}
use Rattle.spec_document.specs.Rect.{count_from}
use Rattle.spec_document.specs.Document.{Document}
use Rattle.spec_history.specs.History.{Entry, mine}
use Rattle.spec_script.specs.Script.{Line, call, save, forget}
use Rattle.spec_text.specs.Text.{IsTextOf, calls_of, made_by}
use Rattle.spec_generated.specs.Draws.{times, for_each}
use Rattle.spec_generated.specs.Generated.{look, fills_and_tile, layer_of_session, session_lines, document, script}
use Rattle.spec_merged.specs.Fills.{EndsWithSave}

abbrev lines_in : List Entry → List Line
lines_in es = filter_map (λ (e : Entry). made_by e.kind) es

abbrev is_save : Line → Bool
is_save (call c) = false
is_save save = true
is_save (forget slot) = false

-- whether the last line is a save, and the default where there is none
abbrev saves_last : Bool → List Line → Bool
saves_last default [] = default
saves_last default (line ∷ lines) = saves_last (is_save line) lines

-- the default of the session of the last line so far is that of all
saves_all : (es : List Entry) (defaults : ℕ → Bool) (last : ℕ)
    → ((session : ℕ) → saves_last (defaults session) (lines_in (mine es session)) ≡ true)
    → saves_last (defaults last) (lines_in es) ≡ true
saves_all [] defaults last each = each last
saves_all (e ∷ es) defaults last each =
    go (made_by e.kind) (λ session. by_session (eqb e.session session) session (each session)) (λ ds n h. saves_all es ds n h) where
      by_session : (b : Bool) (session : ℕ)
          → saves_last (defaults session) (lines_in (cond b (e ∷ mine es session) (mine es session))) ≡ true
          → saves_last (defaults session) (cond b (cons_option (made_by e.kind) (lines_in (mine es session)))
          (lines_in (mine es session))) ≡ true
      by_session true session h = h
      by_session false session h = h

      go : (o : Option Line)
          → ((session : ℕ) → saves_last (defaults session)
          (cond (eqb e.session session) (cons_option o (lines_in (mine es session))) (lines_in (mine es session))) ≡ true)
          → ((ds : ℕ → Bool) (n : ℕ) → ((session : ℕ) → saves_last (ds session) (lines_in (mine es session)) ≡ true)
          → saves_last (ds n) (lines_in es) ≡ true)
          → saves_last (defaults last) (cons_option o (lines_in es)) ≡ true
      go None h rest = rest defaults last (λ session. none_there (eqb e.session session) session (h session)) where
        none_there : (b : Bool) (session : ℕ)
            → saves_last (defaults session) (cond b (lines_in (mine es session)) (lines_in (mine es session))) ≡ true
            → saves_last (defaults session) (lines_in (mine es session)) ≡ true
        none_there true session h = h
        none_there false session h = h
      go (Some line) h rest =
          let ds : ℕ → Bool = λ session. cond (eqb e.session session) (is_save line) (defaults session) in
          let here : ds e.session ≡ is_save line =
          ap (λ (b : Bool). cond b (is_save line) (defaults e.session)) (eq-eqb e.session e.session refl) in
          ap (λ (b : Bool). saves_last b (lines_in es)) (sym here)
          ∙ rest ds e.session (λ session. one_there (eqb e.session session) session (h session)) where
            one_there : (b : Bool) (session : ℕ)
                → saves_last (defaults session) (cond b (line ∷ lines_in (mine es session)) (lines_in (mine es session))) ≡ true
                → saves_last (cond b (is_save line) (defaults session)) (lines_in (mine es session)) ≡ true
            one_there true session h = h
            one_there false session h = h

-- ---- such lists

saves_behind : (front : List Line) (default : Bool) → saves_last default (calls_of (front ++ save ∷ [])) ≡ true
saves_behind [] default = refl
saves_behind (call c ∷ front) default = saves_behind front false
saves_behind (save ∷ front) default = saves_behind front true
saves_behind (forget slot ∷ front) default = saves_behind front default

ended : (line : Line) (lines : List Line) → saves_last (is_save line) lines ≡ true → EndsWithSave (line ∷ lines)
ended (call c) [] is = let bad : false ≡ true = is in cc
ended save [] is = ([], refl)
ended (forget slot) [] is = let bad : false ≡ true = is in cc
ended line (x ∷ lines) is = let rest = ended x lines is in (line ∷ rest.0, ap (λ (ls : List Line). line ∷ ls) rest.1)

some_ended : (default : Bool) (lines : List Line) → default ≡ false → saves_last default lines ≡ true → EndsWithSave lines
some_ended default [] off is = let bad : false ≡ true = sym off ∙ is in cc
some_ended default (line ∷ lines) off is = ended line lines is

-- ---- a history

-- The sessions below eight begin without a save, the others have no calls at all.
pub last_is_save : (out : List ℕ) (base : Document) (lists : List (List Line)) (chests : List (List FilterState)) (es : List Entry)
    → IsTextOf out base lists chests es
    → ((session : ℕ) → session < 8 → EndsWithSave (unwrap_or (slice_get lists session) [])) → EndsWithSave (lines_in es)
last_is_save out base lists chests es text each =
    let defaults : ℕ → Bool = λ session. ltb 7 session in
    some_ended false (lines_in es) refl (saves_all es defaults 0 (λ session. go (ltb session 8) session refl)) where
      go : (b : Bool) (session : ℕ) → ltb session 8 ≡ b → saves_last (ltb 7 session) (lines_in (mine es session)) ≡ true
      go true session is =
          let ends = each session (ltb-true session 8 is) in
          ap (saves_last (ltb 7 session)) (text.calls session (ltb-true session 8 is) ∙ ap calls_of ends.1)
          ∙ saves_behind ends.0 (ltb 7 session)
      go false session is =
          let many : 8 ≤ session = ltb-false session 8 is in
          ap (λ (l : List Entry). saves_last (ltb 7 session) (lines_in l)) (text.others session many)
          ∙ lt-ltb 7 session (omega (arith, many))

-- ---- the sessions of a seed

drawn_ends : (numbers : List ℕ) (s k : ℕ) → k < length numbers
    → EndsWithSave (unwrap_or (slice_get (for_each numbers session_lines s).what k) [])
drawn_ends [] s k below = absurd (omega arith)
drawn_ends (n ∷ numbers) s zero below =
    (flat_map (λ (p : List Line). p) (times 3 (fills_and_tile (layer_of_session n)) s).what, refl)
drawn_ends (n ∷ numbers) s (suc k) below = drawn_ends numbers (session_lines n s).state k (omega arith)

pub last_is_save_of_seed : (seed : ℕ) (out : List ℕ) (chests : List (List FilterState)) (es : List Entry)
    → IsTextOf out (document seed) (script seed) chests es
    → EndsWithSave (lines_in es)
last_is_save_of_seed seed out chests es text =
    last_is_save out (document seed) (script seed) chests es text
    (λ session below. drawn_ends (count_from 0 8) (times 8 look seed).state session below)
