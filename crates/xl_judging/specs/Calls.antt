-- The call of a word, by the calls of each session.
use Rattle.std.specs.Prelude.{ℕ, List, [], map, slice_get, unwrap_or}
use Rattle.spec_document.specs.Rect.{count_from}
use Rattle.spec_script.specs.Script as lines
use Rattle.spec_script.specs.Script.{Line}
use Rattle.spec_text.specs.declared.OrderWord.{OrderWord}
use Rattle.spec_audit.specs.Output.{calls_for}

-- the calls of the eight sessions
abbrev pub calls_in : (scripts : List (List Line)) → List (List Line)
calls_in scripts = map (λ session. calls_for scripts session) (count_from 0 8)

abbrev pub line_at : (calls : List Line) → (index : ℕ) → Line
line_at calls index = unwrap_or (slice_get calls index) lines.save

abbrev pub line_in : (calls : List (List Line)) → OrderWord → Line
line_in calls w = line_at (unwrap_or (slice_get calls w.session) []) w.index

abbrev pub IsNoCall : Line → Type 0
IsNoCall (lines.call c) = ⊥
IsNoCall lines.save = Unit {0}
IsNoCall (lines.forget slot) = Unit {0}
