-- The last document of sessions that fill layers of their own, in whatever order their calls come.
use Rattle.std.proofs.Common.{◌≡◌, ℕ, zero, suc, ◌+◌, ◌<◌, ◌≤◌, Bool, true, false, cond, eqb, ltb, List, [], ◌∷◌}
use Rattle.std.proofs.Common.{length, refl, sym, ◌∙◌, ap, subst, arith, filter_map}
use Rattle.std.specs.Prelude.{fold, slice_index, slice_get, unwrap_or, Option, Some, None}
use Rattle.std.specs.List.{AllByRecursion, cons_option}
use Rattle.std.proofs.lemmas.Bool.{eqb-true, eqb-false, eq-eqb, ltb-true, ltb-false}
use Rattle.spec_document.specs.Document.{Document, Layer}
use Rattle.spec_edit.specs.declared.EditRefused.{EditRefused}
use Rattle.spec_edit.specs.Edit.{Edit, fill}
use Rattle.spec_edit.specs.Refusal.{refusal}
use Rattle.spec_edit.specs.Effect.{paint}
use Rattle.spec_history.specs.Machine.{Call, edit, undo, redo, tile, peek, top, State, document_at, initial, answer}
use Rattle.spec_history.specs.History.{Entry, Kind, asked, starts, ends, after_kind, replay_from, replay, latest_of}
use Rattle.spec_history.specs.History.{document_of, mine}
use Rattle.spec_history.proofs.Versions.{latest_of-legal}
use Rattle.spec_filters.specs.declared.FilterState.{FilterState}
use Rattle.spec_script.specs.Script.{Line, call, save, forget}
use Rattle.spec_text.specs.Text.{IsTextOf, made_by, calls_of}
use Rattle.spec_generated.specs.Summary.{after_line, outcome}
use Rattle.spec_merged.specs.Fills.{IsOwnCall, IsOwnLine, AreOwn}
use Rattle.spec_merged.proofs.Leaves.{all_leaves-alike, all_leaves-none}
use Rattle.spec_merged.proofs.Painted.{with_nodes, KeepsLike, like_itself, like_both}
use Rattle.spec_merged.proofs.Painter.{changed_leaves, painter, painter_call, painter_edits, painted_unless, along}
use Rattle.spec_merged.proofs.Painter.{along_all, like_along, like_painter}
use Rattle.spec_merged.proofs.Replayed.{last, last-line, last-call}

-- ---- the entries of a history, and lines, are made one after another

abbrev lines_in : List Entry → List Line
lines_in es = filter_map (λ (e : Entry). made_by e.kind) es

abbrev IsOwnMade : (owner : ℕ → ℕ) → (session : ℕ) → Option Line → Type 0
IsOwnMade owner session None = Unit {0}
IsOwnMade owner session (Some line) = IsOwnLine owner session line

abbrev IsOwnEntry : (owner : ℕ → ℕ) → Entry → Type 0
IsOwnEntry owner e = IsOwnMade owner e.session (made_by e.kind)

module _ (owner : ℕ → ℕ) (base : Document) where
  abbrev IsAt : State → (ℕ → Layer → Layer) → Type 0
  IsAt s change = last base s ≡ changed_leaves base change

  replayed : (s : State) (es : List Entry) (change : ℕ → Layer → Layer) → KeepsLike change → AllByRecursion (IsOwnEntry owner) es
      → IsAt s change
      → IsAt (replay_from base s es) (λ i l. along base (lines_in es) i (change i l))
  replayed s [] change keeps own at = at
  replayed s (e ∷ es) change keeps own at = go e.kind own.0 at (λ t f k. replayed t es f k own.1) where
    go : (k : Kind) → IsOwnMade owner e.session (made_by k) → IsAt s change
        → ((t : State) (f : ℕ → Layer → Layer) → KeepsLike f → IsAt t f
        → IsAt (replay_from base t es) (λ i l. along base (lines_in es) i (f i l)))
        → IsAt (replay_from base (after_kind base s e k) es)
        (λ i l. along base (cons_option (made_by k) (lines_in es)) i (change i l))
    go (asked c tables) mine_is here rest =
        rest (answer base s c tables).state (λ i l. painter base (call c) i (change i l))
        (λ i l. like_both (painter base (call c) i (change i l)) (change i l) l (like_painter base (call c) i (change i l))
        (keeps i l))
        (last-call owner e.session base change keeps s c tables mine_is here)
    go starts mine_is here rest = rest (after_kind base s e starts) change keeps here
    go ends mine_is here rest = rest (after_kind base s e ends) change keeps here

  lines_made : (session : ℕ) (s : State) (lines : List Line) (change : ℕ → Layer → Layer) → KeepsLike change
      → AllByRecursion (IsOwnLine owner session) lines → IsAt s change
      → IsAt (fold (after_line base) s lines) (λ i l. along base lines i (change i l))
  lines_made session s [] change keeps own at = at
  lines_made session s (line ∷ lines) change keeps own at =
      lines_made session (after_line base s line) lines (λ i l. painter base line i (change i l))
      (λ i l. like_both (painter base line i (change i l)) (change i l) l (like_painter base line i (change i l)) (keeps i l))
      own.1 (last-line owner session base change keeps s line own.0 at)

  lists_made : (first : ℕ) (s : State) (lists : List (List Line)) (change : ℕ → Layer → Layer) → KeepsLike change
      → AreOwn owner first lists → IsAt s change
      → IsAt (fold (λ (t : State) (lines : List Line). fold (after_line base) t lines) s lists)
      (λ i l. along_all base lists i (change i l))
  lists_made first s [] change keeps own at = at
  lists_made first s (lines ∷ lists) change keeps own at =
      lists_made (suc first) (fold (after_line base) s lines) lists (λ i l. along base lines i (change i l))
      (λ i l. like_both (along base lines i (change i l)) (change i l) l (like_along base lines i (change i l)) (keeps i l))
      own.1 (lines_made first s lines change keeps own.0 at)

  -- ---- the lines of other sessions leave a layer as it is

  other_call : (session : ℕ) (c : Call) (i : ℕ) (l : Layer) → IsOwnCall owner session c → (session ≡ owner i → ⊥)
      → painter_call base c i l ≡ l
  other_call session (edit guard es) i l own other =
      ap (λ (x : List Edit). painter_edits base x i l) own.alone
      ∙ go (refusal base (fill own.id own.rect own.pixel)) (eqb own.id i) refl where
        go : (r : Option EditRefused) (b : Bool) → eqb own.id i ≡ b → painted_unless r base own.id own.rect own.pixel i l ≡ l
        go (Some r) b is = refl
        go None true is = absurd (other (sym own.own ∙ ap owner (eqb-true own.id i is)))
        go None false is = ap (λ (b : Bool). cond b (paint base own.rect (λ x y c. slice_index own.pixel c) l) l) is
  other_call session (undo named) i l own other = refl
  other_call session redo i l own other = refl
  other_call session (tile stack place) i l own other = refl
  other_call session (peek stack place) i l own other = refl
  other_call session top i l own other = refl

  other_line : (session : ℕ) (line : Line) (i : ℕ) (l : Layer) → IsOwnLine owner session line → (session ≡ owner i → ⊥)
      → painter base line i l ≡ l
  other_line session (call c) i l own other = other_call session c i l own other
  other_line session save i l own other = refl
  other_line session (forget slot) i l own other = refl

  other_lines : (session : ℕ) (lines : List Line) (i : ℕ) (l : Layer) → AllByRecursion (IsOwnLine owner session) lines
      → (session ≡ owner i → ⊥) → along base lines i l ≡ l
  other_lines session [] i l own other = refl
  other_lines session (line ∷ lines) i l own other =
      ap (along base lines i) (other_line session line i l own.0 other) ∙ other_lines session lines i l own.1 other

  later_lists : (first : ℕ) (lists : List (List Line)) (i : ℕ) (l : Layer) → AreOwn owner first lists → owner i < first
      → along_all base lists i l ≡ l
  later_lists first [] i l own before = refl
  later_lists first (lines ∷ lists) i l own before =
      ap (along_all base lists i) (other_lines first lines i l own.0 (λ same. omega arith))
      ∙ later_lists (suc first) lists i l own.1 (omega arith)

  -- the lists change a layer as that of its owner does
  owners_list : (first : ℕ) (lists : List (List Line)) (k : ℕ) (i : ℕ) (l : Layer) → AreOwn owner first lists → owner i ≡ first + k
      → along_all base lists i l ≡ along base (unwrap_or (slice_get lists k) []) i l
  owners_list first [] k i l own is = refl
  owners_list first (lines ∷ lists) zero i l own is = later_lists (suc first) lists i (along base lines i l) own.1 (omega arith)
  owners_list first (lines ∷ lists) (suc k) i l own is =
      ap (along_all base lists i) (other_lines first lines i l own.0 (λ same. omega arith))
      ∙ owners_list (suc first) lists k i l own.1 (omega arith)

  -- so do the entries
  same_option : (o : Option Line) (more less : List Line) (i : ℕ) (l : Layer)
      → ((m : Layer) → along base more i m ≡ along base less i m)
      → along base (cons_option o more) i l ≡ along base (cons_option o less) i l
  same_option None more less i l rest = rest l
  same_option (Some line) more less i l rest = rest (painter base line i l)

  other_option : (session : ℕ) (o : Option Line) (more : List Line) (i : ℕ) (l : Layer) → IsOwnMade owner session o
      → (session ≡ owner i → ⊥)
      → along base (cons_option o more) i l ≡ along base more i l
  other_option session None more i l own other = refl
  other_option session (Some line) more i l own other = ap (along base more i) (other_line session line i l own other)

  owners_entries : (es : List Entry) (i : ℕ) (l : Layer) → AllByRecursion (IsOwnEntry owner) es
      → along base (lines_in es) i l ≡ along base (lines_in (mine es (owner i))) i l
  owners_entries [] i l own = refl
  owners_entries (e ∷ es) i l own = go (eqb e.session (owner i)) refl (λ m. owners_entries es i m own.1) where
    go : (b : Bool) → eqb e.session (owner i) ≡ b
        → ((m : Layer) → along base (lines_in es) i m ≡ along base (lines_in (mine es (owner i))) i m)
        → along base (cons_option (made_by e.kind) (lines_in es)) i l
        ≡ along base (lines_in (cond b (e ∷ mine es (owner i)) (mine es (owner i)))) i l
    go true is rest = same_option (made_by e.kind) (lines_in es) (lines_in (mine es (owner i))) i l rest
    go false is rest = other_option e.session (made_by e.kind) (lines_in es) i l own.0 (eqb-false e.session (owner i) is) ∙ rest l

  -- a filter that is dropped changes no layer
  calls_alone : (lines : List Line) (i : ℕ) (l : Layer) → along base (calls_of lines) i l ≡ along base lines i l
  calls_alone [] i l = refl
  calls_alone (call c ∷ lines) i l = calls_alone lines i (painter base (call c) i l)
  calls_alone (save ∷ lines) i l = calls_alone lines i l
  calls_alone (forget slot ∷ lines) i l = calls_alone lines i l

  -- ---- whose the entries are

  own_calls : (session : ℕ) (lines : List Line) → AllByRecursion (IsOwnLine owner session) lines
      → AllByRecursion (IsOwnLine owner session) (calls_of lines)
  own_calls session [] own = tt
  own_calls session (call c ∷ lines) own = (own.0, own_calls session lines own.1)
  own_calls session (save ∷ lines) own = (own.0, own_calls session lines own.1)
  own_calls session (forget slot ∷ lines) own = own_calls session lines own.1

  own_list : (first : ℕ) (lists : List (List Line)) (k session : ℕ) → AreOwn owner first lists → first + k ≡ session
      → AllByRecursion (IsOwnLine owner session) (unwrap_or (slice_get lists k) [])
  own_list first [] k session own is = tt
  own_list first (lines ∷ lists) zero session own is =
      let same : first ≡ session = omega arith in subst (λ (n : ℕ). AllByRecursion (IsOwnLine owner n) lines) same own.0
  own_list first (lines ∷ lists) (suc k) session own is = own_list (suc first) lists k session own.1 (omega arith)

  first_own : (session : ℕ) (o : Option Line) (more : List Line) → AllByRecursion (IsOwnLine owner session) (cons_option o more)
      → IsOwnMade owner session o
  first_own session None more own = tt
  first_own session (Some line) more own = own.0

  rest_own : (session : ℕ) (o : Option Line) (more : List Line) → AllByRecursion (IsOwnLine owner session) (cons_option o more)
      → AllByRecursion (IsOwnLine owner session) more
  rest_own session None more own = own
  rest_own session (Some line) more own = own.1

  own_entries : (es : List Entry) → ((session : ℕ) → AllByRecursion (IsOwnLine owner session) (lines_in (mine es session)))
      → AllByRecursion (IsOwnEntry owner) es
  own_entries [] each = tt
  own_entries (e ∷ es) each = (
    first_own e.session (made_by e.kind) (lines_in (mine es e.session))
        (subst (λ (b : Bool). AllByRecursion (IsOwnLine owner e.session)
        (lines_in (cond b (e ∷ mine es e.session) (mine es e.session)))) (eq-eqb e.session e.session refl) (each e.session)),
    own_entries es (λ session. go session (eqb e.session session) (each session)),
  ) where
    go : (session : ℕ) (b : Bool) → AllByRecursion (IsOwnLine owner session)
        (lines_in (cond b (e ∷ mine es session) (mine es session)))
        → AllByRecursion (IsOwnLine owner session) (lines_in (mine es session))
    go session true own = rest_own session (made_by e.kind) (lines_in (mine es session)) own
    go session false own = own

past : (lists : List (List Line)) (k : ℕ) → length lists ≤ k → unwrap_or (slice_get lists k) [] ≡ []
past [] k few = refl
past (lines ∷ lists) zero few = absurd (omega arith)
past (lines ∷ lists) (suc k) few = past lists k (omega arith)

-- ---- the whole

-- the calls of each number are those of its list, also past the eight
all_calls : (out : List ℕ) (base : Document) (lists : List (List Line)) (chests : List (List FilterState)) (es : List Entry)
    → IsTextOf out base lists chests es
    → length lists ≤ 8 → (session : ℕ) → lines_in (mine es session) ≡ calls_of (unwrap_or (slice_get lists session) [])
all_calls out base lists chests es text few session = go (ltb session 8) refl where
  go : (b : Bool) → ltb session 8 ≡ b → lines_in (mine es session) ≡ calls_of (unwrap_or (slice_get lists session) [])
  go true is = text.calls session (ltb-true session 8 is)
  go false is =
      let many : 8 ≤ session = ltb-false session 8 is in
      ap lines_in (text.others session many) ∙ sym (ap calls_of (past lists session (omega (arith, many, few))))

-- the last document of the sessions' calls, in whatever order, is that of one session after another
pub last_is_outcome : (owner : ℕ → ℕ) (out : List ℕ) (base : Document) (lists : List (List Line)) (chests : List (List FilterState))
    (es : List Entry)
    → IsTextOf out base lists chests es → length lists ≤ 8 → AreOwn owner 0 lists
    → document_of base es (latest_of es) ≡ outcome base lists
last_is_outcome owner out base lists chests es text few own =
    let calls = all_calls out base lists chests es text few in
    let entries : AllByRecursion (IsOwnEntry owner) es = own_entries owner base es
    (λ session. subst (AllByRecursion (IsOwnLine owner session)) (sym (calls session))
    (own_calls owner base session (unwrap_or (slice_get lists session) [])
    (own_list owner base 0 lists session session own (omega arith)))) in
    let start : last base (initial base) ≡ changed_leaves base (λ i l. l) =
    ap (with_nodes base) (sym (all_leaves-none base.nodes)) in
    let layer : (i : ℕ) (l : Layer) → along base (lines_in es) i l ≡ along_all base lists i l =
    λ i l. owners_entries owner base es i l entries
    ∙ ap (λ (ls : List Line). along base ls i l) (calls (owner i))
    ∙ calls_alone owner base (unwrap_or (slice_get lists (owner i)) []) i l
    ∙ sym (owners_list owner base 0 lists (owner i) i l own (omega arith)) in
    ap (document_at base (replay base es)) (latest_of-legal base es text.legal)
    ∙ replayed owner base (initial base) es (λ i l. l) (λ i l. like_itself l) entries start
    ∙ ap (with_nodes base) (all_leaves-alike (along base (lines_in es)) (along_all base lists) layer base.nodes)
    ∙ sym (lists_made owner base 0 (initial base) lists (λ i l. l) (λ i l. like_itself l) own start)
