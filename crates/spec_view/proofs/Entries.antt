-- The entries of a session that is alone are one list.
use Rattle.std.proofs.Common.{◌≡◌, ℕ, cond, List, [], ◌∷◌, ◌++◌, refl, sym, ◌∙◌, ap, subst}
use Rattle.std.specs.Prelude.{◌==◌, Option, Some, None, filter_map}
use Rattle.std.specs.List.{AllByRecursion, cons_option}
use Rattle.spec_document.specs.Document.{Document}
use Rattle.spec_filters.specs.declared.FilterState.{FilterState}
use Rattle.spec_history.specs.Machine.{Call, Reply, saved, State, Saving, answer}
use Rattle.spec_history.specs.History.{Kind, asked, starts, ends, Entry, next_index, after_kind, after_entry, MayEnd}
use Rattle.spec_history.specs.History.{MayBe, RunFrom, mine}
use Rattle.spec_history.proofs.Growing.{out-answer}
use Rattle.spec_script.specs.Script.{Line, call, save, forget}
use Rattle.spec_tables.specs.Tables.{HaveTables, tables_in, expected_tables, filters_after}
use Rattle.spec_text.specs.Text.{made_by, IsEnd, EndsNext, IsAlone, AreAlone}
use Rattle.spec_view.proofs.Replies.{same_tables, same_reply}

abbrev pub lines_of : List Entry → List Line
lines_of es = filter_map (λ e. made_by e.kind) es

-- ---- the save that is out has to end next

abbrev Owes : Option Saving → Kind → Reply → Type 0
Owes None kind reply = Unit {0}
Owes (Some out) kind reply = IsEnd kind × (reply ≡ saved out.version)

abbrev pub Owed : Option Saving → List Entry → Type 0
Owed None es = Unit {0}
Owed (Some out) es = EndsNext (saved out.version) es

owes : (out : Option Saving) (e : Entry) (es : List Entry) → Owed out (e ∷ es) → Owes out e.kind e.reply
owes None e es owed = tt
owes (Some out) e es owed = owed

-- ---- one entry

-- what is known of the first entry of a list, of this kind
record IsNext (base : Document) (s : State) (earlier : List Entry) (filters : List FilterState) (e : Entry) (kind : Kind)
    (later : List Entry) : Type 0 where
  first : e.session ≡ 0
  step : MayBe base s earlier e kind
  tables : tables_in kind ≡ expected_tables filters kind e.reply
  alone : IsAlone base earlier kind e.reply later
  owes : Owes s.out kind e.reply

-- entries that agree in all but the session
record IsSame (e f : Entry) (k l : Kind) : Type 0 where
  index : e.index ≡ f.index
  kind : k ≡ l
  reply : e.reply ≡ f.reply

no_call : (out : Option Saving) (c : Call) (tables : List (List ℕ)) (reply given : Reply) (session index : ℕ)
    → Owes out (asked c tables) reply → MayEnd out session index given → ⊥
no_call None c tables reply given session index owes may = may
no_call (Some out) c tables reply given session index owes may = owes.0

no_start : (out : Option Saving) (reply : Reply) (session index : ℕ) → out ≡ None → MayEnd out session index reply → ⊥
no_start None reply session index none may = may
no_start (Some out) reply session index none may = cc

one_end : (out : Option Saving) (r q : Reply) (session index other place : ℕ)
    → MayEnd out session index r → MayEnd out other place q → Owes out ends r → Owes out ends q → (index ≡ place) × (r ≡ q)
one_end None r q session index other place this that left right = absurd this
one_end (Some out) r q session index other place this that left right = (this.1 ∙ sym that.1, left.1 ∙ sym right.1)

one_index : (earlier : List Entry) (e f : Entry) → e.session ≡ 0 → f.session ≡ 0
    → e.index ≡ next_index earlier e.session → f.index ≡ next_index earlier f.session → e.index ≡ f.index
one_index earlier e f this that left right = left ∙ (ap (next_index earlier) (this ∙ sym that) ∙ sym right)

call_of : (default : Call) → List Line → Call
call_of default [] = default
call_of default (call c ∷ lines) = c
call_of default (save ∷ lines) = default
call_of default (forget slot ∷ lines) = default

one_call : (c d : Call) (xs ys : List Line) → call c ∷ xs ≡ call d ∷ ys → c ≡ d
unfolding call_of
one_call c d xs ys same = ap (call_of c) same

-- the same call, with its tables and its reply
same_call : (base : Document) (s : State) (earlier : List Entry) (filters : List FilterState) (e f : Entry) (c d : Call)
    (tables others : List (List ℕ)) (later after : List Entry) → c ≡ d
    → IsNext base s earlier filters e (asked c tables) later → IsNext base s earlier filters f (asked d others) after
    → IsSame e f (asked c tables) (asked d others)
same_call base s earlier filters e f c d tables others later after same this that =
    let R : Call → Type 0 = λ x. IsNext base s earlier filters e (asked x tables) later in
    let a : R d = subst R same this in
    let t : tables ≡ others = same_tables base s filters d tables others e.reply f.reply a.step.1 that.step.1 a.tables
    that.tables in
    let P : List (List ℕ) → Type 0 = λ x. IsNext base s earlier filters e (asked d x) later in
    let b : P others = subst P t a in
    record {
      index = one_index earlier e f this.first that.first this.step.0 that.step.0;
      kind = λ i. asked (same i) (t i);
      reply = same_reply base s earlier d others e.reply f.reply later after b.step.1 that.step.1 b.alone that.alone;
    }

-- the next entry is the same where the next call is
same_next : (base : Document) (s : State) (earlier : List Entry) (filters : List FilterState) (e f : Entry) (k l : Kind)
    (later after : List Entry) (xs ys : List Line) → cons_option (made_by k) xs ≡ cons_option (made_by l) ys
    → IsNext base s earlier filters e k later → IsNext base s earlier filters f l after → IsSame e f k l
same_next base s earlier filters e f (asked c tables) (asked d others) later after xs ys lines this that =
    same_call base s earlier filters e f c d tables others later after (one_call c d xs ys lines) this that
same_next base s earlier filters e f (asked c tables) starts later after xs ys lines this that = cc
same_next base s earlier filters e f (asked c tables) ends later after xs ys lines this that =
    absurd (no_call s.out c tables e.reply f.reply f.session f.index this.owes that.step)
same_next base s earlier filters e f starts (asked d others) later after xs ys lines this that = cc
same_next base s earlier filters e f starts starts later after xs ys lines this that = record {
  index = one_index earlier e f this.first that.first this.step.0 that.step.0;
  kind = refl;
  reply = this.step.2 ∙ sym that.step.2;
}
same_next base s earlier filters e f starts ends later after xs ys lines this that =
    absurd (no_start s.out f.reply f.session f.index this.step.1 that.step)
same_next base s earlier filters e f ends (asked d others) later after xs ys lines this that =
    absurd (no_call s.out d others f.reply e.reply e.session e.index that.owes this.step)
same_next base s earlier filters e f ends starts later after xs ys lines this that =
    absurd (no_start s.out e.reply e.session e.index that.step.1 this.step)
same_next base s earlier filters e f ends ends later after xs ys lines this that =
    let one = one_end s.out e.reply f.reply e.session e.index f.session f.index this.step that.step this.owes that.owes in
    record { index = one.0; kind = refl; reply = one.1 }

-- ---- lists of entries

-- what is known of the rest of a session's entries, after the earlier ones
pub record IsRest (base : Document) (s : State) (earlier : List Entry) (filters : List FilterState) (es : List Entry) : Type 0 where
  pub run : RunFrom base s earlier es
  pub first : AllByRecursion (λ e. e.session ≡ 0) es
  pub tables : HaveTables filters es
  pub alone : AreAlone base earlier es
  pub owed : Owed s.out es

next_of : (base : Document) (s : State) (earlier : List Entry) (filters : List FilterState) (e : Entry) (es : List Entry)
    → IsRest base s earlier filters (e ∷ es) → IsNext base s earlier filters e e.kind es
next_of base s earlier filters e es rest = record {
  first = rest.first.0;
  step = rest.run.0;
  tables = rest.tables.0;
  alone = rest.alone.0;
  owes = owes s.out e es rest.owed;
}

still_none : (out new : Option Saving) (c : Call) (tables : List (List ℕ)) (reply : Reply) (es : List Entry)
    → new ≡ out → Owes out (asked c tables) reply → Owed new es
still_none None None c tables reply es same owes = tt
still_none None (Some new) c tables reply es same owes = cc
still_none (Some out) new c tables reply es same owes = absurd owes.0

-- a save is out just after its start
owed_then : (base : Document) (s : State) (earlier : List Entry) (filters : List FilterState) (e : Entry) (kind : Kind)
    (es : List Entry)
    → IsNext base s earlier filters e kind es → Owed (after_kind base s e kind).out es
owed_then base s earlier filters e (asked c tables) es next =
    still_none s.out (answer base s c tables).state.out c tables e.reply es (out-answer base s c tables) next.owes
owed_then base s earlier filters e starts es next =
    let P : Reply → Type 0 = λ reply. EndsNext reply es in subst P next.step.2 next.alone
owed_then base s earlier filters e ends es next = tt

rest_of : (base : Document) (s : State) (earlier : List Entry) (filters : List FilterState) (e : Entry) (es : List Entry)
    → IsRest base s earlier filters (e ∷ es)
    → IsRest base (after_entry base s e) (earlier ++ e ∷ []) (filters_after filters e.kind e.reply) es
rest_of base s earlier filters e es rest = record {
  run = rest.run.1;
  first = rest.first.1;
  tables = rest.tables.1;
  alone = rest.alone.1;
  owed = owed_then base s earlier filters e e.kind es (next_of base s earlier filters e es rest);
}

tail_of : List Line → List Line
tail_of [] = []
tail_of (line ∷ lines) = lines

lines_then : (kind : Kind) (xs ys : List Line) → cons_option (made_by kind) xs ≡ cons_option (made_by kind) ys → xs ≡ ys
unfolding tail_of
lines_then (asked c tables) xs ys same = ap tail_of same
lines_then starts xs ys same = ap tail_of same
lines_then ends xs ys same = same

-- where nothing is left of the one list, no entry is left of the other
none_left : (out : Option Saving) (kind : Kind) (reply : Reply) (session index : ℕ) (xs : List Line)
    → Owed out [] → (IsEnd kind → MayEnd out session index reply) → [] ≡ cons_option (made_by kind) xs → ⊥
none_left out (asked c tables) reply session index xs owed may lines = cc
none_left out starts reply session index xs owed may lines = cc
none_left None ends reply session index xs owed may lines = may tt
none_left (Some out) ends reply session index xs owed may lines = owed

may_end : (base : Document) (s : State) (earlier : List Entry) (e : Entry) (kind : Kind)
    → MayBe base s earlier e kind → IsEnd kind → MayEnd s.out e.session e.index e.reply
may_end base s earlier e (asked c tables) may end = absurd end
may_end base s earlier e starts may end = absurd end
may_end base s earlier e ends may end = may

-- Two lists with the same calls begin with the same entry, so the same is known of what is left of both.
pub one_rest : (base : Document) (s : State) (earlier : List Entry) (filters : List FilterState) (es fs : List Entry)
    → lines_of es ≡ lines_of fs → IsRest base s earlier filters es → IsRest base s earlier filters fs → es ≡ fs
one_rest base s earlier filters [] [] lines this that = refl
one_rest base s earlier filters [] (f ∷ fs) lines this that =
    absurd (none_left s.out f.kind f.reply f.session f.index (lines_of fs) this.owed
    (may_end base s earlier f f.kind that.run.0) lines)
one_rest base s earlier filters (e ∷ es) [] lines this that =
    absurd (none_left s.out e.kind e.reply e.session e.index (lines_of es) that.owed (may_end base s earlier e e.kind this.run.0)
    (sym lines))
one_rest base s earlier filters (e ∷ es) (f ∷ fs) lines this that =
    let same = same_next base s earlier filters e f e.kind f.kind es fs (lines_of es) (lines_of fs) lines
    (next_of base s earlier filters e es this) (next_of base s earlier filters f fs that) in
    let session : e.session ≡ f.session = this.first.0 ∙ sym that.first.0 in
    let is : e ≡ f = λ i. record { session = session i; index = same.index i; kind = same.kind i; reply = same.reply i } in
    let P : Entry → Type 0 = λ x. IsRest base s earlier filters (x ∷ fs) in
    let Q : Entry → Type 0 = λ x. lines_of (e ∷ es) ≡ lines_of (x ∷ fs) in
    let rest : es ≡ fs = one_rest base (after_entry base s e) (earlier ++ e ∷ []) (filters_after filters e.kind e.reply) es fs
    (lines_then e.kind (lines_of es) (lines_of fs) (subst Q (sym is) lines))
    (rest_of base s earlier filters e es this)
    (rest_of base s earlier filters e fs (subst P (sym is) that)) in
    λ i. is i ∷ rest i

-- ---- a whole history

-- all entries are those of the first session
pub all_mine : (es : List Entry) → AllByRecursion (λ e. e.session ≡ 0) es → mine es 0 ≡ es
all_mine [] all = refl
all_mine (e ∷ es) all =
    ap (λ n. cond (n == 0) (e ∷ mine es 0) (mine es 0)) all.0 ∙ ap (λ xs. e ∷ xs) (all_mine es all.1)
