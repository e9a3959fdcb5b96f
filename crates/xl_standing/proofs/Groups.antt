-- How far the edits of a group are applied.
use Rattle.std.proofs.Common.{◌≡◌, ℕ, suc, ◌+◌, ◌-◌, ◌<◌, ◌≤◌, Bool, true, false, cond, List, [], ◌∷◌, ◌++◌, inl, inr}
use Rattle.std.proofs.Common.{length, drop, get_or, refl, sym, ◌∙◌, ap, subst, arith, lit≤, add-one, append_assoc}
use Rattle.std.specs.Prelude.{Option, Some, None, Result, Ok, Err}
use Rattle.std.specs.List.{AllByRecursion}
use Rattle.std.proofs.lemmas.List.{append-nil, drop_more, drop_all}
use Rattle.spec_document.specs.Limits.{AreBytes}
use Rattle.spec_edit.specs.declared.EditRefused.{EditRefused}
use Rattle.spec_edit.specs.Edit as edits
use Rattle.spec_edit.specs.Edit.{IsEdit}
use Rattle.spec_edit.specs.Limited.{IsAt}
use Rattle.spec_edit.specs.Refusal.{refusal}
use Rattle.spec_edit.specs.Effect.{effect, makes_node}
use Rattle.spec_damage.specs.Damage as pairs
use Rattle.spec_damage.specs.Damage.{Pair}
use Rattle.spec_edit.specs.Apply.{At, unless_refused, apply, is_filter, first_table, other_tables, after, apply_from, apply_group}
use Rattle.spec_edit.proofs.EditsLimited.{apply_goes, next_counts}
use Rattle.spec_tables.specs.Acceptance.{filter_count}
use Rattle.spec_tables.proofs.Asked.{view}
use Rattle.xl_damage.specs.Between.{IsMade}
use Rattle.spec_standing.specs.Group.{HasIds, damage_along}
use Rattle.xl_calls.specs.declared.edit.Edit.{Edit}
use Rattle.xl_calls.specs.Applicable.{HasNext}
use Rattle.xl_calls.specs.Edits.{edit_of, edits_of}
use Rattle.xl_desk.proofs.AskedSoFar.{front}

-- the edits that are left come to the same from here as all of them from the start, with the tables that are left
pub record IsUnderWay (old now : At) (edits : List Edit) (tables : List (List ℕ)) (index taken : ℕ)
    (damage : List Pair) : Type 0 where
  pub same : apply_from index now (edits_of (drop index edits)) (drop taken tables) ≡ apply_group old (edits_of edits) tables
  pub each : AllByRecursion IsEdit (edits_of (drop index edits))
  pub ids : HasIds now (length edits - index)
  pub enough : taken + filter_count (edits_of (drop index edits)) ≡ length tables
  pub along : damage ++ damage_along now (edits_of (drop index edits)) (drop taken tables)
      ≡ damage_along old (edits_of edits) tables
  pub first : index ≡ 0 → now.document ≡ old.document

pub begins : (old : At) (edits : List Edit) (tables : List (List ℕ)) (damage : List Pair) → damage ≡ []
    → AllByRecursion IsEdit (edits_of edits) → HasIds old (length edits)
    → length tables ≡ filter_count (edits_of edits) → IsUnderWay old old edits tables 0 0 damage
begins old edits tables damage none each ids enough =
    let all : length edits ≡ length edits - 0 = omega arith in
    record {
      same = refl;
      each = each;
      ids = subst (HasIds old) all ids;
      enough = omega (arith, enough);
      along =
          ap (λ d. d ++ damage_along old (edits_of edits) tables) none;
      first = λ e. refl;
    }

pub next_is_edit : (old now : At) (edits : List Edit) (tables : List (List ℕ)) (index taken : ℕ) (damage : List Pair) (e : Edit)
    → IsUnderWay old now edits tables index taken damage
    → index < length edits → e ≡ get_or edits index e → IsEdit (edit_of e)
next_is_edit old now edits tables index taken damage e way inside is =
    let P : List Edit → Type 0 = λ left. AllByRecursion IsEdit (edits_of left) in
    (subst P (front edits index e inside is) way.each).0

-- the next edit has an id to take
pub next_has_id : (old now : At) (edits : List Edit) (tables : List (List ℕ)) (index taken : ℕ) (damage : List Pair) (e : Edit)
    → IsUnderWay old now edits tables index taken damage
    → index < length edits → HasNext now.document now.next (edit_of e)
next_has_id old now edits tables index taken damage e way inside =
    let room = way.ids.room in
    record { positive = way.ids.is.positive; below = way.ids.is.below; another = λ makes. omega arith }

-- how many tables are left for an edit and those behind it
left_for : (edits : List Edit) (tables : List (List ℕ)) (index taken : ℕ) (e : Edit)
    → taken + filter_count (edits_of (drop index edits)) ≡ length tables
    → index < length edits → e ≡ get_or edits index e
    → taken + (cond (is_filter (edit_of e)) 1 0 + filter_count (edits_of (drop (index + 1) edits))) ≡ length tables
left_for edits tables index taken e enough inside is =
    ap (λ left. taken + filter_count (edits_of left)) (sym (front edits index e inside is)) ∙ enough

-- the next edit has a table, where it takes one
pub next_has_table : (old now : At) (edits : List Edit) (tables : List (List ℕ)) (index taken : ℕ) (damage : List Pair) (e : Edit)
    → IsUnderWay old now edits tables index taken damage
    → index < length edits → e ≡ get_or edits index e → taken + cond (is_filter (edit_of e)) 1 0 ≤ length tables
next_has_table old now edits tables index taken damage e way inside is =
    let left = left_for edits tables index taken e way.enough inside is in
    omega (arith, left)

at_most_one : (b : Bool) → cond b 1 0 ≤ 1
at_most_one true = lit≤ tt
at_most_one false = lit≤ tt

-- the ids after an edit that was accepted
ids_go_on : (now new : At) (e : edits.Edit) (table : List ℕ) (left : ℕ) → HasIds now (left + 1) → IsEdit e → AreBytes table
    → apply now e table ≡ Ok new → HasIds new left
ids_go_on now new e table left ids is bytes applied =
    let room = ids.room in
    let goes = apply_goes now new e table ids.is is bytes (λ makes. omega arith) applied in
    let counts = next_counts (makes_node e) now.next in
    let one : cond (makes_node e) 1 0 ≤ 1 = at_most_one (makes_node e) in
    record { is = goes.at; room = omega (arith, goes.next_is, counts, one) }

-- a table that is taken where the edit is a filter is the first one, as far as the edit is concerned
pub same_table : (now : At) (e : edits.Edit) (table : List ℕ) (tables : List (List ℕ))
    → (is_filter e ≡ true → table ≡ first_table tables) → apply now e table ≡ apply now e (first_table tables)
same_table now e table tables is = elim (view e) [
  | inl f ↦ ap (apply now e) (is (ap is_filter f.is))
  | inr p ↦ p.any_table now table (first_table tables)
]

others : (tables : List (List ℕ)) (taken : ℕ) → taken < length tables → other_tables (drop taken tables) ≡ drop (taken + 1) tables
others tables taken inside = ap other_tables (drop_more tables taken [] inside)

-- the tables that are left behind an edit
rest_of : (b : Bool) (tables : List (List ℕ)) (taken : ℕ) → taken + cond b 1 0 ≤ length tables
    → cond b (other_tables (drop taken tables)) (drop taken tables) ≡ drop (taken + cond b 1 0) tables
rest_of true tables taken fits = others tables taken (omega (arith, fits))
rest_of false tables taken fits = let same : taken ≡ taken + 0 = omega arith in ap (λ n. drop n tables) same

-- what is left from an edit on
from_edit : (index : ℕ) (now : At) (e : edits.Edit) (left : List edits.Edit) (tables : List (List ℕ)) (table : List ℕ)
    (r : Result At EditRefused)
    → (is_filter e ≡ true → table ≡ first_table tables) → apply now e table ≡ r
    → apply_from index now (e ∷ left) tables
    ≡ after index r (λ mid. apply_from (suc index) mid left (cond (is_filter e) (other_tables tables) tables))
from_edit index now e left tables table r is came =
    ap (λ x. after index x (λ mid. apply_from (suc index) mid left (cond (is_filter e) (other_tables tables) tables)))
    (sym (same_table now e table tables is) ∙ came)

-- what an edit that was accepted makes
pub applied_is : (r : Option EditRefused) (made new : At) → unless_refused r made ≡ Ok new → (r ≡ None) × (made ≡ new)
applied_is None made new e = let same : made ≡ new = cc in (refl, same)
applied_is (Some refused) made new e = cc

-- the damage of an edit and of those behind it
along_edit : (now new : At) (e : edits.Edit) (left : List edits.Edit) (tables others : List (List ℕ)) (table : List ℕ)
    → (is_filter e ≡ true → table ≡ first_table tables) → apply now e table ≡ Ok new
    → cond (is_filter e) (other_tables tables) tables ≡ others
    → damage_along now (e ∷ left) tables ≡ pairs.damage now.document e ++ damage_along new left others
along_edit now new e left tables others table is came behind =
    let mid : At = record {
      document = effect now.document now.next (first_table tables) e;
      next =
          cond (makes_node e) (now.next + 1) now.next;
    } in
    let made : mid ≡ new = (applied_is (refusal now.document e) mid new (sym (same_table now e table tables is) ∙ came)).1 in
    λ i. pairs.damage now.document e ++ damage_along (made i) left (behind i)

-- an edit that is applied was not refused, and made its effect
pub accepts : (now new : At) (e : edits.Edit) (table : List ℕ) → apply now e table ≡ Ok new → refusal now.document e ≡ None
accepts now new e table came =
    (applied_is (refusal now.document e)
    (record { document = effect now.document now.next table e; next = cond (makes_node e) (now.next + 1) now.next }) new came).0

pub makes : (now new : At) (e : edits.Edit) (table : List ℕ) → apply now e table ≡ Ok new
    → IsMade now.document new.document now.next e
makes now new e table came =
    let made = (applied_is (refusal now.document e)
    (record { document = effect now.document now.next table e; next = cond (makes_node e) (now.next + 1) now.next }) new
    came).1 in
    (table, ap (λ a. a.document) (sym made))

-- behind an edit nothing is before the first one
not_first : {A : Type 0} (index : ℕ) (a b : A) → index + 1 ≡ 0 → a ≡ b
not_first index a b e = let wrong : suc index ≡ 0 = sym (add-one index) ∙ e in cc

-- an edit that was accepted
pub goes_on : (old now new : At) (edits : List Edit) (tables : List (List ℕ)) (index taken : ℕ) (damage : List Pair) (e : Edit)
    (table : List ℕ) → IsUnderWay old now edits tables index taken damage
    → index < length edits → e ≡ get_or edits index e → (is_filter (edit_of e) ≡ true → table ≡ first_table (drop taken tables))
    → AreBytes table
    → apply now (edit_of e) table ≡ Ok new
    → IsUnderWay old new edits tables (index + 1) (taken + cond (is_filter (edit_of e)) 1 0) (damage
    ++ pairs.damage now.document (edit_of e))
goes_on old now new edits tables index taken damage e table way inside is table_is bytes applied =
    let left = edits_of (drop (index + 1) edits) in
    let more = cond (is_filter (edit_of e)) 1 0 in
    let P : List Edit → Type 0 = λ rest. AllByRecursion IsEdit (edits_of rest) in
    let ids : HasIds now ((length edits - (index + 1)) + 1) = subst (HasIds now) (omega (arith, inside)) way.ids in
    let one : apply_from index now (edits_of (drop index edits)) (drop taken tables)
    ≡ apply_from index now (edit_of e ∷ left) (drop taken tables) =
    ap (λ rest. apply_from index now (edits_of rest) (drop taken tables)) (front edits index e inside is) in
    let behind = rest_of (is_filter (edit_of e)) tables taken
    (next_has_table old now edits tables index taken damage e way inside is) in
    let then : apply_from (index + 1) new left (drop (taken + more) tables)
    ≡ apply_from (suc index) new left (cond (is_filter (edit_of e)) (other_tables (drop taken tables)) (drop taken tables)) =
    λ i. apply_from (add-one index i) new left (sym behind i) in
    let enough = left_for edits tables index taken e way.enough inside is in
    record {
      same =
          then ∙ (sym (one ∙ from_edit index now (edit_of e) left (drop taken tables) table (Ok new) table_is applied) ∙ way.same);
      each = (subst P (front edits index e inside is) way.each).1;
      ids = ids_go_on now new (edit_of e) table (length edits - (index + 1)) ids
          (next_is_edit old now edits tables index taken damage e way inside is) bytes applied;
      enough = omega (arith, enough);
      along = append_assoc damage (pairs.damage now.document (edit_of e)) (damage_along new left (drop (taken + more) tables))
          ∙ (ap (λ rest. damage ++ rest) (sym
          (along_edit now new (edit_of e) left (drop taken tables) (drop (taken + more) tables) table table_is applied behind))
          ∙ (ap (λ rest. damage ++ damage_along now (edits_of rest) (drop taken tables)) (sym (front edits index e inside is))
          ∙ way.along));
      first = not_first index new.document old.document;
    }

-- an edit that is refused
pub stops : (old now : At) (edits : List Edit) (tables : List (List ℕ)) (index taken : ℕ) (damage : List Pair) (e : Edit)
    (table : List ℕ) (cause : EditRefused) → IsUnderWay old now edits tables index taken damage
    → index < length edits → e ≡ get_or edits index e → (is_filter (edit_of e) ≡ true → table ≡ first_table (drop taken tables))
    → apply now (edit_of e) table ≡ Err cause
    → apply_group old (edits_of edits) tables ≡ Err (record { index = index; cause = cause })
stops old now edits tables index taken damage e table cause way inside is table_is refused =
    let left = edits_of (drop (index + 1) edits) in
    sym way.same
    ∙ (ap (λ rest. apply_from index now (edits_of rest) (drop taken tables)) (front edits index e inside is)
    ∙ from_edit index now (edit_of e) left (drop taken tables) table (Err cause) table_is refused)

-- no edit is left
pub is_done : (old now : At) (edits : List Edit) (tables : List (List ℕ)) (index taken : ℕ) (damage : List Pair)
    → IsUnderWay old now edits tables index taken damage → length edits ≤ index
    → apply_group old (edits_of edits) tables ≡ Ok now
is_done old now edits tables index taken damage way past =
    sym way.same ∙ ap (λ rest. apply_from index now (edits_of rest) (drop taken tables)) (drop_all index edits past)

pub is_damaged : (old now : At) (edits : List Edit) (tables : List (List ℕ)) (index taken : ℕ) (damage : List Pair)
    → IsUnderWay old now edits tables index taken damage → length edits ≤ index
    → damage ≡ damage_along old (edits_of edits) tables
is_damaged old now edits tables index taken damage way past =
    sym (append-nil damage) ∙ (ap (λ rest. damage
    ++ damage_along now (edits_of rest) (drop taken tables)) (sym (drop_all index edits past)) ∙ way.along)

pub is_within : (old now : At) (edits : List Edit) (tables : List (List ℕ)) (index taken : ℕ) (damage : List Pair)
    → IsUnderWay old now edits tables index taken damage → IsAt now
is_within old now edits tables index taken damage way = way.ids.is

-- before the first edit the document is the one from the start
pub is_first : (old now : At) (edits : List Edit) (tables : List (List ℕ)) (index taken : ℕ) (damage : List Pair)
    → IsUnderWay old now edits tables index taken damage → index ≡ 0 → now.document ≡ old.document
is_first old now edits tables index taken damage way = way.first
