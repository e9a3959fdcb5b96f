-- Which edit of a group is refused is the same with any tables.
use Rattle.std.proofs.Common.{◌≡◌, ℕ, suc, ◌+◌, List, [], ◌∷◌, refl, sym, ◌∙◌, ap}
use Rattle.std.specs.Prelude.{if◌then◌else◌, Option, Some, None, Result}
use Rattle.spec_document.specs.Document.{Document}
use Rattle.spec_edit.specs.declared.EditRefused.{EditRefused}
use Rattle.spec_edit.specs.Edit.{Edit}
use Rattle.spec_edit.specs.Refusal.{refusal}
use Rattle.spec_edit.specs.Effect.{effect, makes_node}
use Rattle.spec_edit.specs.Apply.{At, Refused, unless_refused, after, apply_from, is_filter, first_table, other_tables}
use Rattle.spec_tables.specs.Acceptance.{refused_in}
use Rattle.spec_tables.proofs.Bare.{bare}
use Rattle.spec_tables.proofs.BareEdits.{effect-bare}
use Rattle.spec_tables.proofs.BareRules.{refusal-bare}

-- the edit is refused in both, or what comes after it decides
step : (r q : Option EditRefused) (index : ℕ) (m n : At) (j k : At → Result At Refused) → r ≡ q
    → refused_in (j m) ≡ refused_in (k n)
    → refused_in (after index (unless_refused r m) j) ≡ refused_in (after index (unless_refused q n) k)
step None None index m n j k same rest = rest
step None (Some q) index m n j k same rest = cc
step (Some r) None index m n j k same rest = cc
step (Some r) (Some q) index m n j k same rest = let e : r ≡ q = cc in λ i. Some (record { index = index; cause = e i })

same_rules : (d c : Document) (e : Edit) → bare d ≡ bare c → refusal d e ≡ refusal c e
same_rules d c e same = sym (refusal-bare d e) ∙ (ap (λ x. refusal x e) same ∙ refusal-bare c e)

same_effect : (d c : Document) (m n : ℕ) (table other : List ℕ) (e : Edit) → bare d ≡ bare c → m ≡ n
    → bare (effect d m table e) ≡ bare (effect c n other e)
same_effect d c m n table other e same next =
    effect-bare d m table [] e ∙ ((λ i. bare (effect (same i) (next i) [] e)) ∙ sym (effect-bare c n other [] e))

pub same_refused : (index : ℕ) (old new : At) (edits : List Edit) (tables others : List (List ℕ))
    → bare old.document ≡ bare new.document → old.next ≡ new.next
    → refused_in (apply_from index old edits tables) ≡ refused_in (apply_from index new edits others)
same_refused index old new [] tables others same next = refl
same_refused index old new (e ∷ es) tables others same next =
    let table = first_table tables in
    let other = first_table others in
    let m : At = record {
      document = effect old.document old.next table e;
      next =
          if makes_node e then old.next + 1 else old.next;
    } in
    let n : At = record {
      document = effect new.document new.next other e;
      next =
          if makes_node e then new.next + 1 else new.next;
    } in
    let more = if is_filter e then other_tables tables else tables in
    let rest = if is_filter e then other_tables others else others in
    step (refusal old.document e) (refusal new.document e) index m n (λ mid. apply_from (suc index) mid es more)
    (λ mid. apply_from (suc index) mid es rest)
    (same_rules old.document new.document e same)
    (same_refused (suc index) m n es more rest (same_effect old.document new.document old.next new.next table other e same next)
    (ap (λ k. if makes_node e then k + 1 else k) next))
