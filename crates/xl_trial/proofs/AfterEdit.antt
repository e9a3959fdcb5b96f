-- An edit that is not refused makes of a document what its effect is.
use Rattle.std.specs.Prelude.{◌≡◌, ℕ, ◌+◌, ◌-◌, ◌<◌, ◌^◌, true, max, fold, List, Option, Some, None, if◌then◌else◌, Ok, Err}
use Rattle.std.proofs.Common.{ap, sym, ◌∙◌, subst, arith}
use Rattle.std.specs.List.{AllByRecursion}
use Rattle.spec_document.specs.Forest.{Forest, ids}
use Rattle.spec_document.specs.Document.{Document}
use Rattle.spec_document.specs.Ids.{next_id}
use Rattle.spec_damage.proofs.NewEdits.{next_above}
use Rattle.spec_edit.specs.declared.EditRefused.{EditRefused}
use Rattle.spec_edit.specs.Edit.{Edit}
use Rattle.spec_edit.specs.Refusal.{refusal}
use Rattle.spec_edit.specs.Effect.{effect, makes_node}
use Rattle.spec_edit.specs.Apply.{At, apply, unless_refused}
use Rattle.spec_edit.proofs.EditsLimited.{applied}
use Rattle.xl_damage.specs.Between.{IsMade}
use Rattle.xl_doc.specs.declared.node.Node.{Node}
use Rattle.xl_doc.specs.Nodes.{nodes_of}
use Rattle.xl_paint.specs.Applied.{at}
use Rattle.xl_calls.specs.Applicable.{HasNext}
use Rattle.xl_checks.proofs.Seen.{ids-nodes_of}

-- the document after it
pub after_edit : (d : Document) (next : ℕ) (edit : Edit) (table : List ℕ) (new : At) → apply (at d next) edit table ≡ Ok new
    → IsMade d new.document next edit
after_edit d next edit table new e =
    let made : At = record { document = effect d next table edit; next = if makes_node edit then next + 1 else next } in
    (table, sym (ap (λ (a : At). a.document) (applied (refusal d edit) made new e).is))

-- it is not refused
pub not_refused : (o : Option EditRefused) (made : At) (cause : EditRefused) → o ≡ None → unless_refused o made ≡ Err cause → ⊥
not_refused None made cause none e = cc
not_refused (Some why) made cause none e = cc

-- the number above the greatest id of its tree
pub next_is : (seen d : Document) (tree : Forest Node Node) (greatest : ℕ) → greatest ≡ fold max 0 (ids tree)
    → seen.nodes ≡ nodes_of tree → seen ≡ d → greatest + 1 ≡ next_id d
next_is seen d tree greatest is nodes view =
    let same : greatest ≡ fold max 0 (ids d.nodes) =
    is ∙ (ap (fold max 0) (sym (ids-nodes_of tree) ∙ sym (ap ids nodes)) ∙ ap (λ (v : Document). fold max 0 (ids v.nodes)) view) in
    omega (arith, same)

pub above : (d : Document) (next : ℕ) → next ≡ next_id d → AllByRecursion (λ id. id < next) (ids d.nodes)
above d next is = subst (λ n. AllByRecursion (λ id. id < n) (ids d.nodes)) (sym is) (next_above d)

pub has_next : (d after : Document) (next : ℕ) (edit : Edit) → after ≡ d → next ≡ next_id d
    → (makes_node edit ≡ true → next_id d < 2 ^ 32 - 1) → HasNext after next edit
has_next d after next edit same is another =
    subst (λ a. HasNext a next edit) (sym same) (record {
      positive = omega (arith, is);
      below = above d next is;
      another = λ makes. let room = another makes in omega (arith, is, room);
    })
