-- Edits that no rule refuses.
use Rattle.std.proofs.Common.{◌≡◌, ℕ, ◌+◌, ◌^◌, true, false, cond, List, [], refl, sym, ◌∙◌, subst, arith}
use Rattle.std.specs.Prelude.{Option, Some, None, Result, Ok}
use Rattle.spec_document.specs.Document.{Document, Nodes, Channel}
use Rattle.spec_document.specs.Limits.{IsDocument}
use Rattle.spec_edit.specs.declared.EditRefused.{EditRefused}
use Rattle.spec_edit.specs.Edit.{Edit, IsEdit}
use Rattle.spec_edit.specs.Refusal.{refusal}
use Rattle.spec_edit.specs.Effect.{effect, makes_node}
use Rattle.spec_edit.specs.Apply as edits
use Rattle.spec_edit.specs.Apply.{At}
use Rattle.spec_edit.proofs.EditsLimited.{keeps}
use Rattle.xl_paint.specs.declared.refused.EditRefusedOrMemory.{EditRefusedOrMemory}
use Rattle.xl_paint.specs.Applied.{at, Applies, Makes, MakesBy}
use Rattle.xl_checks.specs.Found.{outcome}
use Rattle.xl_edit.specs.Kept.{KeepsLimits}

-- what is not refused has no cause
pub not_refused : (o : Option EditRefused) → Ok tt ≡ outcome o → o ≡ None
not_refused None e = refl
not_refused (Some cause) e = cc

-- the document is what the edit makes of it
pub made : (d new : Document) (e : Edit) → makes_node e ≡ false → refusal d e ≡ None
    → ((table : List ℕ) (next : ℕ) → effect d next table e ≡ new) → Makes d new e (Ok tt)
made d new e plain allowed is =
    λ table next i. edits.unless_refused (allowed i) (at (is table next i) (cond (plain i) (next + 1) next))

-- the edit is the one that it stands for, and the next id stays
pub made_by : (d new : Document) (next : ℕ) (table : List ℕ) (e f : Edit) (result : Result (Unit {0}) EditRefusedOrMemory) → e ≡ f
    → MakesBy table d new f result
    → Applies (at d next) (at new next) e table result
made_by d new next table e f result is h =
    let P : Edit → Type 0 = λ x. Applies (at d next) (at new next) x table result in subst P (sym is) (h next)

-- the edit is the one that it stands for
pub any_made : (old new : At) (table : List ℕ) (e f : Edit) (result : Result (Unit {0}) EditRefusedOrMemory) → e ≡ f
    → Applies old new f table result → Applies old new e table result
any_made old new table e f result is h = let P : Edit → Type 0 = λ x. Applies old new x table result in subst P (sym is) h

-- A document is still within its limits. Any next id does that is above all ids, and these are words.
pub limits_after : (d : Document) (e : Edit) → IsEdit e → makes_node e ≡ false → refusal d e ≡ None
    → KeepsLimits d (effect d (2 ^ 32) [] e)
limits_after d e kept plain allowed is =
    (keeps d (2 ^ 32) [] e (record { document = is; positive = omega arith; below = is.ids.word }) kept tt
    (λ makes. let wrong : false ≡ true = sym plain ∙ makes in cc) allowed).at.document

-- A change of the nodes keeps the limits. The document is seen as its fields, and as what they stand for.
pub limits_kept : (before d : Document) (change : Nodes → Nodes) (nodes : Nodes) → before ≡ d → IsDocument before
    → KeepsLimits d (record d { nodes = change d.nodes })
    → nodes ≡ change before.nodes → IsDocument (record before { nodes = nodes })
limits_kept before d change nodes same is kept e =
    let P : Document → Type 0 = λ x. KeepsLimits x (record x { nodes = change x.nodes }) in
    let Q : Nodes → Type 0 = λ ns. IsDocument (record before { nodes = ns }) in
    subst Q (sym e) (subst P (sym same) kept is)

-- the same of a change of the channels
pub limits_of_channels : (before d : Document) (change : List Channel → List Channel) (channels : List Channel) → before ≡ d
    → IsDocument before → KeepsLimits d (record d { channels = change d.channels })
    → channels ≡ change before.channels → IsDocument (record before { channels = channels })
limits_of_channels before d change channels same is kept e =
    let P : Document → Type 0 = λ x. KeepsLimits x (record x { channels = change x.channels }) in
    let Q : List Channel → Type 0 = λ cs. IsDocument (record before { channels = cs }) in
    subst Q (sym e) (subst P (sym same) kept is)

-- the same of any change of the document
pub limits_set : (before d : Document) (set : Document → Document) → before ≡ d → IsDocument before → KeepsLimits d (set d)
    → IsDocument (set before)
limits_set before d set same is kept =
    let P : Document → Type 0 = λ x. KeepsLimits x (set x) in
    subst P (sym same) kept is
