-- The rules come in three parts, each after the last.
use Rattle.std.proofs.Common.{rules, ◌≡◌, ◌+◌, ◌*◌, ◌==◌, List, [], ◌∷◌, ◌++◌, Some, None, sym, ◌∙◌}
use Rattle.std.specs.Prelude.{Option}
use Rattle.std.proofs.lemmas.Result.{IfErr-weaker}
use Rattle.spec_document.specs.Forest.{size}
use Rattle.spec_document.specs.Document.{area, base_code, base_of_kind}
use Rattle.spec_edit.specs.declared.EditRefused.{EditRefused}
use Rattle.spec_edit.specs.declared.EditRefused.TheVariants.{OtherType}
use Rattle.spec_edit.specs.Refusal.{first, unless, offset_range, no_parent, not_group, bad_place, bad_name, too_deep}
use Rattle.spec_edit.specs.Refusal.{too_many, too_large}
use Rattle.spec_document.specs.declared.TheConstants.{MAX_NODES}
use Rattle.xl_checks.proofs.RulesInTurn.{then_first, stops}
use Rattle.xl_checks.proofs.checks.check_new_layer.Goals as goal

pub returns-in-Err-clause-refused : goal.returns-in-Err-clause-refused
returns-in-Err-clause-refused c =
    let a = c.args in
    let d = c.args.doc.now in
    let spot : List (Option EditRefused) =
    no_parent d a.parent.0 ∷ not_group d a.parent.0 ∷ bad_place d.nodes a.parent.0 a.place ∷ [] in
    let shape : List (Option EditRefused) =
    offset_range a.shape.x a.shape.y ∷ unless (base_of_kind a.shape.kind == base_code d.base) OtherType ∷ [] in
    let room : List (Option EditRefused) =
    bad_name a.name.now ∷ too_deep d.nodes a.parent.0 1 ∷ too_many (size d.nodes + 1) MAX_NODES ∷ too_large (area d + a.shape.w * a.shape.h)
    ∷ [] in
    let fails : first (offset_range a.shape.x a.shape.y ∷ unless (base_of_kind a.shape.kind == base_code d.base) OtherType ∷ [])
    ≡ Some c.in-Err.cause = search rules in
    then_first spot (shape ++ room) c.in_ok-check_spot.ensures.allowed ∙ stops shape room c.in-Err.cause fails

pub returns-clause-refused : goal.returns-clause-refused
returns-clause-refused c =
    let a = c.args in
    let d = c.args.doc.now in
    let spot : List (Option EditRefused) =
    no_parent d a.parent.0 ∷ not_group d a.parent.0 ∷ bad_place d.nodes a.parent.0 a.place ∷ [] in
    let shape : List (Option EditRefused) =
    offset_range a.shape.x a.shape.y ∷ unless (base_of_kind a.shape.kind == base_code d.base) OtherType ∷ [] in
    let room : List (Option EditRefused) =
    bad_name a.name.now ∷ too_deep d.nodes a.parent.0 1 ∷ too_many (size d.nodes + 1) MAX_NODES ∷ too_large (area d + a.shape.w * a.shape.h)
    ∷ [] in
    let holds : first (offset_range a.shape.x a.shape.y ∷ unless (base_of_kind a.shape.kind == base_code d.base) OtherType ∷ []) ≡ None =
    search rules in
    let w_is : c.from.result ≡ a.shape.w = search rules in
    let h_is : c.from-2.result ≡ a.shape.h = search rules in
    let same : first room ≡ first (bad_name a.name.now ∷ too_deep d.nodes a.parent.0 1 ∷ too_many (size d.nodes + 1) MAX_NODES
    ∷ too_large (area d + c.from.result * c.from-2.result) ∷ []) =
    λ i. first (bad_name a.name.now ∷ too_deep d.nodes a.parent.0 1 ∷ too_many (size d.nodes + 1) MAX_NODES
    ∷ too_large (area d + sym w_is i * sym h_is i) ∷ []) in
    IfErr-weaker c.check_room.result _ _
    (λ cause e. then_first spot (shape ++ room) c.in_ok-check_spot.ensures.allowed
    ∙ (then_first shape room holds ∙ (same ∙ e))) c.check_room.ensures.refused
