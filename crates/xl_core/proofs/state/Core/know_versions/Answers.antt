use Rattle.std.proofs.Common.{ℕ, ◌≤◌, List, length, subst, arith}
use Rattle.spec_document.specs.Document.{Document}
use Rattle.spec_document.specs.Limits.{IsDocument}
use Rattle.spec_history.specs.declared.TheConstants.{MAX_ENTRIES}
use Rattle.spec_history.specs.History.{Entry, document_of}
use Rattle.spec_history.proofs.CallsHaveEdits.{calls_have_edits, calls_are_short}
use Rattle.spec_history.proofs.VersionsLimited.{short_version}
use Rattle.xl_history.specs.Editing.{Editing}
use Rattle.spec_standing.specs.Now.{Now, Stands}
use Rattle.xl_core.proofs.state.Core.know_versions.Goals as goal

each_within : (base : Document) (entries : List Entry) (now : Now) (made : List ℕ) → Stands base entries now made → (number : ℕ)
    → IsDocument (document_of base entries number)
each_within base entries now made stands number =
    let kept = stands.few in
    let few : length entries ≤ MAX_ENTRIES = omega arith in
    short_version base entries number stands.within stands.small (calls_have_edits entries stands.legal.calls)
    (calls_are_short entries stands.legal.calls) few

pub returns : goal.returns
returns g c =
    subst (λ (e : Editing _). (number : ℕ) → IsDocument (document_of e.history.base e.history.entries number)) c.self.view_is
    (each_within c.self.inside.base c.self.inside.entries.items c.self.inside.standing c.self.inside.made c.self.invariant.0)
