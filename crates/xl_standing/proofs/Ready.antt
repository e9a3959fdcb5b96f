-- What stands after a history can answer a call.
use Rattle.std.proofs.Common.{ℕ, List, arith}
use Rattle.spec_document.specs.Document.{Document}
use Rattle.spec_history.specs.History.{Entry}
use Rattle.spec_standing.specs.Now.{Now, Stands}
use Rattle.spec_standing.proofs.GoesOn.{few-versions, kept-stands}
use Rattle.spec_standing.proofs.Ids.{has_ids}
use Rattle.xl_standing.specs.Answering.{MayGoOn}

pub may_go_on : (base : Document) (entries : List Entry) (now : Now) (made : List ℕ) → Stands base entries now made → MayGoOn now
may_go_on base entries now made stands =
    let few = few-versions base entries now made stands in
    let groups = stands.groups in
    let most = stands.few in
    record {
      kept = kept-stands base entries now made stands;
      versions = omega (arith, few);
      groups = omega (arith, groups, most);
      ids = has_ids base entries now made stands;
    }
