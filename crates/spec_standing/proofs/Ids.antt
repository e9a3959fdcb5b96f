-- The next id of what stands is above all its ids, and leaves room for the nodes that a group makes.
use Rattle.std.proofs.Common.{ℕ, ◌≤◌, List, length, sym, subst, arith}
use Rattle.spec_document.specs.Document.{Document}
use Rattle.spec_history.specs.Machine.{latest}
use Rattle.spec_history.specs.History.{Entry, replay}
use Rattle.spec_history.specs.declared.TheConstants.{MAX_EDITS, MAX_ENTRIES}
use Rattle.spec_history.proofs.CallsHaveEdits.{calls_have_edits, calls_are_short}
use Rattle.spec_history.proofs.VersionsLimited.{short_asks, short_next, version_below}
use Rattle.spec_standing.specs.Now.{Now, at_now, now_of, Stands}
use Rattle.spec_standing.specs.Group.{HasIds}

pub has_ids : (base : Document) (entries : List Entry) (now : Now) (made : List ℕ) → Stands base entries now made
    → HasIds (at_now now) MAX_EDITS
has_ids base entries now made stands =
    let P : Now → Type 0 = λ n. HasIds (at_now n) MAX_EDITS in
    let s = replay base entries in
    let are = calls_have_edits entries stands.legal.calls in
    let short = calls_are_short entries stands.legal.calls in
    let kept = stands.few in
    let few : length entries ≤ MAX_ENTRIES = omega arith in
    let asks = short_asks base entries stands.small short few in
    let most = short_next base entries stands.within stands.small are short few in
    let there : HasIds (at_now (now_of base s now.cache)) MAX_EDITS = record {
      is = version_below base entries (latest s) stands.within are (omega (arith, asks));
      room = omega (arith, most);
    } in
    subst P (sym stands.is_now) there
