-- The nodes of what a file of bytes holds are numbered.
use Rattle.std.proofs.Common.{ℕ, ◌+◌, ◌*◌, ◌≤◌, List, [], ◌∷◌, length, ap, sym, subst, arith}
use Rattle.std.specs.List.{AllByRecursion}
use Rattle.spec_document.specs.Forest.{size, ids}
use Rattle.spec_document.specs.Document.{Document}
use Rattle.spec_document.specs.Limits.{AreBytes}
use Rattle.spec_file.specs.Reading.{blank}
use Rattle.spec_file.specs.Holds.{Holds}
use Rattle.spec_file.proofs.ForestGrows.{AreUpTo, none_up_to}
use Rattle.spec_file.proofs.NodesWithin.{IsGrown, nodes_within}
use Rattle.spec_file.proofs.ChannelsWithin.{HasSheets, channels_within}
use Rattle.spec_file.proofs.HeldDocument.{held_document}
use Rattle.xl_doc.specs.Numbered.{AreNumbered}

within : (n : ℕ) (xs : List ℕ) → AllByRecursion (λ id. (1 ≤ id) × (id ≤ n)) xs → AllByRecursion (λ id. id ≤ n) xs
within n [] h = tt
within n (x ∷ xs) h = (h.0.1, within n xs h.1)

-- the ids are at most the number of nodes
up_to_size : (file : List ℕ) (d : Document) → AreBytes file → Holds file d → AreUpTo (size d.nodes) (ids d.nodes)
up_to_size file d all h =
    let start = blank h.header h.props in
    let none_yet : IsGrown start = record { nodes = tt; ids = none_up_to 0; low = omega arith } in
    let nodes = nodes_within file h.layers (h.props.end + 8) start h.with_layers all none_yet h.add_layers in
    let w = h.with_layers in
    let no_sheets : HasSheets (record start { nodes = w.nodes }) = record { channels = tt; selection = tt } in
    let sheets = channels_within file h.channels (h.props.end + 12 + 4 * length h.layers) w d all
    (subst HasSheets (sym nodes.same) no_sheets) h.add_channels in
    subst (λ x. AreUpTo (size x) (ids x)) (sym (ap (λ x. x.nodes) sheets.1)) nodes.grown.ids

pub numbered_nodes : (file : List ℕ) (d : Document) → AreBytes file → Holds file d → AreNumbered d.nodes
numbered_nodes file d all h =
    let is = held_document file d all h in
    record {
      distinct = is.ids.distinct;
      positive = is.ids.positive;
      within = within (size d.nodes) (ids d.nodes) (up_to_size file d all h).each;
      few = is.few;
    }
