-- What a file of bytes holds is a document.
use Rattle.std.proofs.Common.{◌≡◌, ℕ, ◌+◌, ◌*◌, ◌^◌, ◌<◌, ◌≤◌, List, [], ◌∷◌, length, refl, sym, ◌∙◌, ap, subst, arith}
use Rattle.std.specs.Prelude.{if◌then◌else◌}
use Rattle.std.specs.List.{AllByRecursion}
use Rattle.spec_document.specs.Forest.{size, levels, ids}
use Rattle.spec_document.specs.declared.Base.{Base}
use Rattle.spec_document.specs.declared.Base.TheVariants.{Rgb, Grey, Indexed}
use Rattle.spec_document.specs.declared.Owner.TheVariants.{Image}
use Rattle.spec_document.specs.Document.{Document, is_indexed}
use Rattle.spec_document.specs.Limits.{AreBytes, AreColours, AreKept, AreIds, AreNodes, IsSide, IsColour, IsDocument}
use Rattle.spec_props.specs.Meaning.{colours_of}
use Rattle.spec_props.proofs.Within.{stand, compression_within, colours_within, kept_within}
use Rattle.spec_file.specs.Reading.{blank}
use Rattle.spec_file.specs.Holds.{Holds}
use Rattle.spec_file.proofs.ForestGrows.{AreUpTo, none_up_to}
use Rattle.spec_file.proofs.NodesWithin.{IsGrown, nodes_within}
use Rattle.spec_file.proofs.ChannelsWithin.{HasSheets, channels_within}
use Rattle.spec_document.specs.declared.TheConstants.{MAX_NODES}

colours_are : (base : Base) (colours : List (List ℕ)) → (length colours ≤ 256) × AllByRecursion IsColour colours
    → AreColours base (if is_indexed base then colours else [])
colours_are Rgb colours h = refl
colours_are Grey colours h = refl
colours_are Indexed colours h = h

positive : (n : ℕ) (xs : List ℕ) → AllByRecursion (λ id. (1 ≤ id) × (id ≤ n)) xs → AllByRecursion (λ id. 1 ≤ id) xs
positive n [] h = tt
positive n (x ∷ xs) h = (h.0.0, positive n xs h.1)

words : (n : ℕ) (xs : List ℕ) → n ≤ MAX_NODES → AllByRecursion (λ id. (1 ≤ id) × (id ≤ n)) xs
    → AllByRecursion (λ id. id < 2 ^ 32) xs
words n [] few h = tt
words n (x ∷ xs) few h = (omega (arith, h.0.1, few), words n xs few h.1)

are_ids : (n : ℕ) (xs : List ℕ) → n ≤ MAX_NODES → AreUpTo n xs → AreIds xs
are_ids n xs few h = record { distinct = h.distinct; positive = positive n xs h.each; word = words n xs few h.each }

pub held_document : (file : List ℕ) (d : Document) → AreBytes file → Holds file d → IsDocument d
held_document file d all h =
    let start = blank h.header h.props in
    let list = stand file Image 26 h.props.list h.props.end h.has_props.follow in
    let none_yet : IsGrown start = record { nodes = tt; ids = none_up_to 0; low = omega arith } in
    let nodes = nodes_within file h.layers (h.props.end + 8) start h.with_layers all none_yet h.add_layers in
    let w = h.with_layers in
    let no_sheets : HasSheets (record start { nodes = w.nodes }) = record { channels = tt; selection = tt } in
    let sheets = channels_within file h.channels (h.props.end + 12 + 4 * length h.layers) w d all
    (subst HasSheets (sym nodes.same) no_sheets) h.add_channels in
    let with_sheets : Document → Document = λ x. record x { channels = d.channels; selection = d.selection } in
    let same : d ≡ record start { nodes = w.nodes; channels = d.channels; selection = d.selection } = sheets.1
    ∙ ap with_sheets nodes.same in
    let few : size w.nodes ≤ MAX_NODES = omega (arith, nodes.count, h.few_nodes) in
    let same_nodes : w.nodes ≡ d.nodes = sym (ap (λ x. x.nodes) sheets.1) in
    record {
      width = subst IsSide (sym (ap (λ x. x.width) same)) h.has_header.width_is;
      height = subst IsSide (sym (ap (λ x. x.height) same)) h.has_header.height_is;
      compression = subst (λ n. n ≤ 1) (sym (ap (λ x. x.compression) same)) (compression_within file h.props.list list);
      colours = subst (λ x. AreColours x.base x.colours) (sym same)
          (colours_are h.header.base (colours_of h.props.list) (colours_within file h.props.list all list));
      kept = subst (λ x. AreKept Image x.kept) (sym same) (kept_within file Image 26 h.props all h.has_props);
      nodes = subst (λ x. AreNodes x.base x.nodes) (sym sheets.1) nodes.grown.nodes;
      ids = subst (λ x. AreIds (ids x)) same_nodes (are_ids (size w.nodes) (ids w.nodes) few nodes.grown.ids);
      few = subst (λ x. size x ≤ MAX_NODES) same_nodes few;
      low = subst (λ x. levels x ≤ 8) same_nodes nodes.grown.low;
      channels = sheets.0.channels;
      few_channels = h.few_channels;
      selection = sheets.0.selection;
      area = h.area;
      kept_bytes = h.kept_bytes;
    }
