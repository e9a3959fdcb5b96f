-- What is read of a file of bytes is held by it.
use Rattle.std.proofs.Common.{◌≡◌, ℕ, ◌+◌, ◌*◌, ◌^◌, ◌≤◌, Bool, true, false, ◌&&◌, not, List, length, refl, sym, ap, subst, arith}
use Rattle.std.specs.Prelude.{Ok}
use Rattle.spec_document.specs.declared.Owner.TheVariants.{Image}
use Rattle.spec_document.specs.Document.{Document, kept_bytes, is_indexed}
use Rattle.spec_document.specs.Limits.{AreBytes}
use Rattle.spec_fields.specs.declared.Kind.TheVariants.{NoColourMap}
use Rattle.spec_fields.specs.Reading.{◌>>=◌, fault}
use Rattle.spec_fields.proofs.Back.{bind_back}
use Rattle.spec_fields.proofs.FieldsBack.{one_read, unless_back}
use Rattle.spec_props.specs.Meaning.{has_colours, kept_of}
use Rattle.spec_props.specs.Reading.{properties_at}
use Rattle.spec_props.proofs.ListedBack.{properties_have}
use Rattle.spec_file.specs.Header.{header_of}
use Rattle.spec_file.specs.Placing.{passes}
use Rattle.spec_file.specs.declared.TheConstants.{CHANNEL_POINTERS}
use Rattle.spec_file.specs.Layers.{Upto, nodes_at}
use Rattle.spec_file.specs.Channels.{channels_at}
use Rattle.spec_file.specs.Reading.{blank, image_rule, beginning, reading}
use Rattle.spec_file.specs.Holds.{AddChannels, Holds}
use Rattle.spec_file.proofs.SumsBack.{passes_back}
use Rattle.spec_file.proofs.ChannelHeads.{rule_back}
use Rattle.spec_file.proofs.HeaderBack.{header_has}
use Rattle.spec_file.proofs.NodesAre.{IsWithin}
use Rattle.spec_file.proofs.NodesBack.{nodes_back}
use Rattle.spec_file.proofs.ChannelsBack.{channels_back}
use Rattle.spec_document.specs.declared.TheConstants.{MAX_NODES}

map_there : (indexed colours : Bool) → not (indexed && not colours) ≡ true → indexed ≡ true → colours ≡ true
map_there true true e i = refl
map_there true false e i = cc
map_there false colours e i = cc

nothing_yet : (canvas : ℕ) → (0 + canvas * 0) + canvas * 0 ≤ 2 ^ 28
nothing_yet canvas = omega arith

pub read_held : (file : List ℕ) (d : Document) → AreBytes file → reading file ≡ Ok d → Holds file d
unfolding reading beginning image_rule
read_held file d all e =
    let first = bind_back (beginning file) _ d e in
    let h = bind_back (header_of file) _ first.0 first.1 in
    let props = bind_back (properties_at file Image 26) _ first.0 h.2 in
    let rule = bind_back (image_rule h.0 props.0) _ first.0 props.2 in
    let a = unless_back (passes Image 0 props.0.list) _ tt rule.1 in
    let b = rule_back (not (is_indexed h.0.base && not (has_colours props.0.list))) (fault NoColourMap props.0.end) a.1 in
    let start : Upto = record { document = blank h.0 props.0; next = props.0.end + 8 } in
    let goes_on : (nodes_at MAX_NODES file start.next start.document >>= (λ l. channels_at CHANNEL_POINTERS file l.next l.document))
    ≡ Ok d = subst (λ u. (nodes_at MAX_NODES file u.next u.document >>= (λ l. channels_at CHANNEL_POINTERS file l.next l.document))
    ≡ Ok d) (sym (one_read start first.0 rule.2)) first.2 in
    let layers = bind_back (nodes_at MAX_NODES file (props.0.end + 8) (blank h.0 props.0)) _ d goes_on in
    let head = header_has file h.0 h.1 in
    let kept : 0 + kept_bytes (kept_of Image props.0.list) ≤ 2 ^ 28 = passes_back Image 0 props.0.list (omega arith) a.0 in
    let within : IsWithin (blank h.0 props.0) =
    record { area = nothing_yet (h.0.width * h.0.height); kept = omega (arith, kept) } in
    let nodes = nodes_back MAX_NODES file (props.0.end + 8) (blank h.0 props.0) layers.0 all within layers.1 in
    let channels = channels_back 66 file layers.0.next layers.0.document d all nodes.within
    (omega (arith, ap length nodes.channels)) layers.2 in
    let next : layers.0.next ≡ props.0.end + 12 + 4 * length nodes.pointers = omega (arith, nodes.next) in
    record {
      short = head.short;
      header = h.0;
      has_header = head.header;
      props = props.0;
      has_props = properties_have file Image 26 props.0 props.1;
      colours = map_there (is_indexed h.0.base) (has_colours props.0.list) b;
      layers = nodes.pointers;
      with_layers = layers.0.document;
      add_layers = nodes.add;
      channels = channels.pointers;
      add_channels = subst (λ at. AddChannels file at channels.pointers layers.0.document d) next channels.add;
      few_nodes = nodes.few;
      few_channels = channels.few;
      area = channels.within.area;
      kept_bytes = channels.within.kept;
    }
