-- The channels that a file of bytes has are within the limits.
use Rattle.std.proofs.Common.{◌≡◌, ℕ, ◌+◌, Bool, true, false, List, [], ◌∷◌, refl, sym, ◌∙◌, ap, subst}
use Rattle.std.specs.List.{AllByRecursion}
use Rattle.spec_document.specs.declared.Owner.TheVariants as owners
use Rattle.spec_document.specs.Document.{Document, Channel}
use Rattle.spec_document.specs.Limits.{AreBytes, IsChannelIfAny}
use Rattle.spec_document.specs.Limits as limits
use Rattle.spec_fields.proofs.All.{all_append}
use Rattle.spec_props.specs.Meaning.{is_selection, kept_of}
use Rattle.spec_props.proofs.Within.{kept_within}
use Rattle.spec_file.specs.Channels.{with_channel}
use Rattle.spec_file.specs.Holds.{AddsChannel, AddChannels}
use Rattle.spec_file.proofs.NamesWithin.{name_within}

-- the channels and the selection are within the limits
pub record HasSheets (d : Document) : Type 0 where
  pub channels : AllByRecursion (limits.IsChannel owners.Channel d.width d.height) d.channels
  pub selection : IsChannelIfAny owners.Channel d.width d.height d.selection

-- the same but for channels and selection
abbrev SameBut : (old new : Document) → Type 0
SameBut old new = new ≡ record old { channels = new.channels; selection = new.selection }

with_one : (old : Document) (b : Bool) (c : Channel) → HasSheets old → limits.IsChannel owners.Channel old.width old.height c
    → HasSheets (with_channel old b c) × SameBut old (with_channel old b c)
with_one old true c h is = (record { channels = h.channels; selection = is }, refl)
with_one old false c h is = (
  record {
    channels = all_append (limits.IsChannel owners.Channel old.width old.height) old.channels (c ∷ []) h.channels (
      is,
      tt,
    );
    selection = h.selection;
  },
  refl,
)

channel_within : (file : List ℕ) (at : ℕ) (old new : Document) → AreBytes file → HasSheets old → AddsChannel file at old new
    → HasSheets new × SameBut old new
channel_within file at old new all h a =
    let c : Channel = record { name = a.text.name; kept = kept_of owners.Channel a.props.list; plane = a.plane } in
    let P : Document → Type 0 = λ d. HasSheets d × SameBut old d in
    subst P (sym a.adds) (with_one old (is_selection a.props.list) c h (record {
      name = name_within file (at + 8) a.text all a.has_name;
      kept = kept_within file owners.Channel a.text.next a.props all a.has_props;
      plane = a.plane_is;
    }))

pub channels_within : (file : List ℕ) (pointers : List ℕ) (at : ℕ) (old new : Document) → AreBytes file → HasSheets old
    → AddChannels file at pointers old new → HasSheets new × SameBut old new
channels_within file [] at old new all h a =
    let P : Document → Type 0 = λ d. HasSheets d × SameBut old d in subst P (sym a.1) (h, refl)
channels_within file (pointer ∷ pointers) at old new all h (word, some, (mid, channel, rest)) =
    let one = channel_within file pointer old mid all h channel in
    let more = channels_within file pointers (at + 4) mid new all one.0 rest in
    let with_sheets : Document → Document = λ d. record d { channels = new.channels; selection = new.selection } in
    (more.0, more.1 ∙ ap with_sheets one.1)
