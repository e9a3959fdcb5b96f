-- The channels that were read stand in the file.
use Rattle.std.proofs.Common.{◌≡◌, ℕ, zero, suc, ◌+◌, ◌*◌, ◌^◌, ◌≤◌, Bool, true, false, cond, ◌||◌, not, List, [], ◌∷◌}
use Rattle.std.proofs.Common.{length, nat_lt, refl, sym, ◌∙◌, ap, subst, arith}
use Rattle.std.specs.Prelude.{Ok, Option, Some, None, is_none, ◌==◌}
use Rattle.std.proofs.lemmas.Bool.{leb-true, ltb-true, eqb-true, eqb-false}
use Rattle.spec_document.specs.declared.Owner.TheVariants as owners
use Rattle.spec_document.specs.Document.{Document, Channel, area, all_kept, kept_bytes}
use Rattle.spec_document.specs.Limits.{AreBytes}
use Rattle.spec_fields.specs.declared.Kind.TheVariants.{ChannelSize, TwoSelections, TooLarge, TooMany}
use Rattle.spec_fields.specs.Reading.{Read, ◌>>=◌, fault}
use Rattle.spec_fields.specs.Field.{HasWord}
use Rattle.spec_fields.proofs.Back.{bind_back, wants_back}
use Rattle.spec_fields.proofs.FieldsBack.{one_read, word_first, choice_back}
use Rattle.spec_props.specs.Meaning.{is_selection}
use Rattle.spec_file.specs.Placing.{place_of}
use Rattle.spec_file.specs.ChannelHead.{channel_head_at, channel_of}
use Rattle.spec_file.specs.Channels.{with_channel, channel_rule, channel_at, channels_at}
use Rattle.spec_file.specs.Holds.{AddsChannel, AddChannels}
use Rattle.spec_file.proofs.ChannelHeads.{rule_back, channel_head_back, channel_of_back}
use Rattle.spec_file.proofs.NodesAre.{IsWithin}
use Rattle.spec_file.proofs.ChannelsAre.{what_adds}
use Rattle.spec_document.specs.declared.numbers.TheConstants.{SELECTION}

-- a channel is added, and the document is within the limits again
record IsChannel (file : List ℕ) (at : ℕ) (old new : Document) : Type 0 where
  adds : AddsChannel file at old new
  within : IsWithin new
  few : length new.channels ≤ 64

is_free : (b : Bool) (s : Option Channel) → (not b || is_none s) ≡ true → b ≡ true → s ≡ None
is_free true None e t = refl
is_free true (Some s) e t = cc
is_free false s e t = cc

room_left : (b : Bool) (n : ℕ) → (b || nat_lt n 64) ≡ true → n ≤ 64 → n + cond b 0 1 ≤ 64
room_left true n e h = omega (arith, h)
room_left false n e h = omega (arith, ltb-true n 64 e)

at_most : (x y n : ℕ) → x ≡ y → y ≤ n → x ≤ n
at_most x y n e h = omega (arith, e, h)

channel_back : (file : List ℕ) (at place : ℕ) (old new : Document) → AreBytes file → IsWithin old → length old.channels ≤ 64
    → channel_at file at place old ≡ Ok new → IsChannel file at old new
unfolding channel_at channel_rule
channel_back file at place old new all w few e =
    let head = bind_back (channel_head_at file owners.Channel ChannelSize at old.width old.height (all_kept old)) _ new e in
    let rule = bind_back (channel_rule old head.0.props at place) _ new head.2 in
    let channel = bind_back (channel_of file owners.Channel head.0 old.width old.height old.compression) _ new rule.2 in
    let h = channel_head_back file owners.Channel ChannelSize at old.width old.height (all_kept old) head.0 w.kept head.1 in
    let q = channel_of_back file owners.Channel head.0 old.width old.height old.compression channel.0 all channel.1 in
    let selection = is_selection head.0.props.list in
    let d = wants_back (not selection
    || is_none old.selection) (fault TwoSelections (place_of SELECTION head.0.props.list)) _ tt rule.1 in
    let f = wants_back (selection || nat_lt (length old.channels) 64) (fault TooMany place) _ tt d.1 in
    let fits = leb-true (area old + old.width * old.height) (2 ^ 28) (rule_back _ (fault TooLarge at) f.1) in
    let is : with_channel old selection channel.0 ≡ new = one_read (with_channel old selection channel.0) new channel.2 in
    let first = is_free selection old.selection d.0 in
    let grow = what_adds old selection channel.0 first in
    subst (IsChannel file at old) is (record {
      adds = record {
        width = h.width_is;
        height = h.height_is;
        text = h.text;
        has_name = h.has_name;
        props = head.0.props;
        has_props = h.has_props;
        hierarchy = head.0.hierarchy;
        has_hierarchy = h.has_hierarchy;
        some_hierarchy = h.some_hierarchy;
        plane = channel.0.plane;
        plane_is = q.plane.is;
        has_plane = q.plane.has;
        first = first;
        adds = λ i. with_channel old selection (record {
          name = (q.name ∙ sym h.name) i;
          kept = q.kept i;
          plane = channel.0.plane;
        });
      };
      within = record {
        area = at_most _ _ (2 ^ 28) grow.area fits;
        kept = at_most _ _ (2 ^ 28) (grow.kept ∙ ap (λ k. all_kept old + kept_bytes k) q.kept) h.kept;
      };
      few = at_most _ _ 64 grow.count (room_left selection (length old.channels) f.0 few);
    })

pub record HasChannels (file : List ℕ) (at : ℕ) (old new : Document) : Type 0 where
  pub pointers : List ℕ
  pub add : AddChannels file at pointers old new
  pub within : IsWithin new
  pub few : length new.channels ≤ 64

channels_by : (room : ℕ) (file : List ℕ) (at pointer : ℕ) (old new : Document) → AreBytes file → IsWithin old
    → length old.channels ≤ 64 → HasWord file at pointer
    → ((mid : Document) → IsWithin mid → length mid.channels ≤ 64 → channels_at room file (at + 4) mid ≡ Ok new
    → HasChannels file (at + 4) mid new)
    → (b : Bool) → (pointer == 0) ≡ b
    → ((pointer == 0) ≡ true → ◌≡◌ {A = Read Document} (Ok old) (Ok new))
    → ((pointer == 0) ≡ false → (channel_at file pointer at old >>= (λ changed. channels_at room file (at + 4) changed)) ≡ Ok new)
    → HasChannels file at old new
channels_by room file at pointer old new all w few word more true t ended goes_on =
    subst (HasChannels file at old) (one_read old new (ended t)) (record {
      pointers = [];
      add = (subst (λ n. HasWord file at n) (eqb-true pointer 0 t) word, refl);
      within = w;
      few = few;
    })
channels_by room file at pointer old new all w few word more false t ended goes_on =
    let mid = bind_back (channel_at file pointer at old) _ new (goes_on t) in
    let channel = channel_back file pointer at old mid.0 all w few mid.1 in
    let rest = more mid.0 channel.within channel.few mid.2 in
    record {
      pointers = pointer ∷ rest.pointers;
      add = (word, omega (arith, eqb-false pointer 0 t), (mid.0, channel.adds, rest.add));
      within = rest.within;
      few = rest.few;
    }

pub channels_back : (room : ℕ) (file : List ℕ) (at : ℕ) (old new : Document) → AreBytes file → IsWithin old
    → length old.channels ≤ 64 → channels_at room file at old ≡ Ok new
    → HasChannels file at old new
unfolding channels_at
channels_back zero file at old new all w few e = cc
channels_back (suc room) file at old new all w few e =
    let a = word_first file at _ new e in
    let c = choice_back (a.0 == 0) _ _ new a.2 in
    channels_by room file at a.0 old new all w few a.1
    (λ mid within less rest. channels_back room file (at + 4) mid new all within less rest) (a.0 == 0) refl c.0 c.1
