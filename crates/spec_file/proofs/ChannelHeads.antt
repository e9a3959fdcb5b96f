-- The head of a channel or a mask is read exactly where a file has it, and the channel or mask with its pixels.
use Rattle.std.proofs.Common.{◌≡◌, ℕ, ◌+◌, ◌^◌, ◌<◌, ◌≤◌, true, false, Bool, List, refl, sym, ◌∙◌, subst}
use Rattle.std.specs.Prelude.{Ok}
use Rattle.spec_document.specs.declared.Owner.{Owner}
use Rattle.spec_document.specs.Document.{Channel, kept_bytes}
use Rattle.spec_document.specs.Limits.{AreBytes, IsPlaneOf}
use Rattle.spec_document.specs.Plane.{Plane}
use Rattle.spec_fields.specs.declared.Kind.{Kind}
use Rattle.spec_fields.specs.declared.Kind.TheVariants.{BadHierarchy}
use Rattle.spec_fields.specs.declared.ReadRefused.{ReadRefused}
use Rattle.spec_fields.specs.Reading.{wants}
use Rattle.spec_fields.specs.Field.{Text, HasWord, HasName}
use Rattle.spec_fields.proofs.Steps.{onward, free}
use Rattle.spec_fields.proofs.Fields.{name_is}
use Rattle.spec_fields.proofs.Back.{bind_back}
use Rattle.spec_fields.proofs.FieldsBack.{one_read, unless_back, name_has}
use Rattle.spec_props.specs.Meaning.{kept_of}
use Rattle.spec_props.specs.Reading.{properties_at}
use Rattle.spec_props.specs.Holds.{HasProperties}
use Rattle.spec_props.proofs.Listed.{properties_are}
use Rattle.spec_props.proofs.ListedBack.{properties_have}
use Rattle.spec_hierarchy.specs.Reading.{same_word_at, hierarchy_at}
use Rattle.spec_hierarchy.specs.Holds.{HasPlane}
use Rattle.spec_hierarchy.proofs.Planes.{same_word_is, pointer_is, plane_is}
use Rattle.spec_hierarchy.proofs.PlanesBack.{HasPlaneOf, same_word_has, pointer_has, plane_has}
use Rattle.spec_file.specs.Placing.{passes}
use Rattle.spec_file.specs.ChannelHead.{ChannelHead, named_at, pixels_at, channel_head_at, channel_of}
use Rattle.spec_file.proofs.Sums.{passes_none}
use Rattle.spec_file.proofs.SumsBack.{passes_back}

-- a rule that let the reading go on, where nothing is read behind it
pub rule_back : (test : Bool) (refused : ReadRefused) → wants test refused ≡ Ok tt → test ≡ true
rule_back true refused e = refl
rule_back false refused e = cc

-- the head stands at the offset, and its list passes no limit
pub record HasChannelHead (file : List ℕ) (owner : Owner) (at width height before : ℕ) (head : ChannelHead) : Type 0 where
  pub width_is : HasWord file at width
  pub height_is : HasWord file (at + 4) height
  pub text : Text
  pub has_name : HasName file (at + 8) text
  pub name : text.name ≡ head.name
  pub has_props : HasProperties file owner text.next head.props
  pub has_hierarchy : HasWord file (head.props.end + 8) head.hierarchy
  pub some_hierarchy : 0 < head.hierarchy
  pub kept : before + kept_bytes (kept_of owner head.props.list) ≤ 2 ^ 28

module _ (file : List ℕ) (owner : Owner) (kind : Kind) (at width height before : ℕ) (head : ChannelHead) where
  pub channel_head_is : HasChannelHead file owner at width height before head
      → channel_head_at file owner kind at width height before ≡ Ok head
  unfolding channel_head_at named_at pixels_at
  channel_head_is h =
      onward (named_at file kind at width height) h.text _
      (onward (same_word_at file at width kind) tt _ (same_word_is file at width kind h.width_is)
      ∙ (onward (same_word_at file (at + 4) height kind) tt _ (same_word_is file (at + 4) height kind h.height_is)
      ∙ name_is file (at + 8) h.text h.has_name))
      ∙ (onward (properties_at file owner h.text.next) head.props _ (properties_are file owner h.text.next head.props h.has_props)
      ∙ (onward (pixels_at file owner head.props before) head.hierarchy _
      (free (passes owner before head.props.list) _ (passes_none owner before head.props.list h.kept)
      ∙ pointer_is file (head.props.end + 8) head.hierarchy BadHierarchy h.has_hierarchy h.some_hierarchy)
      ∙ (λ i. Ok (record { name = h.name i; props = head.props; hierarchy = head.hierarchy }))))

  pub channel_head_back : before ≤ 2 ^ 28 → channel_head_at file owner kind at width height before ≡ Ok head
      → HasChannelHead file owner at width height before head
  unfolding channel_head_at named_at pixels_at
  channel_head_back small e =
      let text = bind_back (named_at file kind at width height) _ head e in
      let props = bind_back (properties_at file owner text.0.next) _ head text.2 in
      let hierarchy = bind_back (pixels_at file owner props.0 before) _ head props.2 in
      let a = bind_back (same_word_at file at width kind) _ text.0 text.1 in
      let b = bind_back (same_word_at file (at + 4) height kind) _ text.0 a.2 in
      let c = unless_back (passes owner before props.0.list) _ hierarchy.0 hierarchy.1 in
      let pointer = pointer_has file (props.0.end + 8) hierarchy.0 BadHierarchy c.1 in
      let g : ChannelHead = record { name = text.0.name; props = props.0; hierarchy = hierarchy.0 } in
      subst (HasChannelHead file owner at width height before) (one_read g head hierarchy.2) (record {
        width_is = same_word_has file at width kind a.1;
        height_is = same_word_has file (at + 4) height kind b.1;
        text = text.0;
        has_name = name_has file (at + 8) text.0 b.2;
        name = refl;
        has_props = properties_have file owner text.0.next props.0 props.1;
        has_hierarchy = pointer.word;
        some_hierarchy = pointer.some;
        kept = passes_back owner before props.0.list small c.0;
      })

-- the pixels that stand behind a head are read with it
pub channel_of_is : (file : List ℕ) (owner : Owner) (head : ChannelHead) (width height compression : ℕ) (plane : Plane)
    → IsPlaneOf width height 1 plane → HasPlane file head.hierarchy compression plane
    → channel_of file owner head width height compression
    ≡ Ok (record { name = head.name; kept = kept_of owner head.props.list; plane = plane })
unfolding channel_of
channel_of_is file owner head width height compression plane is has =
    onward (hierarchy_at file head.hierarchy width height 1 compression) plane _
    ((λ i. hierarchy_at file head.hierarchy (sym is.width_is i) (sym is.height_is i) (sym is.bpp_is i) compression)
    ∙ plane_is file head.hierarchy compression plane has)

-- the channel has the name and the list of its head, and the plane that stands behind it
pub record HasPixels (file : List ℕ) (owner : Owner) (head : ChannelHead) (width height compression : ℕ) (c : Channel)
    : Type 0 where
  pub name : c.name ≡ head.name
  pub kept : c.kept ≡ kept_of owner head.props.list
  pub plane : HasPlaneOf file head.hierarchy width height 1 compression c.plane

pub channel_of_back : (file : List ℕ) (owner : Owner) (head : ChannelHead) (width height compression : ℕ) (c : Channel)
    → AreBytes file → channel_of file owner head width height compression ≡ Ok c
    → HasPixels file owner head width height compression c
unfolding channel_of
channel_of_back file owner head width height compression c all e =
    let plane = bind_back (hierarchy_at file head.hierarchy width height 1 compression) _ c e in
    let m : Channel = record { name = head.name; kept = kept_of owner head.props.list; plane = plane.0 } in
    subst (HasPixels file owner head width height compression) (one_read m c plane.2) (record {
      name = refl;
      kept = refl;
      plane = plane_has file head.hierarchy width height 1 compression plane.0 all plane.1;
    })
