-- What a file has of a channel or a mask before its pixels, and the channel or mask with them.
use Rattle.std.specs.Prelude.{ℕ, ◌+◌, List, Ok}
use Rattle.spec_document.specs.declared.Owner.{Owner}
use Rattle.spec_document.specs.Document.{Channel}
use Rattle.spec_fields.specs.declared.Kind.{Kind}
use Rattle.spec_fields.specs.declared.Kind.TheVariants.{BadHierarchy}
use Rattle.spec_fields.specs.Reading.{Read, ◌>>=◌, unless}
use Rattle.spec_fields.specs.Field.{Text, name_at}
use Rattle.spec_props.specs.Meaning.{kept_of}
use Rattle.spec_props.specs.Reading.{Properties, properties_at}
use Rattle.spec_hierarchy.specs.Reading.{same_word_at, pointer_at, hierarchy_at}
use Rattle.spec_file.specs.Placing.{passes}

pub record ChannelHead : Type 0 where
  pub name : List ℕ
  pub props : Properties
  pub hierarchy : ℕ

-- the name, behind sides that have to be these
unfoldable pub named_at : (file : List ℕ) → Kind → (at width height : ℕ) → Read Text
named_at file kind at width height = do
  _ ← same_word_at file at width kind
  _ ← same_word_at file (at + 4) height kind
  name_at file (at + 8)

-- the pointer behind the properties, where there is room for what they keep
unfoldable pub pixels_at : (file : List ℕ) → Owner → Properties → (before : ℕ) → Read ℕ
pixels_at file owner props before = do
  _ ← unless (passes owner before props.list)
  pointer_at file (props.end + 8) BadHierarchy

-- the head at an offset, where the sides have to be these, and so many bytes are kept before
unfoldable pub channel_head_at : (file : List ℕ) → Owner → Kind → (at width height before : ℕ) → Read ChannelHead
channel_head_at file owner kind at width height before = do
  text ← named_at file kind at width height
  props ← properties_at file owner text.next
  hierarchy ← pixels_at file owner props before
  Ok (record { name = text.name; props = props; hierarchy = hierarchy })

-- the channel or mask, with its pixels
unfoldable pub channel_of : (file : List ℕ) → Owner → ChannelHead → (width height compression : ℕ) → Read Channel
channel_of file owner head width height compression = do
  plane ← hierarchy_at file head.hierarchy width height 1 compression
  Ok (record { name = head.name; kept = kept_of owner head.props.list; plane = plane })
