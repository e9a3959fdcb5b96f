-- The layers and groups that were read stand in the file.
use Rattle.std.proofs.Common.{◌≡◌, ℕ, zero, suc, ◌+◌, ◌*◌, ◌^◌, ◌<◌, ◌≤◌, Bool, true, false, ◌&&◌, not, List, [], ◌∷◌}
use Rattle.std.proofs.Common.{length, nat_lt, refl, sym, ◌∙◌, ap, subst, arith}
use Rattle.std.specs.Prelude.{Ok, Option, Some, None, nat_le, ◌==◌, MatchBool}
use Rattle.std.proofs.lemmas.Bool.{leb-true, ltb-true, eqb-true, eqb-false}
use Rattle.spec_document.specs.Forest.{none, leaf, group, size}
use Rattle.spec_document.specs.Changes.{put_last}
use Rattle.spec_document.specs.declared.Owner.TheVariants as owners
use Rattle.spec_document.specs.Document.{Document, Nodes, Channel, base_code, base_of_kind, bytes_of_kind, mask_area}
use Rattle.spec_document.specs.Document.{channel_kept, area, all_kept, kept_bytes, is_indexed}
use Rattle.spec_document.specs.Limits.{AreBytes}
use Rattle.spec_fields.specs.declared.Kind.TheVariants.{BadSize, LayerType, MaskSize, GroupMask, GroupInIndexed}
use Rattle.spec_fields.specs.declared.Kind.TheVariants.{BadPath, BadHierarchy, TooLarge, TooMany}
use Rattle.spec_fields.specs.Reading.{Read, ◌>>=◌, fault}
use Rattle.spec_fields.specs.Field.{name_at, HasWord}
use Rattle.spec_fields.proofs.Back.{bind_back, wants_back}
use Rattle.spec_fields.proofs.FieldsBack.{one_read, word_first, given_back, unless_back, choice_back, name_has}
use Rattle.spec_props.specs.Meaning.{is_group, kept_of}
use Rattle.spec_props.specs.Reading.{properties_at}
use Rattle.spec_props.proofs.ListedBack.{properties_have}
use Rattle.spec_hierarchy.specs.Reading.{hierarchy_at}
use Rattle.spec_hierarchy.proofs.PlanesBack.{plane_has}
use Rattle.spec_file.specs.Header.{is_side}
use Rattle.spec_file.specs.Placing.{path_to, place_of, passes}
use Rattle.spec_file.specs.ChannelHead.{channel_head_at, channel_of}
use Rattle.spec_file.specs.Layers.{Head, Upto, hierarchy_place, mask_place, pointers_at, head_at, placed, path_of, group_of}
use Rattle.spec_file.specs.Layers.{group_at, mask_at, layer_of, layer_rule, layer_at, branch_at, node_at, nodes_at}
use Rattle.spec_file.specs.Holds.{HasHead, HasMaskIfAny, Places, AddsGroup, AddsLayer, AddsNode, AddNodes}
use Rattle.spec_file.proofs.SumsBack.{passes_back}
use Rattle.spec_file.proofs.ChannelHeads.{rule_back, channel_head_back, channel_of_back}
use Rattle.spec_file.proofs.NodesAre.{IsWithin, places_area, places_kept}
use Rattle.spec_file.proofs.HeaderBack.{both_hold, side_back}
use Rattle.spec_document.specs.declared.numbers.TheConstants.{GROUP_ITEM, ITEM_PATH}

placed_back : (old : Document) (h : Head) (branch : Nodes) (new : Document) → placed old h branch ≡ Ok new → Places old h branch new
unfolding placed
placed_back old h branch new e =
    let a = given_back (put_last (path_to h.props.list) branch old.nodes)
    (fault BadPath (place_of ITEM_PATH h.props.list)) _ new e in
    let is : record old { nodes = a.0 } ≡ new = cc in
    (a.0, a.1, sym is)

path_back : (old : Document) (h : Head) → path_of old h ≡ Ok tt → length (path_to h.props.list) < 8
unfolding path_of
path_back old h e =
    let a = wants_back (nat_lt (length (path_to h.props.list)) 8) (fault BadPath (place_of ITEM_PATH h.props.list)) _ tt e in
    ltb-true (length (path_to h.props.list)) 8 a.0

-- the record stands at the offset, its list passes no limit, and no group stands in an indexed image
record IsHead (file : List ℕ) (at : ℕ) (d : Document) (h : Head) : Type 0 where
  stands : HasHead file at d h
  kept : all_kept d + kept_bytes (kept_of owners.Layer h.props.list) ≤ 2 ^ 28
  groups : not (is_indexed d.base && is_group h.props.list) ≡ true

head_back : (file : List ℕ) (at : ℕ) (d : Document) (h : Head) → IsWithin d → head_at file at d ≡ Ok h → IsHead file at d h
unfolding head_at pointers_at
head_back file at d h w e =
    let width = word_first file at _ h e in
    let height = word_first file (at + 4) _ h width.2 in
    let kind = word_first file (at + 8) _ h height.2 in
    let a = wants_back (nat_le kind.0 5 && base_of_kind kind.0 == base_code d.base) (fault LayerType (at + 8)) _ h kind.2 in
    let text = bind_back (name_at file (at + 12)) _ h a.1 in
    let props = bind_back (properties_at file owners.Layer text.0.next) _ h text.2 in
    let pointers = bind_back (pointers_at file d props.0) _ h props.2 in
    let b = unless_back (passes owners.Layer (all_kept d) props.0.list) _ pointers.0 pointers.1 in
    let c = wants_back (not (is_indexed d.base && is_group props.0.list))
    (fault GroupInIndexed (place_of GROUP_ITEM props.0.list)) _ pointers.0 b.1 in
    let hierarchy = word_first file (props.0.end + 8) _ pointers.0 c.1 in
    let mask = word_first file (props.0.end + 12) _ pointers.0 hierarchy.2 in
    let last : record { hierarchy = hierarchy.0; mask = mask.0 } ≡ pointers.0 = one_read _ pointers.0 mask.2 in
    let both = both_hold (nat_le kind.0 5) (base_of_kind kind.0 == base_code d.base) a.0 in
    let g : Head = record {
      at = at;
      width = width.0;
      height = height.0;
      kind = kind.0;
      text = text.0;
      props = props.0;
      hierarchy = pointers.0.hierarchy;
      mask = pointers.0.mask;
    } in
    let is : g ≡ h = one_read g h pointers.2 in
    subst (IsHead file at d) is (record {
      stands = record {
        at_is = refl;
        width = width.1;
        height = height.1;
        kind = kind.1;
        kind_is = leb-true kind.0 5 both.0;
        base = eqb-true (base_of_kind kind.0) (base_code d.base) both.1;
        name = name_has file (at + 12) text.0 text.1;
        props = properties_have file owners.Layer text.0.next props.0 props.1;
        hierarchy = subst (λ n. HasWord file (props.0.end + 8) n) (ap (λ p. p.hierarchy) last) hierarchy.1;
        mask = subst (λ n. HasWord file (props.0.end + 12) n) (ap (λ p. p.mask) last) mask.1;
      };
      kept = passes_back owners.Layer (all_kept d) props.0.list w.kept b.0;
      groups = c.0;
    })

-- a node is added, and the document is within the limits again
record IsGroup (old : Document) (h : Head) (new : Document) : Type 0 where
  adds : AddsGroup old h new
  within : IsWithin new

group_back : (old : Document) (h : Head) (branch : Nodes) (new : Document) → is_indexed old.base ≡ false
    → all_kept old + kept_bytes (kept_of owners.Layer h.props.list) ≤ 2 ^ 28
    → group_at old h ≡ Ok branch → placed old h branch ≡ Ok new → IsGroup old h new
unfolding group_at
group_back old h branch new base kept e put =
    let a = wants_back (h.mask == 0) (fault GroupMask (mask_place h)) _ branch e in
    let b = wants_back (nat_le (area old + old.width * old.height) (2 ^ 28)) (fault TooLarge h.at) _ branch a.1 in
    let alone : Nodes = group (1 + size old.nodes) (group_of h) none none in
    let places = placed_back old h alone new (ap (placed old h) (one_read alone branch b.1) ∙ put) in
    record {
      adds = record { base = base; mask = eqb-true h.mask 0 a.0; places = places };
      within = record {
        area = omega (arith, places_area old h alone new places, leb-true (area old + old.width * old.height) (2 ^ 28) b.0);
        kept = omega (arith, places_kept old h alone new places, kept);
      };
    }

-- the mask stands in the file, and with it the layer is within the limits
record IsMask (file : List ℕ) (old : Document) (h : Head) (mask : Option Channel) : Type 0 where
  has : HasMaskIfAny file h.mask h.width h.height old.compression mask
  area_fits : area old + (h.width * h.height + mask_area mask) ≤ 2 ^ 28
  kept_fits : all_kept old + (kept_bytes (kept_of owners.Layer h.props.list) + channel_kept mask) ≤ 2 ^ 28

mask_back : (file : List ℕ) (old : Document) (h : Head) (mask : Option Channel) → AreBytes file
    → area old + h.width * h.height ≤ 2 ^ 28
    → all_kept old + kept_bytes (kept_of owners.Layer h.props.list) ≤ 2 ^ 28 → mask_at file old h ≡ Ok mask → IsMask file old h mask
unfolding mask_at
mask_back file old h mask all area_fits kept_fits e = by (h.mask == 0) refl
  where
    by : (b : Bool) → (h.mask == 0) ≡ b → IsMask file old h mask
    by true t =
        let a = (choice_back (h.mask == 0) _ _ mask e).0 t in
        let is : None ≡ mask = cc in
        subst (IsMask file old h) is (record {
          has = eqb-true h.mask 0 t;
          area_fits = omega (arith, area_fits);
          kept_fits =
              omega (arith, kept_fits);
        })
    by false t =
        let before = all_kept old + kept_bytes (kept_of owners.Layer h.props.list) in
        let head = bind_back (channel_head_at file owners.Mask MaskSize h.mask h.width h.height before) _ mask
        ((choice_back (h.mask == 0) _ _ mask e).1 t) in
        let d = wants_back (nat_le (area old + 2 * (h.width * h.height)) (2 ^ 28)) (fault TooLarge h.mask) _ mask head.2 in
        let m = bind_back (channel_of file owners.Mask head.0 h.width h.height old.compression) _ mask d.1 in
        let p = channel_head_back file owners.Mask MaskSize h.mask h.width h.height before head.0 kept_fits head.1 in
        let q = channel_of_back file owners.Mask head.0 h.width h.height old.compression m.0 all m.1 in
        let same : m.0.plane.width * m.0.plane.height ≡ h.width * h.height =
        λ i. q.plane.is.width_is i * q.plane.is.height_is i in
        subst (IsMask file old h) (one_read (Some m.0) mask m.2) (record {
          has = (
            omega (arith, eqb-false h.mask 0 t),
            record {
              width_is = p.width_is;
              height_is = p.height_is;
              text = p.text;
              has_name = p.has_name;
              name = q.name ∙ sym p.name;
              props = head.0.props;
              has_props = p.has_props;
              kept = q.kept;
              hierarchy = head.0.hierarchy;
              has_hierarchy = p.has_hierarchy;
              some_hierarchy = p.some_hierarchy;
              plane = q.plane.has;
              plane_is = q.plane.is;
            },
          );
          area_fits = omega (arith, leb-true (area old + 2 * (h.width * h.height)) (2 ^ 28) d.0, same);
          kept_fits = omega (arith, p.kept, ap kept_bytes q.kept);
        })

record IsLayer (file : List ℕ) (old : Document) (h : Head) (new : Document) : Type 0 where
  adds : AddsLayer file old h new
  within : IsWithin new

layer_back : (file : List ℕ) (old : Document) (h : Head) (branch : Nodes) (new : Document) → AreBytes file
    → all_kept old + kept_bytes (kept_of owners.Layer h.props.list) ≤ 2 ^ 28
    → layer_at file old h ≡ Ok branch → placed old h branch ≡ Ok new → IsLayer file old h new
unfolding layer_at layer_rule
layer_back file old h branch new all kept e put =
    let rule = bind_back (layer_rule old h) _ branch e in
    let a = wants_back (is_side h.width) (fault BadSize h.at) _ tt rule.1 in
    let b = wants_back (is_side h.height) (fault BadSize (h.at + 4)) _ tt a.1 in
    let c = wants_back (nat_le (area old + h.width * h.height) (2 ^ 28)) (fault TooLarge h.at) _ tt b.1 in
    let d = rule_back (nat_lt 0 h.hierarchy) (fault BadHierarchy (hierarchy_place h)) c.1 in
    let plane = bind_back (hierarchy_at file h.hierarchy h.width h.height (bytes_of_kind h.kind) old.compression) _ branch rule.2 in
    let mask = bind_back (mask_at file old h) _ branch plane.2 in
    let alone : Nodes = leaf (1 + size old.nodes) (layer_of h plane.0 mask.0) none in
    let places = placed_back old h alone new (ap (placed old h) (one_read alone branch mask.2) ∙ put) in
    let q = plane_has file h.hierarchy h.width h.height (bytes_of_kind h.kind) old.compression plane.0 all plane.1 in
    let same : plane.0.width * plane.0.height ≡ h.width * h.height = λ i. q.is.width_is i * q.is.height_is i in
    let m = mask_back file old h mask.0 all (leb-true (area old + h.width * h.height) (2 ^ 28) c.0) kept mask.1 in
    record {
      adds = record {
        width = side_back h.width a.0;
        height = side_back h.height b.0;
        plane = plane.0;
        plane_is = q.is;
        some_hierarchy = ltb-true 0 h.hierarchy d;
        has_plane = q.has;
        mask = mask.0;
        has_mask = m.has;
        places = places;
      };
      within = record {
        area = omega (arith, places_area old h alone new places, same, m.area_fits);
        kept = omega (arith, places_kept old h alone new places, m.kept_fits);
      };
    }

-- a node is added, the document is within the limits again, and the channels stay
record IsNode (file : List ℕ) (at : ℕ) (old new : Document) : Type 0 where
  adds : AddsNode file at old new
  within : IsWithin new
  channels : new.channels ≡ old.channels

not_indexed : (indexed grouped : Bool) → grouped ≡ true → not (indexed && grouped) ≡ true → indexed ≡ false
not_indexed true grouped g e = cc
not_indexed false grouped g e = refl

node_by : (file : List ℕ) (at : ℕ) (old new : Document) (h : Head) (branch : Nodes) → AreBytes file → IsHead file at old h
    → length (path_to h.props.list) < 8 → placed old h branch ≡ Ok new
    → (b : Bool) → is_group h.props.list ≡ b → (is_group h.props.list ≡ true → group_at old h ≡ Ok branch)
    → (is_group h.props.list ≡ false → layer_at file old h ≡ Ok branch)
    → IsNode file at old new
node_by file at old new h branch all head short put true t grouped layered =
    let g = group_back old h branch new (not_indexed (is_indexed old.base) (is_group h.props.list) t head.groups) head.kept
    (grouped t) put in
    record {
      adds = record {
        head = h;
        has_head = head.stands;
        short_path = short;
        adds =
            subst (λ b. MatchBool b (AddsGroup old h new) (AddsLayer file old h new)) (sym t) g.adds;
      };
      within = g.within;
      channels = ap (λ d. d.channels) g.adds.places.2;
    }
node_by file at old new h branch all head short put false t grouped layered =
    let l = layer_back file old h branch new all head.kept (layered t) put in
    record {
      adds = record {
        head = h;
        has_head = head.stands;
        short_path = short;
        adds =
            subst (λ b. MatchBool b (AddsGroup old h new) (AddsLayer file old h new)) (sym t) l.adds;
      };
      within = l.within;
      channels = ap (λ d. d.channels) l.adds.places.2;
    }

node_back : (file : List ℕ) (at : ℕ) (old new : Document) → AreBytes file → IsWithin old → node_at file at old ≡ Ok new
    → IsNode file at old new
unfolding node_at
node_back file at old new all w e =
    let h = bind_back (head_at file at old) _ new e in
    let path = bind_back (path_of old h.0) _ new h.2 in
    let branch = bind_back (branch_at file old h.0) _ new path.2 in
    let c = choice_back (is_group h.0.props.list) _ _ branch.0 branch.1 in
    node_by file at old new h.0 branch.0 all (head_back file at old h.0 w h.1) (path_back old h.0 path.1) branch.2
    (is_group h.0.props.list) refl c.0 c.1

pub record HasNodes (room : ℕ) (file : List ℕ) (at : ℕ) (old : Document) (upto : Upto) : Type 0 where
  pub pointers : List ℕ
  pub few : length pointers ≤ room
  pub add : AddNodes file at pointers old upto.document
  pub next : upto.next ≡ at + 4 + 4 * length pointers
  pub within : IsWithin upto.document
  pub channels : upto.document.channels ≡ old.channels

-- the zero word behind the pointers
no_nodes : (room : ℕ) (file : List ℕ) (at pointer : ℕ) (old : Document) (upto : Upto) → HasWord file at pointer → pointer ≡ 0
    → IsWithin old
    → record { document = old; next = at + 4 } ≡ upto → HasNodes room file at old upto
no_nodes room file at pointer old upto word zero_is w is =
    subst (HasNodes room file at old) is (record {
      pointers = [];
      few = omega arith;
      add = (subst (λ n. HasWord file at n) zero_is word, refl);
      next = omega arith;
      within = w;
      channels = refl;
    })

nodes_by : (room : ℕ) (file : List ℕ) (at pointer : ℕ) (old : Document) (upto : Upto) → AreBytes file → IsWithin old
    → HasWord file at pointer
    → ((mid : Document) → IsWithin mid → nodes_at room file (at + 4) mid ≡ Ok upto → HasNodes room file (at + 4) mid upto)
    → (b : Bool) → (pointer == 0) ≡ b
    → ((pointer == 0) ≡ true → ◌≡◌ {A = Read Upto} (Ok (record { document = old; next = at + 4 })) (Ok upto))
    → ((pointer == 0) ≡ false → (node_at file pointer old >>= (λ changed. nodes_at room file (at + 4) changed)) ≡ Ok upto)
    → HasNodes (suc room) file at old upto
nodes_by room file at pointer old upto all w word more true t ended goes_on =
    no_nodes (suc room) file at pointer old upto word (eqb-true pointer 0 t) w
    (one_read (record { document = old; next = at + 4 }) upto (ended t))
nodes_by room file at pointer old upto all w word more false t ended goes_on =
    let mid = bind_back (node_at file pointer old) _ upto (goes_on t) in
    let node = node_back file pointer old mid.0 all w mid.1 in
    let rest = more mid.0 node.within mid.2 in
    record {
      pointers = pointer ∷ rest.pointers;
      few = omega (arith, rest.few);
      add = (word, omega (arith, eqb-false pointer 0 t), (mid.0, node.adds, rest.add));
      next = omega (arith, rest.next);
      within = rest.within;
      channels = rest.channels ∙ node.channels;
    }

pub nodes_back : (room : ℕ) (file : List ℕ) (at : ℕ) (old : Document) (upto : Upto) → AreBytes file → IsWithin old
    → nodes_at room file at old ≡ Ok upto → HasNodes room file at old upto
unfolding nodes_at
nodes_back zero file at old upto all w e =
    let a = word_first file at _ upto e in
    let b = wants_back (a.0 == 0) (fault TooMany at) _ upto a.2 in
    no_nodes zero file at a.0 old upto a.1 (eqb-true a.0 0 b.0) w (one_read (record { document = old; next = at + 4 }) upto b.1)
nodes_back (suc room) file at old upto all w e =
    let a = word_first file at _ upto e in
    let c = choice_back (a.0 == 0) _ _ upto a.2 in
    nodes_by room file at a.0 old upto all w a.1 (λ mid within rest. nodes_back room file (at + 4) mid upto all within rest)
    (a.0 == 0) refl c.0 c.1
