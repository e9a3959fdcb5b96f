use Rattle.std.proofs.Common.{length, sym, ◌∙◌, ap, arith}
use Rattle.std.specs.List.{insert}
use Rattle.spec_document.specs.Forest.{size}
use Rattle.xl_tree.specs.Flat.{flat, forest_of}
use Rattle.xl_tree.specs.Refusals.{put_refusal}
use Rattle.xl_tree.proofs.Flat.{size-forest_of}
use Rattle.xl_tree.proofs.FlatHoles.{entry_of}
use Rattle.xl_tree.proofs.Indexed.{same_index}
use Rattle.xl_tree.proofs.Moved.{slot_of, slot_fits, put_in_one}
use Rattle.xl_tree.proofs.Own.{own_same, own_alone, alone_apart, own_in_slot}
use Rattle.xl_tree.proofs.forest.Tree.insert.Goals as goal

pub insert-requires : goal.insert-requires
insert-requires g c =
    let slot = slot_of c.args.parent.0 c.args.place _ _ _ _ c.args.self.now c.as_slice.ensures.value c.self.view_is
    c.in-Ok.ensures.slot in
    omega (
      arith,
      (slot_fits c.args.parent.0 c.args.place _ _ _ c.args.self.now c.self.invariant.siblings c.self.view_is
          slot).within,
      c.self.inside.entries.ok.0,
    )

pub unwrap-requires : goal.unwrap-requires
unwrap-requires g c =
    c.insert.ensures.succeeds (omega (
      arith,
      c.requires.few,
      size-forest_of 0 _ c.self.invariant.siblings.flat_is,
      ap size c.self.view_is,
      c.self.inside.entries.ok.0,
      c.self.invariant.room,
    ))

pub renew-requires : goal.renew-requires
renew-requires g c =
    let slot = slot_of c.args.parent.0 c.args.place _ _ _ _ c.args.self.now c.as_slice.ensures.value c.self.view_is
    c.in-Ok.ensures.slot in
    let met = sym (c.in-Ok.ensures.refused
    ∙ ap (put_refusal c.args.parent.0 c.args.place) (ap forest_of c.as_slice.ensures.value ∙ c.self.view_is)) in
    let new_is = rw c.unwrap.ensures at c.insert.ensures.items in
    let entry_is = ap (λ m. insert c.self.inside.entries.items c.in-Ok.slot.at
    (entry_of c.in-Ok.slot.level c.args.id.0 m c.args.node)) c.is_group.ensures in
    let put = put_in_one c.args.parent.0 c.args.place _ _ c.args.self.now _ _ c.args.id.0
    (g.N.Shown.is_group c.args.node) c.args.node (c.self.invariant.siblings.flat_is
    ∙ ap (flat 0) c.self.view_is) slot c.requires.few (c.requires.low met) (new_is ∙ entry_is) in
    omega (arith, put.siblings.few, ap length c.as_slice-2.ensures.value)

pub invariant_of-self : goal.invariant_of-self
invariant_of-self g c =
    let slot = slot_of c.args.parent.0 c.args.place _ _ _ _ c.args.self.now c.as_slice.ensures.value c.self.view_is
    c.in-Ok.ensures.slot in
    let met = sym (c.in-Ok.ensures.refused
    ∙ ap (put_refusal c.args.parent.0 c.args.place) (ap forest_of c.as_slice.ensures.value ∙ c.self.view_is)) in
    let new_is = rw c.unwrap.ensures at c.insert.ensures.items in
    let entry_is = ap (λ m. insert c.self.inside.entries.items c.in-Ok.slot.at
    (entry_of c.in-Ok.slot.level c.args.id.0 m c.args.node)) c.is_group.ensures in
    let own = own_same _ c.args.self.now c.self.view_is c.self.invariant.own in
    let put = put_in_one c.args.parent.0 c.args.place _ _ c.args.self.now _ _ c.args.id.0
    (g.N.Shown.is_group c.args.node) c.args.node (c.self.invariant.siblings.flat_is
    ∙ ap (flat 0) c.self.view_is) slot c.requires.few (c.requires.low met) (new_is ∙ entry_is) in
    record {
      own = own_same _ _ (sym put.view)
          (own_in_slot c.args.parent.0 c.args.place c.args.self.now _ _ _ slot
          (own_alone (g.N.Shown.is_group c.args.node) c.args.id.0 c.args.node c.args.self.now c.requires.new) own
          (alone_apart (g.N.Shown.is_group c.args.node) c.args.id.0 c.args.node c.args.self.now c.requires.new own));
      siblings = (put_in_one c.args.parent.0 c.args.place _ _ c.args.self.now _ _ c.args.id.0
          (g.N.Shown.is_group c.args.node) c.args.node (c.self.invariant.siblings.flat_is
          ∙ ap (flat 0) c.self.view_is) slot c.requires.few (c.requires.low met) (new_is ∙ entry_is)).siblings;
      room = omega (arith, c.self.invariant.room, c.insert.ensures.capacity);
      indexed = same_index c.renew.new.self _ _ c.renew.ensures c.as_slice-2.ensures.value;
    }

pub returns-clause-tree : goal.returns-clause-tree
returns-clause-tree g c =
    let slot = slot_of c.args.parent.0 c.args.place _ _ _ _ c.args.self.now c.as_slice.ensures.value c.self.view_is
    c.in-Ok.ensures.slot in
    let met = sym (c.in-Ok.ensures.refused
    ∙ ap (put_refusal c.args.parent.0 c.args.place) (ap forest_of c.as_slice.ensures.value ∙ c.self.view_is)) in
    let new_is = rw c.unwrap.ensures at c.insert.ensures.items in
    let entry_is = ap (λ m. insert c.self.inside.entries.items c.in-Ok.slot.at
    (entry_of c.in-Ok.slot.level c.args.id.0 m c.args.node)) c.is_group.ensures in
    (put_in_one c.args.parent.0 c.args.place _ _ c.args.self.now _ _ c.args.id.0 (g.N.Shown.is_group c.args.node) c.args.node
    (c.self.invariant.siblings.flat_is ∙ ap (flat 0) c.self.view_is) slot c.requires.few (c.requires.low met) (new_is
    ∙ entry_is)).view
