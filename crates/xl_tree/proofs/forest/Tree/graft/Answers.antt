use Rattle.std.proofs.Common.{◌++◌, length, sym, ◌∙◌, ap, arith}
use Rattle.spec_document.specs.Forest.{size}
use Rattle.xl_tree.specs.Flat.{flat, forest_of}
use Rattle.xl_tree.specs.Refusals.{put_refusal}
use Rattle.xl_tree.proofs.Flat.{size-forest_of}
use Rattle.xl_tree.proofs.Indexed.{same_index}
use Rattle.xl_tree.proofs.Moved.{slot_of, slot_fits, shallow_tail, grafted}
use Rattle.xl_tree.proofs.Own.{own_same, own_in_slot, none_own, none_siblings}
use Rattle.xl_tree.proofs.forest.Tree.graft.Goals as goal

pub unwrap-requires : goal.unwrap-requires
unwrap-requires g c =
    c.append.ensures.succeeds (omega (
      arith,
      c.requires.few,
      size-forest_of 0 _ c.self.invariant.siblings.flat_is,
      ap size c.self.view_is,
      c.self.inside.entries.ok.0,
      c.self.invariant.room,
      size-forest_of 0 _ c.branch.invariant.0.flat_is,
      ap (λ h. size h.forest) c.branch.view_is,
      c.branch.inside.entries.ok.0,
    ))

pub put_back-requires-clause-within : goal.put_back-requires-clause-within
put_back-requires-clause-within g c =
    let slot = slot_of c.args.parent.0 c.args.place _ _ _ _ c.args.self.now c.as_slice.ensures.value c.self.view_is
    c.in_ok-slot.ensures.slot in
    let fits = slot_fits c.args.parent.0 c.args.place _ _ _ c.args.self.now c.self.invariant.siblings c.self.view_is slot in
    let joined = rw c.unwrap.ensures at c.append.ensures.len in
    omega (arith, fits.within, joined, c.len-count.ensures, c.self.inside.entries.ok.0)

pub put_back-requires-clause-shallow : goal.put_back-requires-clause-shallow
put_back-requires-clause-shallow g c =
    let joined = rw c.unwrap.ensures at c.append.ensures.items in
    shallow_tail _ _ c.append.new.self.items _ _ joined c.append.new.self.ok.0 (c.len-count.ensures
    ∙ c.branch.inside.entries.ok.0) c.branch.invariant.0

pub put_back-requires-clause-low : goal.put_back-requires-clause-low
put_back-requires-clause-low g c =
    let slot = slot_of c.args.parent.0 c.args.place _ _ _ _ c.args.self.now c.as_slice.ensures.value c.self.view_is
    c.in_ok-slot.ensures.slot in
    (slot_fits c.args.parent.0 c.args.place _ _ _ c.args.self.now c.self.invariant.siblings c.self.view_is slot).low

pub renew-requires : goal.renew-requires
renew-requires g c =
    let slot = slot_of c.args.parent.0 c.args.place _ _ _ _ c.args.self.now c.as_slice.ensures.value c.self.view_is
    c.in_ok-slot.ensures.slot in
    let met = sym (c.in_ok-slot.ensures.refused
    ∙ ap (put_refusal c.args.parent.0 c.args.place) (ap forest_of c.as_slice.ensures.value ∙ c.self.view_is)) in
    let joined = rw c.unwrap.ensures at c.append.ensures.items in
    let b_is = ap (λ h. h.forest) c.branch.view_is in
    let parked = joined ∙ (λ j. (c.self.invariant.siblings.flat_is ∙ ap (flat 0) c.self.view_is) j
    ++ (c.branch.invariant.0.flat_is ∙ ap (flat 0) b_is) j) in
    let count = c.len-count.ensures ∙ (c.branch.inside.entries.ok.0
    ∙ (sym (size-forest_of 0 _ c.branch.invariant.0.flat_is) ∙ ap size b_is)) in
    let done = grafted c.args.parent.0 c.args.place c.args.self.now c.args.branch.now.forest c.append.new.self.items _ _ _ _ _
    parked c.append.new.self.ok.0 count slot (omega (arith, c.requires.few)) (c.requires.low met) c.put_back.ensures.items in
    omega (arith, done.siblings.few, ap length c.as_slice-2.ensures.value)

pub invariant_of-self : goal.invariant_of-self
invariant_of-self g c =
    let slot = slot_of c.args.parent.0 c.args.place _ _ _ _ c.args.self.now c.as_slice.ensures.value c.self.view_is
    c.in_ok-slot.ensures.slot in
    let met = sym (c.in_ok-slot.ensures.refused
    ∙ ap (put_refusal c.args.parent.0 c.args.place) (ap forest_of c.as_slice.ensures.value ∙ c.self.view_is)) in
    let joined = rw c.unwrap.ensures at c.append.ensures.items in
    let b_is = ap (λ h. h.forest) c.branch.view_is in
    let parked = joined ∙ (λ j. (c.self.invariant.siblings.flat_is ∙ ap (flat 0) c.self.view_is) j
    ++ (c.branch.invariant.0.flat_is ∙ ap (flat 0) b_is) j) in
    let count = c.len-count.ensures ∙ (c.branch.inside.entries.ok.0
    ∙ (sym (size-forest_of 0 _ c.branch.invariant.0.flat_is) ∙ ap size b_is)) in
    let done = grafted c.args.parent.0 c.args.place c.args.self.now c.args.branch.now.forest c.append.new.self.items _ _ _ _ _
    parked c.append.new.self.ok.0 count slot (omega (arith, c.requires.few)) (c.requires.low met) c.put_back.ensures.items in
    record {
      siblings = done.siblings;
      own = own_same _ _ (sym done.view)
          (own_in_slot c.args.parent.0 c.args.place c.args.self.now c.args.branch.now.forest _ _ slot
          (own_same _ _ b_is c.branch.invariant.2)
          (own_same _ c.args.self.now c.self.view_is c.self.invariant.own) c.requires.apart);
      room = omega (arith, c.self.invariant.room, c.append.ensures.capacity, c.put_back.ensures.room);
      indexed = same_index c.renew.new.self _ _ c.renew.ensures c.as_slice-2.ensures.value;
    }

pub returns-clause-tree : goal.returns-clause-tree
returns-clause-tree g c =
    let slot = slot_of c.args.parent.0 c.args.place _ _ _ _ c.args.self.now c.as_slice.ensures.value c.self.view_is
    c.in_ok-slot.ensures.slot in
    let met = sym (c.in_ok-slot.ensures.refused
    ∙ ap (put_refusal c.args.parent.0 c.args.place) (ap forest_of c.as_slice.ensures.value ∙ c.self.view_is)) in
    let joined = rw c.unwrap.ensures at c.append.ensures.items in
    let b_is = ap (λ h. h.forest) c.branch.view_is in
    let parked = joined ∙ (λ j. (c.self.invariant.siblings.flat_is ∙ ap (flat 0) c.self.view_is) j
    ++ (c.branch.invariant.0.flat_is ∙ ap (flat 0) b_is) j) in
    let count = c.len-count.ensures ∙ (c.branch.inside.entries.ok.0
    ∙ (sym (size-forest_of 0 _ c.branch.invariant.0.flat_is) ∙ ap size b_is)) in
    let done = grafted c.args.parent.0 c.args.place c.args.self.now c.args.branch.now.forest c.append.new.self.items _ _ _ _ _
    parked c.append.new.self.ok.0 count slot (omega (arith, c.requires.few)) (c.requires.low met) c.put_back.ensures.items in
    done.view

pub invariant_of-branch : goal.invariant_of-branch
invariant_of-branch g c =
    let empty = rw c.unwrap.ensures at c.append.ensures.other_items in (
      none_siblings c.append.new.other.items empty,
      omega (arith, c.branch.invariant.1, c.append.ensures.other_capacity),
      none_own c.append.new.other.items empty,
    )
