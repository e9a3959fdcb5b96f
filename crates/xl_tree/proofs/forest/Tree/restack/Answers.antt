use Rattle.std.proofs.Common.{List, length, sym, ◌∙◌, subst, ap, arith}
use Rattle.spec_document.specs.Forest.{size, levels}
use Rattle.xl_tree.specs.Flat.{flat, forest_of}
use Rattle.xl_tree.specs.Kept.{AreSiblings}
use Rattle.xl_tree.specs.Refusals.{answer_of, put_refusal}
use Rattle.xl_tree.proofs.Flat.{size-forest_of, forest_of_is}
use Rattle.xl_tree.proofs.Placed.{place_within, is_there, is_not_there}
use Rattle.xl_tree.proofs.Indexed.{same_index}
use Rattle.xl_tree.proofs.Moved.{slot_of, slot_within, slot_low, taken, grafted, restored}
use Rattle.xl_tree.proofs.Restacked.{is_parked, no_node_refuses, after_node, inside_refuses, place_is_left, answer_met}
use Rattle.xl_tree.proofs.Restacked.{answer_refused, residual_is, stack_refuses, rest_same, distinct_same}
use Rattle.xl_tree.proofs.Taken.{siblings}
use Rattle.xl_tree.proofs.Own.{own_same, own_in_slot, own_branch, own_without, taken_apart}
use Rattle.xl_tree.proofs.forest.Tree.restack.Goals as goal

pub returns-in_default-clause-answer : goal.returns-in_default-clause-answer
returns-in_default-clause-answer g c =
    sym (ap answer_of (no_node_refuses c.args.id.0 c.args.parent.0 c.args.place c.args.self.now _
    (is_not_there c.args.id.0 c.args.self.now c.in_default.ensures)))

pub returns-in_err-can_hold-clause-answer : goal.returns-in_err-can_hold-clause-answer
returns-in_err-can_hold-clause-answer g c =
    let there = is_there c.args.id.0 c.in-Some.at c.args.self.now c.in-Some.ensures in
    let refused = answer_refused _ _ c.in_err-can_hold.ensures in
    residual_is c.from_residual.result _ c.in_err-can_hold.field-0.0 c.from_residual.ensures.1 (λ e h. h)
    ∙ sym (ap answer_of (after_node c.args.id.0 c.args.parent.0 c.args.place c.args.self.now there ∙ stack_refuses _ _ _ refused))

pub returns-then-stands_in-clause-answer : goal.returns-then-stands_in-clause-answer
returns-then-stands_in-clause-answer g c =
    let there = is_there c.args.id.0 c.in-Some.at c.args.self.now c.in-Some.ensures in
    sym (ap answer_of (inside_refuses c.args.id.0 c.args.parent.0 c.args.place c.args.self.now there
    (answer_met _ c.in_ok-can_hold.ensures) (sym c.stands_in.ensures ∙ c.if-stands_in.true)))

pub index-requires : goal.index-requires
index-requires g c =
    omega (
      arith,
      place_within c.args.id.0 c.in-Some.at c.args.self.now (sym c.in-Some.ensures),
      size-forest_of 0 _ c.self.invariant.siblings.flat_is,
      ap size c.self.view_is,
      c.self.inside.entries.ok.0,
    )

pub take_out-requires-clause-within : goal.take_out-requires-clause-within
take_out-requires-clause-within g c =
    let t = taken c.args.id.0 c.in-Some.at _ _ c.args.self.now c.index.result.now c.self.invariant.siblings c.self.view_is
    c.in-Some.ensures (own_same _ c.args.self.now c.self.view_is c.self.invariant.own).distinct c.size-count.ensures
    c.index.ensures in
    omega (arith, t.out.within, c.self.inside.entries.ok.0)

pub take_out-requires-clause-shallow : goal.take_out-requires-clause-shallow
take_out-requires-clause-shallow g c =
    let t = taken c.args.id.0 c.in-Some.at _ _ c.args.self.now c.index.result.now c.self.invariant.siblings c.self.view_is
    c.in-Some.ensures (own_same _ c.args.self.now c.self.view_is c.self.invariant.own).distinct c.size-count.ensures
    c.index.ensures in
    t.out.shallow

pub overflow_sub-rest : goal.overflow_sub-rest
overflow_sub-rest g c =
    let t = taken c.args.id.0 c.in-Some.at _ _ c.args.self.now c.index.result.now c.self.invariant.siblings c.self.view_is
    c.in-Some.ensures (own_same _ c.args.self.now c.self.view_is c.self.invariant.own).distinct c.size-count.ensures
    c.index.ensures in
    let k = is_parked c.args.id.0 c.in-Some.at _ _ _ _ _ c.args.self.now c.self.invariant.siblings c.self.view_is
    (own_same _ c.args.self.now c.self.view_is c.self.invariant.own).distinct t c.take_out.ensures.items
    c.take_out.new.entries.ok.0 in
    omega (arith, k.within, c.len.ensures)

pub slot_in-requires-clause-siblings : goal.slot_in-requires-clause-siblings
slot_in-requires-clause-siblings g c =
    let t = taken c.args.id.0 c.in-Some.at _ _ c.args.self.now c.index.result.now c.self.invariant.siblings c.self.view_is
    c.in-Some.ensures (own_same _ c.args.self.now c.self.view_is c.self.invariant.own).distinct c.size-count.ensures
    c.index.ensures in
    let k = is_parked c.args.id.0 c.in-Some.at _ _ _ _ _ c.args.self.now c.self.invariant.siblings c.self.view_is
    (own_same _ c.args.self.now c.self.view_is c.self.invariant.own).distinct t c.take_out.ensures.items
    c.take_out.new.entries.ok.0 in
    let rest_is = rest_same c.size-count.result c.len.ensures c.deref.ensures.value in
    let P : List _ → Type 0 = λ x. AreSiblings 0 x in
    subst P (sym rest_is) k.rest

pub slot_in-requires-clause-distinct : goal.slot_in-requires-clause-distinct
slot_in-requires-clause-distinct g c =
    let t = taken c.args.id.0 c.in-Some.at _ _ c.args.self.now c.index.result.now c.self.invariant.siblings c.self.view_is
    c.in-Some.ensures (own_same _ c.args.self.now c.self.view_is c.self.invariant.own).distinct c.size-count.ensures
    c.index.ensures in
    let k = is_parked c.args.id.0 c.in-Some.at _ _ _ _ _ c.args.self.now c.self.invariant.siblings c.self.view_is
    (own_same _ c.args.self.now c.self.view_is c.self.invariant.own).distinct t c.take_out.ensures.items
    c.take_out.new.entries.ok.0 in
    let rest_is = rest_same c.size-count.result c.len.ensures c.deref.ensures.value in
    distinct_same _ _ (ap forest_of rest_is ∙ k.rest_is) k.distinct

pub put_back-requires-clause-within : goal.put_back-requires-clause-within
put_back-requires-clause-within g c =
    let t = taken c.args.id.0 c.in-Some.at _ _ c.args.self.now c.index.result.now c.self.invariant.siblings c.self.view_is
    c.in-Some.ensures (own_same _ c.args.self.now c.self.view_is c.self.invariant.own).distinct c.size-count.ensures
    c.index.ensures in
    let k = is_parked c.args.id.0 c.in-Some.at _ _ _ _ _ c.args.self.now c.self.invariant.siblings c.self.view_is
    (own_same _ c.args.self.now c.self.view_is c.self.invariant.own).distinct t c.take_out.ensures.items
    c.take_out.new.entries.ok.0 in
    let rest_is = rest_same c.size-count.result c.len.ensures c.deref.ensures.value in
    let slot = slot_of c.args.parent.0 c.args.place _ _ _ _ _ rest_is k.rest_is c.in-Ok.ensures.slot in
    omega (arith, k.sizes, slot_within c.args.parent.0 c.args.place _ _ _ slot)

pub put_back-requires-clause-shallow : goal.put_back-requires-clause-shallow
put_back-requires-clause-shallow g c =
    let t = taken c.args.id.0 c.in-Some.at _ _ c.args.self.now c.index.result.now c.self.invariant.siblings c.self.view_is
    c.in-Some.ensures (own_same _ c.args.self.now c.self.view_is c.self.invariant.own).distinct c.size-count.ensures
    c.index.ensures in
    let k = is_parked c.args.id.0 c.in-Some.at _ _ _ _ _ c.args.self.now c.self.invariant.siblings c.self.view_is
    (own_same _ c.args.self.now c.self.view_is c.self.invariant.own).distinct t c.take_out.ensures.items
    c.take_out.new.entries.ok.0 in
    k.shallow

pub put_back-requires-clause-low : goal.put_back-requires-clause-low
put_back-requires-clause-low g c =
    let t = taken c.args.id.0 c.in-Some.at _ _ c.args.self.now c.index.result.now c.self.invariant.siblings c.self.view_is
    c.in-Some.ensures (own_same _ c.args.self.now c.self.view_is c.self.invariant.own).distinct c.size-count.ensures
    c.index.ensures in
    let k = is_parked c.args.id.0 c.in-Some.at _ _ _ _ _ c.args.self.now c.self.invariant.siblings c.self.view_is
    (own_same _ c.args.self.now c.self.view_is c.self.invariant.own).distinct t c.take_out.ensures.items
    c.take_out.new.entries.ok.0 in
    let rest_is = rest_same c.size-count.result c.len.ensures c.deref.ensures.value in
    let slot = slot_of c.args.parent.0 c.args.place _ _ _ _ _ rest_is k.rest_is c.in-Ok.ensures.slot in
    slot_low c.args.parent.0 c.args.place _ _ _ (omega (arith, k.rest.low, ap levels k.rest_is)) slot

pub renew-requires : goal.renew-requires
renew-requires g c =
    let t = taken c.args.id.0 c.in-Some.at _ _ c.args.self.now c.index.result.now c.self.invariant.siblings c.self.view_is
    c.in-Some.ensures (own_same _ c.args.self.now c.self.view_is c.self.invariant.own).distinct c.size-count.ensures
    c.index.ensures in
    let k = is_parked c.args.id.0 c.in-Some.at _ _ _ _ _ c.args.self.now c.self.invariant.siblings c.self.view_is
    (own_same _ c.args.self.now c.self.view_is c.self.invariant.own).distinct t c.take_out.ensures.items
    c.take_out.new.entries.ok.0 in
    let rest_is = rest_same c.size-count.result c.len.ensures c.deref.ensures.value in
    let slot = slot_of c.args.parent.0 c.args.place _ _ _ _ _ rest_is k.rest_is c.in-Ok.ensures.slot in
    let there = is_there c.args.id.0 c.in-Some.at c.args.self.now c.in-Some.ensures in
    let holds = answer_met _ c.in_ok-can_hold.ensures in
    let outside = sym c.stands_in.ensures ∙ c.if-stands_in.false in
    let left = place_is_left c.args.id.0 c.args.parent.0 c.args.place c.in-Some.at c.args.self.now c.in-Some.ensures
    (own_same _ c.args.self.now c.self.view_is c.self.invariant.own).distinct there holds outside in
    let met = left ∙ sym (c.in-Ok.ensures.refused
    ∙ ap (put_refusal c.args.parent.0 c.args.place) (ap forest_of rest_is ∙ k.rest_is)) in
    let done = grafted c.args.parent.0 c.args.place _ _ c.take_out.new.entries.items _ _ _ _ _ k.flat_is c.take_out.new.entries.ok.0
    k.count_is slot (omega (
      arith,
      k.size_is,
      c.self.invariant.siblings.few,
      size-forest_of 0 _ c.self.invariant.siblings.flat_is,
      ap size c.self.view_is,
    ))
    (c.requires.low met) c.put_back.ensures.items in
    omega (arith, done.siblings.few, ap length c.as_slice.ensures.value)

pub invariant_of-self : goal.invariant_of-self
invariant_of-self g c =
    let t = taken c.args.id.0 c.in-Some.at _ _ c.args.self.now c.index.result.now c.self.invariant.siblings c.self.view_is
    c.in-Some.ensures (own_same _ c.args.self.now c.self.view_is c.self.invariant.own).distinct c.size-count.ensures
    c.index.ensures in
    let k = is_parked c.args.id.0 c.in-Some.at _ _ _ _ _ c.args.self.now c.self.invariant.siblings c.self.view_is
    (own_same _ c.args.self.now c.self.view_is c.self.invariant.own).distinct t c.take_out.ensures.items
    c.take_out.new.entries.ok.0 in
    let rest_is = rest_same c.size-count.result c.len.ensures c.deref.ensures.value in
    let slot = slot_of c.args.parent.0 c.args.place _ _ _ _ _ rest_is k.rest_is c.in-Ok.ensures.slot in
    let there = is_there c.args.id.0 c.in-Some.at c.args.self.now c.in-Some.ensures in
    let holds = answer_met _ c.in_ok-can_hold.ensures in
    let outside = sym c.stands_in.ensures ∙ c.if-stands_in.false in
    let left = place_is_left c.args.id.0 c.args.parent.0 c.args.place c.in-Some.at c.args.self.now c.in-Some.ensures
    (own_same _ c.args.self.now c.self.view_is c.self.invariant.own).distinct there holds outside in
    let met = left ∙ sym (c.in-Ok.ensures.refused
    ∙ ap (put_refusal c.args.parent.0 c.args.place) (ap forest_of rest_is ∙ k.rest_is)) in
    let done = grafted c.args.parent.0 c.args.place _ _ c.take_out.new.entries.items _ _ _ _ _ k.flat_is c.take_out.new.entries.ok.0
    k.count_is slot (omega (
      arith,
      k.size_is,
      c.self.invariant.siblings.few,
      size-forest_of 0 _ c.self.invariant.siblings.flat_is,
      ap size c.self.view_is,
    ))
    (c.requires.low met) c.put_back.ensures.items in
    let own = own_same _ c.args.self.now c.self.view_is c.self.invariant.own in
    record {
      siblings = done.siblings;
      own = own_same _ _ (sym done.view)
          (own_in_slot c.args.parent.0 c.args.place _ _ _ _ slot (own_branch c.args.id.0 c.args.self.now own)
          (own_without c.args.id.0 c.args.self.now own) (taken_apart c.args.id.0 c.args.self.now own));
      room = omega (arith, c.self.invariant.room, c.take_out.ensures.room, c.put_back.ensures.room);
      indexed = same_index c.renew.new.self _ _ c.renew.ensures c.as_slice.ensures.value;
    }

pub put_back-requires-in-Err-clause-within : goal.put_back-requires-in-Err-clause-within
put_back-requires-in-Err-clause-within g c =
    let t = taken c.args.id.0 c.in-Some.at _ _ c.args.self.now c.index.result.now c.self.invariant.siblings c.self.view_is
    c.in-Some.ensures (own_same _ c.args.self.now c.self.view_is c.self.invariant.own).distinct c.size-count.ensures
    c.index.ensures in
    let k = is_parked c.args.id.0 c.in-Some.at _ _ _ _ _ c.args.self.now c.self.invariant.siblings c.self.view_is
    (own_same _ c.args.self.now c.self.view_is c.self.invariant.own).distinct t c.take_out.ensures.items
    c.take_out.new.entries.ok.0 in
    k.at_within

pub put_back-requires-in-Err-clause-shallow : goal.put_back-requires-in-Err-clause-shallow
put_back-requires-in-Err-clause-shallow g c =
    let t = taken c.args.id.0 c.in-Some.at _ _ c.args.self.now c.index.result.now c.self.invariant.siblings c.self.view_is
    c.in-Some.ensures (own_same _ c.args.self.now c.self.view_is c.self.invariant.own).distinct c.size-count.ensures
    c.index.ensures in
    let k = is_parked c.args.id.0 c.in-Some.at _ _ _ _ _ c.args.self.now c.self.invariant.siblings c.self.view_is
    (own_same _ c.args.self.now c.self.view_is c.self.invariant.own).distinct t c.take_out.ensures.items
    c.take_out.new.entries.ok.0 in
    k.shallow

pub put_back-requires-in-Err-clause-low : goal.put_back-requires-in-Err-clause-low
put_back-requires-in-Err-clause-low g c =
    let t = taken c.args.id.0 c.in-Some.at _ _ c.args.self.now c.index.result.now c.self.invariant.siblings c.self.view_is
    c.in-Some.ensures (own_same _ c.args.self.now c.self.view_is c.self.invariant.own).distinct c.size-count.ensures
    c.index.ensures in
    let k = is_parked c.args.id.0 c.in-Some.at _ _ _ _ _ c.args.self.now c.self.invariant.siblings c.self.view_is
    (own_same _ c.args.self.now c.self.view_is c.self.invariant.own).distinct t c.take_out.ensures.items
    c.take_out.new.entries.ok.0 in
    k.low

pub invariant_of-self-in-Err : goal.invariant_of-self-in-Err
invariant_of-self-in-Err g c =
    let t = taken c.args.id.0 c.in-Some.at _ _ c.args.self.now c.index.result.now c.self.invariant.siblings c.self.view_is
    c.in-Some.ensures (own_same _ c.args.self.now c.self.view_is c.self.invariant.own).distinct c.size-count.ensures
    c.index.ensures in
    let k = is_parked c.args.id.0 c.in-Some.at _ _ _ _ _ c.args.self.now c.self.invariant.siblings c.self.view_is
    (own_same _ c.args.self.now c.self.view_is c.self.invariant.own).distinct t c.take_out.ensures.items
    c.take_out.new.entries.ok.0 in
    let back = restored c.args.id.0 c.in-Some.at c.args.self.now c.take_out.new.entries.items _ _ _ _ k.flat_is
    c.take_out.new.entries.ok.0 t.removal_is t.count_is t.level_is c.put_back-in-Err.ensures.items in
    record {
      own = own_same _ _ (sym (forest_of_is 0 _ c.args.self.now back))
          (own_same _ c.args.self.now c.self.view_is c.self.invariant.own);
      siblings = siblings 0 _ c.args.self.now back
          (omega (
            arith,
            c.self.invariant.siblings.few,
            size-forest_of 0 _ c.self.invariant.siblings.flat_is,
            ap size c.self.view_is,
          ))
          (omega (arith, c.self.invariant.siblings.low, ap levels c.self.view_is));
      room = omega (arith, c.self.invariant.room, c.take_out.ensures.room, c.put_back-in-Err.ensures.room);
      indexed = same_index c.self.inside.index _ _ c.self.invariant.indexed (c.self.invariant.siblings.flat_is
          ∙ (ap (flat 0) c.self.view_is ∙ sym back));
    }

pub returns-in-Ok-clause-answer : goal.returns-in-Ok-clause-answer
returns-in-Ok-clause-answer g c =
    let t = taken c.args.id.0 c.in-Some.at _ _ c.args.self.now c.index.result.now c.self.invariant.siblings c.self.view_is
    c.in-Some.ensures (own_same _ c.args.self.now c.self.view_is c.self.invariant.own).distinct c.size-count.ensures
    c.index.ensures in
    let k = is_parked c.args.id.0 c.in-Some.at _ _ _ _ _ c.args.self.now c.self.invariant.siblings c.self.view_is
    (own_same _ c.args.self.now c.self.view_is c.self.invariant.own).distinct t c.take_out.ensures.items
    c.take_out.new.entries.ok.0 in
    let rest_is = rest_same c.size-count.result c.len.ensures c.deref.ensures.value in
    let there = is_there c.args.id.0 c.in-Some.at c.args.self.now c.in-Some.ensures in
    let holds = answer_met _ c.in_ok-can_hold.ensures in
    let outside = sym c.stands_in.ensures ∙ c.if-stands_in.false in
    let left = place_is_left c.args.id.0 c.args.parent.0 c.args.place c.in-Some.at c.args.self.now c.in-Some.ensures
    (own_same _ c.args.self.now c.self.view_is c.self.invariant.own).distinct there holds outside in
    let met = left ∙ sym (c.in-Ok.ensures.refused
    ∙ ap (put_refusal c.args.parent.0 c.args.place) (ap forest_of rest_is ∙ k.rest_is)) in
    sym (ap answer_of met)

pub returns-in-Ok-clause-tree : goal.returns-in-Ok-clause-tree
returns-in-Ok-clause-tree g c =
    let t = taken c.args.id.0 c.in-Some.at _ _ c.args.self.now c.index.result.now c.self.invariant.siblings c.self.view_is
    c.in-Some.ensures (own_same _ c.args.self.now c.self.view_is c.self.invariant.own).distinct c.size-count.ensures
    c.index.ensures in
    let k = is_parked c.args.id.0 c.in-Some.at _ _ _ _ _ c.args.self.now c.self.invariant.siblings c.self.view_is
    (own_same _ c.args.self.now c.self.view_is c.self.invariant.own).distinct t c.take_out.ensures.items
    c.take_out.new.entries.ok.0 in
    let rest_is = rest_same c.size-count.result c.len.ensures c.deref.ensures.value in
    let slot = slot_of c.args.parent.0 c.args.place _ _ _ _ _ rest_is k.rest_is c.in-Ok.ensures.slot in
    let there = is_there c.args.id.0 c.in-Some.at c.args.self.now c.in-Some.ensures in
    let holds = answer_met _ c.in_ok-can_hold.ensures in
    let outside = sym c.stands_in.ensures ∙ c.if-stands_in.false in
    let left = place_is_left c.args.id.0 c.args.parent.0 c.args.place c.in-Some.at c.args.self.now c.in-Some.ensures
    (own_same _ c.args.self.now c.self.view_is c.self.invariant.own).distinct there holds outside in
    let met = left ∙ sym (c.in-Ok.ensures.refused
    ∙ ap (put_refusal c.args.parent.0 c.args.place) (ap forest_of rest_is ∙ k.rest_is)) in
    let done = grafted c.args.parent.0 c.args.place _ _ c.take_out.new.entries.items _ _ _ _ _ k.flat_is c.take_out.new.entries.ok.0
    k.count_is slot (omega (
      arith,
      k.size_is,
      c.self.invariant.siblings.few,
      size-forest_of 0 _ c.self.invariant.siblings.flat_is,
      ap size c.self.view_is,
    ))
    (c.requires.low met) c.put_back.ensures.items in
    done.view

pub returns-in-Err-clause-answer : goal.returns-in-Err-clause-answer
returns-in-Err-clause-answer g c =
    let t = taken c.args.id.0 c.in-Some.at _ _ c.args.self.now c.index.result.now c.self.invariant.siblings c.self.view_is
    c.in-Some.ensures (own_same _ c.args.self.now c.self.view_is c.self.invariant.own).distinct c.size-count.ensures
    c.index.ensures in
    let k = is_parked c.args.id.0 c.in-Some.at _ _ _ _ _ c.args.self.now c.self.invariant.siblings c.self.view_is
    (own_same _ c.args.self.now c.self.view_is c.self.invariant.own).distinct t c.take_out.ensures.items
    c.take_out.new.entries.ok.0 in
    let rest_is = rest_same c.size-count.result c.len.ensures c.deref.ensures.value in
    let there = is_there c.args.id.0 c.in-Some.at c.args.self.now c.in-Some.ensures in
    let holds = answer_met _ c.in_ok-can_hold.ensures in
    let outside = sym c.stands_in.ensures ∙ c.if-stands_in.false in
    let left = place_is_left c.args.id.0 c.args.parent.0 c.args.place c.in-Some.at c.args.self.now c.in-Some.ensures
    (own_same _ c.args.self.now c.self.view_is c.self.invariant.own).distinct there holds outside in
    sym (ap answer_of (left ∙ sym (c.in-Err.ensures.refused
    ∙ ap (put_refusal c.args.parent.0 c.args.place) (ap forest_of rest_is ∙ k.rest_is))))

pub returns-in-Err-clause-tree : goal.returns-in-Err-clause-tree
returns-in-Err-clause-tree g c =
    let t = taken c.args.id.0 c.in-Some.at _ _ c.args.self.now c.index.result.now c.self.invariant.siblings c.self.view_is
    c.in-Some.ensures (own_same _ c.args.self.now c.self.view_is c.self.invariant.own).distinct c.size-count.ensures
    c.index.ensures in
    let k = is_parked c.args.id.0 c.in-Some.at _ _ _ _ _ c.args.self.now c.self.invariant.siblings c.self.view_is
    (own_same _ c.args.self.now c.self.view_is c.self.invariant.own).distinct t c.take_out.ensures.items
    c.take_out.new.entries.ok.0 in
    let back = restored c.args.id.0 c.in-Some.at c.args.self.now c.take_out.new.entries.items _ _ _ _ k.flat_is
    c.take_out.new.entries.ok.0 t.removal_is t.count_is t.level_is c.put_back-in-Err.ensures.items in
    forest_of_is 0 _ c.args.self.now back
