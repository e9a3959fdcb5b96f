use Rattle.std.proofs.Common.{length, sym, ap, arith}
use Rattle.spec_document.specs.Forest.{size}
use Rattle.xl_tree.specs.Refusals.{answer_of}
use Rattle.xl_tree.proofs.Flat.{size-forest_of}
use Rattle.xl_tree.proofs.Placed.{place_within, is_there, is_not_there}
use Rattle.xl_tree.proofs.Indexed.{same_index}
use Rattle.xl_tree.proofs.Moved.{taken, removed, parked_within}
use Rattle.xl_tree.proofs.Own.{own_same, own_without, own_branch}
use Rattle.xl_tree.proofs.forest.Tree.remove.Goals as goal

pub returns-in_default-clause-answer : goal.returns-in_default-clause-answer
returns-in_default-clause-answer g c = sym (ap answer_of (is_not_there c.args.id.0 c.args.self.now c.in_default.ensures))

pub index-requires : goal.index-requires
index-requires g c =
    omega (
      arith,
      place_within c.args.id.0 c.in-Some.at c.args.self.now (sym c.in-Some.ensures),
      size-forest_of 0 _ c.self.invariant.siblings.flat_is,
      ap size c.self.view_is,
      c.self.inside.entries.ok.0,
    )

pub take_out-requires-clause-within : goal.take_out-requires-clause-within
take_out-requires-clause-within g c =
    let t = taken c.args.id.0 c.in-Some.at _ _ c.args.self.now c.index.result.now c.self.invariant.siblings c.self.view_is
    c.in-Some.ensures (own_same _ c.args.self.now c.self.view_is c.self.invariant.own).distinct c.size-count.ensures
    c.index.ensures in
    omega (arith, t.out.within, c.self.inside.entries.ok.0)

pub take_out-requires-clause-shallow : goal.take_out-requires-clause-shallow
take_out-requires-clause-shallow g c =
    (taken c.args.id.0 c.in-Some.at _ _ c.args.self.now c.index.result.now c.self.invariant.siblings c.self.view_is
    c.in-Some.ensures (own_same _ c.args.self.now c.self.view_is c.self.invariant.own).distinct c.size-count.ensures
    c.index.ensures).out.shallow

pub move_tail-requires-clause-within : goal.move_tail-requires-clause-within
move_tail-requires-clause-within g c =
    let t = taken c.args.id.0 c.in-Some.at _ _ c.args.self.now c.index.result.now c.self.invariant.siblings c.self.view_is
    c.in-Some.ensures (own_same _ c.args.self.now c.self.view_is c.self.invariant.own).distinct c.size-count.ensures
    c.index.ensures in
    parked_within c.args.id.0 c.in-Some.at _ _ _ _ _ c.args.self.now t c.take_out.ensures.items c.take_out.new.entries.ok.0

pub renew-requires : goal.renew-requires
renew-requires g c =
    let t = taken c.args.id.0 c.in-Some.at _ _ c.args.self.now c.index.result.now c.self.invariant.siblings c.self.view_is
    c.in-Some.ensures (own_same _ c.args.self.now c.self.view_is c.self.invariant.own).distinct c.size-count.ensures
    c.index.ensures in
    let r = removed c.args.id.0 c.in-Some.at _ _ _ _ _ _ _ c.args.self.now c.self.invariant.siblings c.self.view_is t
    c.take_out.ensures.items c.take_out.new.entries.ok.0 c.move_tail.ensures.from c.move_tail.ensures.to in
    omega (arith, r.from_siblings.few, ap length c.as_slice.ensures.value)

pub invariant_of-self : goal.invariant_of-self
invariant_of-self g c =
    let t = taken c.args.id.0 c.in-Some.at _ _ c.args.self.now c.index.result.now c.self.invariant.siblings c.self.view_is
    c.in-Some.ensures (own_same _ c.args.self.now c.self.view_is c.self.invariant.own).distinct c.size-count.ensures
    c.index.ensures in
    let r = removed c.args.id.0 c.in-Some.at _ _ _ _ _ _ _ c.args.self.now c.self.invariant.siblings c.self.view_is t
    c.take_out.ensures.items c.take_out.new.entries.ok.0 c.move_tail.ensures.from c.move_tail.ensures.to in
    record {
      siblings = r.from_siblings;
      own = own_same _ _ (sym r.from_view)
          (own_without c.args.id.0 c.args.self.now (own_same _ c.args.self.now c.self.view_is c.self.invariant.own));
      room = omega (arith, c.self.invariant.room, c.take_out.ensures.room, c.move_tail.ensures.from_room);
      indexed = same_index c.renew.new.self _ _ c.renew.ensures c.as_slice.ensures.value;
    }

pub invariant_of-branch : goal.invariant_of-branch
invariant_of-branch g c =
    let t = taken c.args.id.0 c.in-Some.at _ _ c.args.self.now c.index.result.now c.self.invariant.siblings c.self.view_is
    c.in-Some.ensures (own_same _ c.args.self.now c.self.view_is c.self.invariant.own).distinct c.size-count.ensures
    c.index.ensures in
    let r = removed c.args.id.0 c.in-Some.at _ _ _ _ _ _ _ c.args.self.now c.self.invariant.siblings c.self.view_is t
    c.take_out.ensures.items c.take_out.new.entries.ok.0 c.move_tail.ensures.from c.move_tail.ensures.to in (
      r.to_siblings,
      omega (arith, c.branch.invariant.1, c.move_tail.ensures.to_room),
      own_same _ _ (sym r.to_view) (own_branch c.args.id.0 c.args.self.now
          (own_same _ c.args.self.now c.self.view_is c.self.invariant.own)),
    )

pub returns-clause-answer : goal.returns-clause-answer
returns-clause-answer g c = sym (ap answer_of (is_there c.args.id.0 c.in-Some.at c.args.self.now c.in-Some.ensures))

pub returns-clause-tree : goal.returns-clause-tree
returns-clause-tree g c =
    let t = taken c.args.id.0 c.in-Some.at _ _ c.args.self.now c.index.result.now c.self.invariant.siblings c.self.view_is
    c.in-Some.ensures (own_same _ c.args.self.now c.self.view_is c.self.invariant.own).distinct c.size-count.ensures
    c.index.ensures in
    (removed c.args.id.0 c.in-Some.at _ _ _ _ _ _ _ c.args.self.now c.self.invariant.siblings c.self.view_is t
    c.take_out.ensures.items c.take_out.new.entries.ok.0 c.move_tail.ensures.from c.move_tail.ensures.to).from_view

pub returns-clause-branch : goal.returns-clause-branch
returns-clause-branch g c =
    let t = taken c.args.id.0 c.in-Some.at _ _ c.args.self.now c.index.result.now c.self.invariant.siblings c.self.view_is
    c.in-Some.ensures (own_same _ c.args.self.now c.self.view_is c.self.invariant.own).distinct c.size-count.ensures
    c.index.ensures in
    let r = removed c.args.id.0 c.in-Some.at _ _ _ _ _ _ _ c.args.self.now c.self.invariant.siblings c.self.view_is t
    c.take_out.ensures.items c.take_out.new.entries.ok.0 c.move_tail.ensures.from c.move_tail.ensures.to in
    λ j. record { forest = r.to_view j; room = ap (λ h. h.room) c.branch.view_is j }
