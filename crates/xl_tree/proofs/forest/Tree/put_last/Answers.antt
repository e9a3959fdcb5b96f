use Rattle.std.proofs.Common.{◌≡◌, length, sym, ◌∙◌, ap, arith, Some}
use Rattle.std.specs.Prelude.{is_some}
use Rattle.spec_document.specs.Forest.{none, size}
use Rattle.spec_document.specs.Changes.{put_last}
use Rattle.xl_tree.specs.Places.{end_at, alone}
use Rattle.xl_tree.proofs.Flat.{size-forest_of}
use Rattle.xl_tree.proofs.Paths.{end_some}
use Rattle.xl_tree.proofs.Indexed.{same_index}
use Rattle.xl_tree.proofs.PutLast.{end_within, put_last_entry}
use Rattle.xl_tree.proofs.Own.{own_same, own_last}
use Rattle.xl_tree.proofs.forest.Tree.put_last.Goals as goal

pub unwrap-at-requires : goal.unwrap-at-requires
unwrap-at-requires g c =
    ap is_some (c.end_at.ensures ∙ ap (end_at c.args.path.now) c.top.ensures.value)
    ∙ end_some c.args.path.now none c.args.self.now c.requires.leads

pub insert-requires : goal.insert-requires
insert-requires g c =
    let at : end_at c.args.path.now c.args.self.now ≡ Some c.unwrap-at.result =
    sym (c.end_at.ensures ∙ ap (end_at c.args.path.now) c.top.ensures.value) ∙ c.unwrap-at.ensures in
    omega (
      arith,
      end_within c.args.path.now c.args.self.now c.unwrap-at.result at,
      size-forest_of 0 _ c.self.invariant.siblings.flat_is,
      ap size c.self.view_is,
      c.self.inside.entries.ok.0,
    )

pub unwrap-requires : goal.unwrap-requires
unwrap-requires g c =
    c.insert.ensures.succeeds (omega (
      arith,
      c.requires.few,
      size-forest_of 0 _ c.self.invariant.siblings.flat_is,
      ap size c.self.view_is,
      c.self.inside.entries.ok.0,
      c.self.invariant.room,
    ))

pub renew-requires : goal.renew-requires
renew-requires g c =
    let at : end_at c.args.path.now c.args.self.now ≡ Some c.unwrap-at.result =
    sym (c.end_at.ensures ∙ ap (end_at c.args.path.now) c.top.ensures.value) ∙ c.unwrap-at.ensures in
    let new_is = rw c.unwrap.ensures at c.insert.ensures.items in
    omega (
      arith,
      (put_last_entry c.args.path.now _ _ c.args.self.now _ c.args.id.0 c.is_group.result c.args.node
          c.self.invariant.siblings c.self.view_is at c.requires.short c.requires.few new_is).siblings.few,
      ap length c.as_slice.ensures.value,
    )

pub invariant_of-self : goal.invariant_of-self
invariant_of-self g c =
    let at : end_at c.args.path.now c.args.self.now ≡ Some c.unwrap-at.result =
    sym (c.end_at.ensures ∙ ap (end_at c.args.path.now) c.top.ensures.value) ∙ c.unwrap-at.ensures in
    let new_is = rw c.unwrap.ensures at c.insert.ensures.items in
    let last = put_last_entry c.args.path.now _ _ c.args.self.now _ c.args.id.0 c.is_group.result c.args.node
    c.self.invariant.siblings c.self.view_is at c.requires.short c.requires.few new_is in
    record {
      own = own_last c.args.path.now c.args.self.now _ c.is_group.result c.args.id.0 c.args.node last.view c.requires.new
          (own_same _ c.args.self.now c.self.view_is c.self.invariant.own);
      siblings = (put_last_entry c.args.path.now _ _ c.args.self.now _ c.args.id.0 c.is_group.result c.args.node
          c.self.invariant.siblings c.self.view_is at c.requires.short c.requires.few new_is).siblings;
      room = omega (arith, c.self.invariant.room, c.insert.ensures.capacity);
      indexed = same_index c.renew.new.self _ _ c.renew.ensures c.as_slice.ensures.value;
    }

pub returns : goal.returns
returns g c =
    let at : end_at c.args.path.now c.args.self.now ≡ Some c.unwrap-at.result =
    sym (c.end_at.ensures ∙ ap (end_at c.args.path.now) c.top.ensures.value) ∙ c.unwrap-at.ensures in
    let new_is = rw c.unwrap.ensures at c.insert.ensures.items in
    ap (λ m. put_last c.args.path.now (alone m c.args.id.0 c.args.node) c.args.self.now) (sym c.is_group.ensures)
    ∙ (put_last_entry c.args.path.now _ _ c.args.self.now _ c.args.id.0 c.is_group.result c.args.node c.self.invariant.siblings
    c.self.view_is at c.requires.short c.requires.few new_is).view
