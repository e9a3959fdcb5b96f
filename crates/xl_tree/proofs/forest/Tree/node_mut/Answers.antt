use Rattle.std.proofs.Common.{refl, sym, ◌∙◌, ap, arith}
use Rattle.spec_document.specs.Forest.{size}
use Rattle.xl_tree.proofs.Flat.{size-forest_of}
use Rattle.xl_tree.proofs.Indexed.{place_in-set}
use Rattle.xl_tree.proofs.Placed.{place_within, written, rewritten}
use Rattle.xl_tree.proofs.Own.{own_same, own_with_node}
use Rattle.xl_tree.proofs.forest.Tree.node_mut.Goals as goal

pub index_mut-entry-requires : goal.index_mut-entry-requires
index_mut-entry-requires g c =
    omega (
      arith,
      place_within c.args.id.0 c.args.at c.args.self.now c.requires,
      size-forest_of 0 _ c.self.invariant.siblings.flat_is,
      ap size c.self.view_is,
      c.self.inside.entries.ok.0,
    )

pub invariant_of-self-lent : goal.invariant_of-self-lent
invariant_of-self-lent g c = λ w.
    let k = written c.args.id.0 c.args.at _ c.args.self.now c.index_mut-entry.result.now w c.self.invariant.siblings c.self.view_is
    c.requires (own_same _ c.args.self.now c.self.view_is c.self.invariant.own).distinct c.index_mut-entry.ensures.value in
    record {
      siblings = k.siblings;
      own = own_same _ _ (sym k.view) (own_with_node c.args.id.0 w c.args.self.now
          (own_same _ c.args.self.now c.self.view_is c.self.invariant.own));
      room = c.self.invariant.room;
      indexed = λ id. c.self.invariant.indexed id
          ∙ sym (place_in-set id c.args.at _
          (rewritten c.index_mut-entry.result.now w) c.index_mut-entry.result.now c.index_mut-entry.ensures.value refl);
    }

pub returns : goal.returns
returns g c = (
  (
    refl,
    λ w. (written c.args.id.0 c.args.at _ c.args.self.now c.index_mut-entry.result.now w c.self.invariant.siblings
        c.self.view_is c.requires (own_same _ c.args.self.now c.self.view_is c.self.invariant.own).distinct
        c.index_mut-entry.ensures.value).view,
  ),
  record {
    writes_back = tt;
    value =
        sym (written c.args.id.0 c.args.at _ c.args.self.now c.index_mut-entry.result.now c.index_mut-entry.result.now.node
        c.self.invariant.siblings c.self.view_is c.requires
        (own_same _ c.args.self.now c.self.view_is c.self.invariant.own).distinct c.index_mut-entry.ensures.value).value;
  },
)
