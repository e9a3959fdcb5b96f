use Rattle.std.proofs.Common.{◌∙◌, ap, arith, sym}
use Rattle.xl_tree.specs.Index.{place_in}
use Rattle.xl_tree.proofs.Own.{none_own, none_siblings}
use Rattle.xl_tree.proofs.forest.Tree.new.Goals as goal

pub invariant_of-result : goal.invariant_of-result
invariant_of-result g c = record {
  siblings = none_siblings c.in_ok-entries.entries.items c.in_ok-entries.ensures.items;
  own = none_own c.in_ok-entries.entries.items c.in_ok-entries.ensures.items;
  room = omega (arith, c.in_ok-entries.ensures.capacity);
  indexed = λ id. c.in_ok-index.ensures id ∙ sym (ap (place_in id) c.in_ok-entries.ensures.items);
}
