use Rattle.std.proofs.Common.{◌∙◌, arith}
use Rattle.spec_layout.specs.BytePlanes.{planes_of}
use Rattle.xl_pack.proofs.FewPlanes.{planes_few}
use Rattle.xl_pack.proofs.Followed.{counted}
use Rattle.xl_pack.proofs.spelling.spell_and_count.Goals as goal

pub returns : goal.returns
returns c =
    let d = c.args.document.now in
    let few = planes_few d c.requires in
    record {
      written = c.in_ok-file.ensures.written;
      least = c.in_ok-file.ensures.least;
      are_lines = c.new-2.ensures.items;
      count = c.planes-planes.ensures
          ∙ (counted (planes_of d) c.new-coder.result c.encode_smallest.new.coder c.in_ok-file.ensures.followed
          (omega (arith, few, c.new-coder.ensures)) ∙ omega (arith, c.new-coder.ensures));
    }
