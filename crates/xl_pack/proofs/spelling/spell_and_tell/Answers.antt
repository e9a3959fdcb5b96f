use Rattle.std.proofs.Common.{◌≡◌, ◌++◌, sym, ap, ◌∙◌, subst, arith, ℕ, List}
use Rattle.spec_layout.specs.BytePlanes.{planes_of}
use Rattle.spec_shortest.specs.Lines.{ArePlanLines}
use Rattle.xl_small.specs.Told.{Told}
use Rattle.xl_pack.proofs.FewPlanes.{planes_few}
use Rattle.xl_pack.proofs.Followed.{told}
use Rattle.xl_pack.proofs.spelling.spell_and_tell.Goals as goal

pub returns : goal.returns
returns c =
    let d = c.args.document.now in
    let few = planes_few d c.requires in
    let first : ℕ = c.new-coder.result.planes in
    let none : first ≡ 0 = ap (λ (t : Told). t.planes) c.new-coder.ensures in
    let all = told (planes_of d) c.new-coder.result c.encode_smallest.new.coder c.in_ok-file.ensures.followed
    (omega (arith, few, none)) in
    record {
      written = c.in_ok-file.ensures.written;
      least = c.in_ok-file.ensures.least;
      are_lines = subst (λ (lines : List ℕ). ArePlanLines lines (planes_of d))
          (sym (c.into_lines.ensures ∙ (all.behind ∙ ap (λ (t : Told). t.lines ++ all.lines) c.new-coder.ensures))) all.are;
      count = c.planes.ensures ∙ (all.count ∙ omega (arith, none));
    }
