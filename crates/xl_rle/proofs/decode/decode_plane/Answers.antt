use Rattle.std.proofs.Common.{◌≡◌, ◌<◌, ℕ, List, length, take, take_all, ◌∙◌, ◌-◌, ap, arith, subst, Ok, Err}
use Rattle.std.proofs.lemmas.Result.{err_from_is_err_and}
use Rattle.spec_rle.specs.Reading.{code_at}
use Rattle.xl_rle.proofs.Steps.{stops, goes_on_part, ends}
use Rattle.xl_rle.proofs.Short.{literal_is, run_is_short, literal_is_short, read_over_short}
use Rattle.xl_rle.specs.declared.head.TheConstants.{BLOCK}
use Rattle.xl_rle.proofs.decode.decode_plane.Goals as goal
use Rattle.xl_rle.proofs.decode.decode_plane.Goals.{in-Some, in_default+in-Some-short_literal}

pub loop-first-preserved : goal.loop-first-preserved
loop-first-preserved c =
    let file = c.args.bytes.now in
    let at = c.loop-first.at in
    let ample = c.loop-first.invariant.3 c.loop-first-test.true in
    let inside : at < length file = omega (arith, ample.1) in
    let more : BLOCK < length c.args.out.now - c.loop-first.filled = omega arith in
    elim c.match-short_run.branch [
      | in-Some w ↦
          let short = run_is_short file at w.in-Some.count c.match-short_run.at inside w.in-Some.ensures (omega (arith, w.at-is)) in
          rw w.filled-is (read_over_short c.loop-first.invariant.0 short ample more c.loop-first.invariant.2 _
          (rw w.out-is w.put_short_run.ensures))
      | in_default+in-Some-short_literal w ↦
          let found = literal_is _ _ w.in-Some-short_literal.ensures in
          let short = literal_is_short file at w.in-Some-short_literal.count c.match-short_run.at inside
          w.in-Some-short_literal.ensures (omega (arith, found.1)) (omega (arith, w.at-is)) in
          rw w.filled-is (read_over_short c.loop-first.invariant.0 short ample more c.loop-first.invariant.2 _
          (rw w.out-is w.put_short_literal.ensures))
    ]

pub returns-in_err-placed : goal.returns-in_err-placed
returns-in_err-placed c =
    let p = err_from_is_err_and c.from_residual.result c.from_residual.ensures.1 in
    let fault = c.in_err-placed.ensures in
    rw (p.1, p.2) (stops c.loop-first.invariant.0 (omega arith) (subst (λ (n : ℕ).
    code_at c.args.bytes.now c.loop-first.at c.loop-first.left (n - c.loop-first.filled) ≡ Err c.in_err-placed.field-0.0)
    (omega arith) fault))

pub loop-filled-preserved : goal.loop-filled-preserved
loop-filled-preserved c =
    let placed = c.in_ok-placed.ensures in
    let size : length c.loop-first.out ≡ length c.args.out.now = omega arith in
    goes_on_part c.loop-first.invariant.0 placed.part placed.allowed (omega arith)
    (subst (λ (n : ℕ).
    code_at c.args.bytes.now c.loop-first.at c.loop-first.left (n - c.loop-first.filled) ≡ Ok placed.part) size placed.is)
    (omega (arith, placed.longer, placed.inside, size)) _ _ _ placed.front placed.next placed.longer

pub returns : goal.returns
returns c =
    let whole : take c.loop-filled.filled c.loop-filled.out ≡ c.loop-filled.out = take_all _ _ (omega arith) in
    ends c.loop-filled.invariant (omega arith)
    ∙ ap (λ (zs : List ℕ). Ok (record { pixels = zs; next = c.loop-filled.at })) whole
