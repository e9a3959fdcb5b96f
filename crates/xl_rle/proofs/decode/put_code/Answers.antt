use Rattle.std.proofs.Common.{◌-◌, ◌++◌, ◌∙◌, ap, arith, sym, length, List, ℕ, take, Err}
use Rattle.xl_rle.specs.HeadAt.{as_read}
use Rattle.xl_rle.proofs.Steps.{cut, head_begins, too_long, too_many, short, one, pixels_of_run, pixels_of_literal}
use Rattle.xl_rle.proofs.Walk.{length_of_body}
use Rattle.xl_rle.proofs.decode.put_code.Goals as goal
use Rattle.xl_rle.proofs.decode.put_code.Goals.{then-head, else-head, then-out-filled-via-then-out-filled}
use Rattle.xl_rle.proofs.decode.put_code.Goals.{then-out-filled-via-else-out-filled+then-left-eq0}

pub returns-in_default : goal.returns-in_default
returns-in_default c = cut _ _ _ _ (rw c.in_default.is at c.head_at.ensures) ∙ ap Err (sym c.refuse.ensures)

pub returns-then-out-filled : goal.returns-then-out-filled
returns-then-out-filled c =
    let h = as_read c.in-Some.head in
    let begins = head_begins c.args.bytes.now c.args.at c.in-Some.head c.in-Some.ensures in
    elim c.then-out-filled.branch [
      | then-out-filled-via-then-out-filled w ↦ too_long _ _ _ _ h begins (omega arith)
      | then-out-filled-via-else-out-filled+then-left-eq0 w ↦ rw w.if-left-eq0.true (too_many _ _ _ h begins)
    ] ∙ ap Err (sym c.refuse-then-out-filled.ensures)

pub returns-then-bytes-head : goal.returns-then-bytes-head
returns-then-bytes-head c =
    let h = as_read c.in-Some.head in
    let begins = head_begins c.args.bytes.now c.args.at c.in-Some.head c.in-Some.ensures in
    short _ _ _ _ h begins (omega arith) (omega arith) (omega (arith, c.body_length-body.ensures))
    ∙ ap Err (sym c.refuse-then-bytes-head.ensures)

pub returns : goal.returns
returns c =
    let h = as_read c.in-Some.head in
    let head = c.in-Some.ensures in
    let file = c.args.bytes.now in
    let begins = head_begins file c.args.at c.in-Some.head head in
    let size = c.body_length-body.ensures in
    let behind : List ℕ → List ℕ = λ zs. take c.args.filled c.args.out.now ++ zs in
    let count = length_of_body file h (omega (arith, head.2, size)) in
    record {
      part = _;
      is = one file c.args.at c.args.left (length c.args.out.now - c.args.filled) h begins (omega arith) (omega arith)
          (omega (arith, head.2, size));
      allowed = omega arith;
      front = elim c.if-head.branch [
        | then-head w ↦ rw w.out-is w.put_run.ensures ∙ ap behind (sym (pixels_of_run file h w.if-head.true))
        | else-head w ↦ rw w.out-is w.put_literal.ensures ∙ ap behind (sym (pixels_of_literal file h w.if-head.false))
      ];
      longer = omega (arith, count);
      inside = omega arith;
      next = omega (arith, size);
    }
