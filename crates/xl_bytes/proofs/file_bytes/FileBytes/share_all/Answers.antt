use Rattle.std.proofs.Common.{◌≡◌, ℕ, List, ◌++◌, ap, length, length-append, arith}
use Rattle.std.specs.List.{concat}
use Rattle.xl_bytes.proofs.Parts.{put_behind}
use Rattle.xl_bytes.proofs.file_bytes.FileBytes.share_all.Goals as goal

pub returns-clause-ok : goal.returns-clause-ok
returns-clause-ok c =
    rw (← c.self.view_is, ← c.other.view_is) (put_behind c.append.new.self.items c.close.new.parts.items c.other.inside.parts.items
    (concat c.self.inside.parts.items) c.self.inside.own.items c.other.inside.own.items
    c.in_ok-append.ensures.items c.in_ok-close.ensures.ok)

pub invariant_of-self-2 : goal.invariant_of-self-2
invariant_of-self-2 c =
    let front : List ℕ = concat c.self.inside.parts.items in
    let rest : List ℕ = concat c.other.inside.parts.items ++ c.other.inside.own.items in
    let all : concat c.append.new.self.items ++ c.other.inside.own.items ≡ (front ++ c.self.inside.own.items) ++ rest =
    put_behind c.append.new.self.items c.close.new.parts.items c.other.inside.parts.items front c.self.inside.own.items
    c.other.inside.own.items c.in_ok-append.ensures.items c.in_ok-close.ensures.ok in
    omega (
      arith,
      c.in_ok-len.ensures,
      c.self.invariant,
      c.other.invariant,
      ap length all,
      length-append (front ++ c.self.inside.own.items) rest,
    )
