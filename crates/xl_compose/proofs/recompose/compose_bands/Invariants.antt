use Rattle.std.proofs.Common.{◌≡◌, ◌+◌, ◌*◌, ◌≤◌, min, take}
use Rattle.spec_document.specs.Picture.{picture_bytes}
use Rattle.xl_compose.specs.Cost.{visible_below}
use Rattle.xl_compose.proofs.recompose.compose_bands.Given as goal

-- the bands so far are written
abbrev pub invariant-loop-b : goal.invariant-loop-b
invariant-loop-b g l = record {
  written : take (min (64 * l.b) l.fn.rect.h * l.size) l.out
      ≡ picture_bytes l.doc l.fn.stack.0 l.x l.y l.fn.rect.w (min (64 * l.b) l.fn.rect.h);
  cost : l.steps ≤ l.fn.steps + visible_below l.doc l.fn.stack.0 * (min (64 * l.b) l.fn.rect.h * l.fn.rect.w);
}
