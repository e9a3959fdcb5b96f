use Rattle.std.proofs.Common.{◌≡◌, ◌*◌, min, length, ◌∙◌, sym, arith}
use Rattle.std.proofs.lemmas.Nat.{mul-le}
use Rattle.xl_tiles.proofs.FilledTiles.{few_pixels, length_repeated}
use Rattle.xl_tiles.proofs.filling.uniform_of.Goals as goal

pub repeat_in_rows-requires : goal.repeat_in_rows-requires
repeat_in_rows-requires c =
    let w = c.args.area.w in
    let h = c.args.area.h in
    let n = length c.args.pixel.now in
    let wide : c.min.result ≡ min 64 w = omega (arith, c.min.ensures) in
    let high : c.min-2.result ≡ min 64 h = omega (arith, c.min-2.ensures) in
    let same : c.min.result * c.min-2.result * n ≡ min 64 w * min 64 h * n = λ i. wide i * high i * n in
    omega (
      arith,
      same,
      few_pixels w h n c.args.bpp (sym (length_repeated (w * h) c.args.pixel.now) ∙ c.requires.bytes),
      mul-le (min 64 w * min 64 h) c.args.bpp 4096 4
          (omega (arith, mul-le (min 64 w) (min 64 h) 64 64 (omega arith) (omega arith))) c.requires.few,
    )
