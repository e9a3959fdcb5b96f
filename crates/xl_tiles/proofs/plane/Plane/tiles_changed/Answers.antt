use Rattle.std.proofs.Common.{◌≡◌}
use Rattle.xl_tiles.proofs.Counts.{count_is}
use Rattle.xl_tiles.proofs.plane.Plane.tiles_changed.Goals as goal

pub returns : goal.returns
returns c =
    let width : c.other.inside.sheet.width ≡ c.self.inside.sheet.width = rw (← c.self.view_is, ← c.other.view_is) at c.requires.width in
    let height : c.other.inside.sheet.height ≡ c.self.inside.sheet.height = rw (← c.self.view_is, ← c.other.view_is) at c.requires.height in
    let bpp : c.other.inside.sheet.bpp ≡ c.self.inside.sheet.bpp = rw (← c.self.view_is, ← c.other.view_is) at c.requires.bpp in
    rw (← c.self.view_is, ← c.other.view_is)
    (count_is c.self.inside.sheet.width c.self.inside.sheet.height c.self.inside.sheet.bpp c.other.inside.sheet.width c.other.inside.sheet.height
    c.other.inside.sheet.bpp c.self.inside.tiles c.other.inside.tiles c.count_changed.result width height bpp
    c.count_changed.ensures.value)
