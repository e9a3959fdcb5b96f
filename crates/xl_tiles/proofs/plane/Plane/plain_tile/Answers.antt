use Rattle.xl_tiles.proofs.plane.Plane.plain_tile.Goals as goal

pub returns : goal.returns
returns c = rw (← c.self.view_is) c.plain_tile.ensures
