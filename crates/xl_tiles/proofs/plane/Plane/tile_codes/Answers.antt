use Rattle.xl_tiles.proofs.plane.Plane.tile_codes.Goals as goal

pub returns : goal.returns
returns c = rw (← c.self.view_is) c.tile_codes.ensures
