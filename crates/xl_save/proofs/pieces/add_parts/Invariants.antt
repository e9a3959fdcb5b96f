use Rattle.std.proofs.Common.{◌≡◌, true, take}
use Rattle.std.specs.List.{concat}
use Rattle.xl_ports.specs.Disk.{Between}
use Rattle.xl_save.specs.Save.{OnlyAdds}
use Rattle.xl_save.proofs.pieces.add_parts.Given as goal

abbrev pub invariant-loop-part : goal.invariant-loop-part
invariant-loop-part g l = let D = g.D.Shelf in record {
  so_far : Between (D.shelf_state l.initial.shelf).disk (D.shelf_state l.shelf).disk
      (OnlyAdds (concat (take l.part-index l.parts)));
  opened : (D.shelf_state l.shelf).is_open ≡ true;
  selected : (D.shelf_state l.shelf).selected ≡ (D.shelf_state l.initial.shelf).selected;
  loads : (D.shelf_state l.shelf).loads ≡ (D.shelf_state l.initial.shelf).loads;
  reading : (D.shelf_state l.shelf).reading ≡ (D.shelf_state l.initial.shelf).reading;
  saving : (D.shelf_state l.shelf).saving ≡ (D.shelf_state l.initial.shelf).saving;
}
