-- A save changes what stands under its own name alone.
use Rattle.std.proofs.Common.{ℕ, List}
use Rattle.xl_ports.specs.Disk.{Disk, OthersStay}
use Rattle.xl_save.specs.Save.{SavesOnly}

pub others_stay : (name bytes : List ℕ) (a b : Disk) → SavesOnly name bytes a b → OthersStay name a b
others_stay name bytes a b save other not = record {
  later = save.later;
  stays = save.elsewhere other not;
  nothing_new = save.elsewhere_each other not;
  keeps = save.keeps other;
}
