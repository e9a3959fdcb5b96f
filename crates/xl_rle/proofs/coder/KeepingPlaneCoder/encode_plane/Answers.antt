use Rattle.std.proofs.lemmas.Result.{on_ok_weaker}
use Rattle.xl_rle.proofs.GreedySpells.{are_bytes, greedy_spells, greedy_short}
use Rattle.xl_rle.proofs.coder.KeepingPlaneCoder.encode_plane.Goals as goal

pub returns-clause-ok : goal.returns-clause-ok
returns-clause-ok c =
    on_ok_weaker c.encode_greedy.result (λ is. record {
      spelled = _;
      spells = greedy_spells c.args.plane.now c.requires.some c.requires.few (are_bytes c.args.plane.now c.type_inv.plane);
      short = greedy_short c.args.plane.now c.requires.few;
      fitting = greedy_short c.args.plane.now c.requires.few;
      appended = is;
    }) c.encode_greedy.ensures.ok
