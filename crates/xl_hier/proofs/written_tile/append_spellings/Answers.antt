use Rattle.std.proofs.Common.{◌≤◌, ◌∙◌, length, drop, arith, length-take-le}
use Rattle.std.proofs.lemmas.List.{take_at}
use Rattle.xl_fields.proofs.Behind.{begins_appended, begins_itself, begins_then}
use Rattle.xl_hier.proofs.Spelling.{more, followed_more}
use Rattle.xl_hier.proofs.written_tile.append_spellings.Goals as goal

pub loop-c-preserved : goal.loop-c-preserved
loop-c-preserved g c =
    let n = c.tile_pixels-n.result in
    let within : n ≤ length c.loop-c.own = omega (arith, c.tile_pixels-n.ensures.few, c.loop-c.auto.own, c.split_at_mut-own.ensures.front_len) in
    let front =
    take_at c.gather.new.out (drop n c.loop-c.own) n (c.gather.auto.out ∙ length-take-le n c.loop-c.own within) in
    record {
      spelled = more g.C.PlaneCoder.fits c.args.plane.now c.args.spot c.loop-c.c c.args.out.now.items c.loop-c.out.items _
          c.encode_plane.new.out.items c.loop-c.invariant.spelled
          (front ∙ c.gather.ensures) c.in_ok-encode_plane.ensures.ok;
      followed = followed_more g.C.PlaneCoder.follows c.args.plane.now c.args.spot c.loop-c.c c.args.coder.now c.loop-c.coder
          c.encode_plane.new.self _ (front ∙ c.gather.ensures) c.loop-c.invariant.followed c.in_ok-encode_plane.ensures.followed;
    }

pub returns-clause-front : goal.returns-clause-front
returns-clause-front g c = begins_appended _ _ _ c.loop-c.invariant.spelled.appended

pub returns-in_err-encode_plane-clause-front : goal.returns-in_err-encode_plane-clause-front
returns-in_err-encode_plane-clause-front g c =
    begins_then _ _ _ (begins_appended _ _ _ c.loop-c.invariant.spelled.appended) (begins_itself _ _ c.in_err-encode_plane.ensures.err)
