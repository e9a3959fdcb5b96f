use Rattle.std.proofs.Common.{◌≡◌, ℕ, ◌+◌, ◌++◌, ◌∷◌, [], length, take, ◌∙◌, sym, ap, subst, arith}
use Rattle.std.proofs.lemmas.List.{take_more}
use Rattle.xl_compose.specs.declared.pieces.Piece.{Piece}
use Rattle.xl_compose.specs.Levels.{AreIn, IsIn, points}
use Rattle.xl_compose.specs.Pieces.{weight, weights}
use Rattle.xl_compose.proofs.Costs.{piece_cost}
use Rattle.xl_compose.proofs.LevelScratch.{in_at, laid_more, scratch_neat}
use Rattle.xl_compose.proofs.PieceRuns.{weights-push}
use Rattle.xl_compose.proofs.laying.lay_pieces.Goals as goal

pub lay_piece-requires-clause-neat : goal.lay_piece-requires-clause-neat
lay_piece-requires-clause-neat g c =
    let p = c.index-pieces-i.result in
    let P : ℕ → Type 0 = λ n. AreIn n c.args.band c.args.pieces.now in
    let fit : AreIn (length c.loop-i.scratch) c.args.band c.args.pieces.now =
    subst P (sym c.loop-i.invariant.size) c.requires.fit in
    let Q : Piece → Type 0 = λ q. IsIn (length c.loop-i.scratch) c.args.band q in
    let inside : IsIn (length c.loop-i.scratch) c.args.band p =
    subst Q (sym c.index-pieces-i.is)
    (in_at (length c.loop-i.scratch) c.args.band c.args.pieces.now c.loop-i.i p (omega arith) fit) in
    scratch_neat c.args.colours.now c.args.band c.loop-i.i c.args.pieces.now c.loop-i.scratch p.level fit c.loop-i.invariant.shown
    inside.0

pub loop-i-preserved : goal.loop-i-preserved
loop-i-preserved g c =
    let p = c.index-pieces-i.result in
    let so_far = take c.loop-i.i c.args.pieces.now in
    let more : take (c.loop-i.i + 1) c.args.pieces.now ≡ so_far ++ p ∷ [] =
    take_more c.args.pieces.now c.loop-i.i p (omega arith) ∙ ap (λ q. so_far ++ q ∷ []) (sym c.index-pieces-i.is) in
    let P : ℕ → Type 0 = λ n. AreIn n c.args.band c.args.pieces.now in
    let fit : AreIn (length c.loop-i.scratch) c.args.band c.args.pieces.now =
    subst P (sym c.loop-i.invariant.size) c.requires.fit in
    let Q : Piece → Type 0 = λ q. IsIn (length c.loop-i.scratch) c.args.band q in
    let inside : IsIn (length c.loop-i.scratch) c.args.band p =
    subst Q (sym c.index-pieces-i.is)
    (in_at (length c.loop-i.scratch) c.args.band c.args.pieces.now c.loop-i.i p (omega arith) fit) in
    rw more record {
      size = c.lay_piece.ensures.length ∙ c.loop-i.invariant.size;
      shown = laid_more c.args.colours.now c.args.band so_far p c.loop-i.scratch c.lay_piece.new.scratch c.lay_piece.ensures.length
          inside.0 c.loop-i.invariant.shown c.lay_piece.ensures.laid;
      cost = piece_cost c.args.steps.now c.loop-i.steps c.lay_piece.new.steps (weights so_far) (weight p.what) (points c.args.band)
          (weights (so_far ++ p ∷ [])) (weights-push so_far p) c.loop-i.invariant.cost c.lay_piece.ensures.cost;
    }
