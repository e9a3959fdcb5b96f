use Rattle.xl_play.proofs.Windowed.{window_shown}
use Rattle.xl_play.proofs.viewing.Viewing.reply_digest.Goals as goal

pub returns-in-Some-clause-digest : goal.returns-in-Some-clause-digest
returns-in-Some-clause-digest g c =
    rw c.in-Tile.is (rw c.in-Some.is (window_shown c.args.core.now.history c.args.self.now.cols c.args.self.now.rows (c.in-Some.node.0, c.in-Some.at)
    c.in-Tile.version c.window_digest.result (rw c.in-Some.is at (rw c.in-Tile.is at c.requires.last)) c.window_digest.ensures.digest))
