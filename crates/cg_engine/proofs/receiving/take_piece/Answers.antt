use Rattle.cg_engine.proofs.Pieces.{popped}
use Rattle.cg_engine.proofs.receiving.take_piece.Goals as goal

pub returns-clause-whole : goal.returns-clause-whole
returns-clause-whole c =
    popped c.args.feed.now c.push.new.self c.args.piece.now c.in-Ok.fed.messages.items c.pop.new.self.items c.pop.result
    c.requires.sound c.in-Ok.ensures.spelled (c.in-Ok.ensures.one c.requires.fits) c.pop.ensures.items
