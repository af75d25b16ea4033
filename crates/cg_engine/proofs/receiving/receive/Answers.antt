use Rattle.std.proofs.Common.{◌++◌, take, drop, sym, subst, arith}
use Rattle.std.specs.Io.KnownBytes.{Consumes}
use Rattle.std.proofs.lemmas.List.{length-take, take-append-le}
use Rattle.cg_engine.specs.Received.{held_of}
use Rattle.cg_engine.proofs.Pieces.{partial_is_short, next_piece, piece_refused}
use Rattle.cg_engine.proofs.receiving.receive.Goals as goal

pub returns-in-Err-take_piece-clause-came : goal.returns-in-Err-take_piece-clause-came
returns-in-Err-take_piece-clause-came g c =
    let n = c.in-Ok.n in
    let came = c.read.new.buf in
    let rest = drop c.min-room.result c.loop.chunk in
    let short = length-take c.min-room.result c.loop.chunk in
    let read = subst (Consumes (g.R.Read.remaining c.loop.reader.link) (g.R.Read.remaining c.read.new.self.link)) (sym (take-append-le n came rest c.in-Ok.ensures.bound.0)) c.in-Ok.ensures.bytes.0 in
    piece_refused _ _ _ _ _ _ (held_of c.loop.feed) (take n (came ++ rest)) c.in-Err-take_piece.fault
    c.loop.invariant.read read c.loop.invariant.kept c.in-Ok.ensures.counts
    (next_piece c.loop.feed n came rest c.loop.invariant.sound c.loop.invariant.partial (omega arith) c.in-Ok.ensures.bound.0 (omega (arith, short)) (omega (arith, short))) c.in-Err-take_piece.ensures.err

pub returns : goal.returns
returns g c = absurd (omega (arith, partial_is_short (held_of c.loop.feed) c.loop.invariant.partial))
