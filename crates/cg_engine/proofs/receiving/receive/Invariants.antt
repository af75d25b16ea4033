-- All bytes read are held, at least one for each turn; each turn made one read, and none failed.
use Rattle.std.proofs.Common.{◌≡◌, ◌+◌, ◌≤◌, length, Ok}
use Rattle.std.specs.Io.KnownBytes.{Consumes}
use Rattle.cg_frames.specs.declared.layout.TheConstants.{LAYOUTS}
use Rattle.cg_frames.specs.Choosing.{NeedsMore}
use Rattle.cg_links.specs.Counted.{calls_of, KeepsCounts}
use Rattle.cg_engine.specs.Received.{held_of}
use Rattle.cg_engine.proofs.receiving.receive.Given as goal

abbrev pub invariant-loop : goal.invariant-loop
invariant-loop g l = record {
  sound : l.feed ≡ Ok (held_of l.feed);
  read : Consumes (g.R.Read.remaining l.initial.reader.link) (g.R.Read.remaining l.reader.link) (held_of l.feed);
  partial : NeedsMore LAYOUTS (held_of l.feed);
  many : l.counter ≤ length (held_of l.feed);
  kept : KeepsCounts l.initial.reader l.reader;
  calls : calls_of l.reader ≤ calls_of l.initial.reader + l.counter;
}
