-- The bytes read so far are in `bytes`, no read failed, and each was counted.
use Rattle.std.specs.Io.KnownBytes.{Consumes}
use Rattle.cg_links.specs.Counted.{KeepsCounts, CountsCalls}
use Rattle.cg_links.proofs.transfer.read_all.Given as goal

abbrev pub invariant-loop : goal.invariant-loop
invariant-loop g l = record {
  read : Consumes (g.R.Read.remaining l.initial.reader.link) (g.R.Read.remaining l.reader.link) l.bytes.items;
  kept : KeepsCounts l.initial.reader l.reader;
  counted : CountsCalls l.initial.reader l.reader l.counter;
}
