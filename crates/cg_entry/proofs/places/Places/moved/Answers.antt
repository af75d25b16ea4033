use Rattle.std.proofs.Common.{length, ap, arith}
use Rattle.cg_entry.proofs.NewestLemmas.{closed_few}
use Rattle.cg_entry.proofs.places.Places.moved.Goals as goal

pub set-requires : goal.set-requires
set-requires c = omega (arith, c.requires, ap length c.closed-places.ensures, closed_few c.args.at c.args.self.now)
