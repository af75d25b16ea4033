use Rattle.std.proofs.Common.{◌≡◌, List, Option, Some, None}
use Rattle.cg_types.specs.Rising.{Rises}
use Rattle.cg_types.specs.Rows.{keys_of}
use Rattle.cg_table.specs.Puts.{Put, rising_puts}
use Rattle.cg_table.proofs.PutsLemmas.{rising_is}
use Rattle.cg_views.proofs.publisher.Publisher.append_all.Goals as goal

falls : (ps : List Put) (o : Option (List Put)) → o ≡ None → o ≡ rising_puts ps → Rises (keys_of ps) → ⊥
falls ps o none is rise = let some : o ≡ Some ps = rising_is ps o is rise in cc

pub unreachable-requires : goal.unreachable-requires
unreachable-requires g c =
    let none : c.in_ok-made.made ≡ None = cc in
    falls c.args.puts.items c.in_ok-made.made none c.in_ok-made.ensures.due c.requires.rise
