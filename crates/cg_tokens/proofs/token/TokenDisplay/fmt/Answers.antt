use Rattle.std.proofs.Common.{◌^◌, ◌<◌, arith}
use Rattle.cg_tokens.proofs.HexLemmas.{token_text-halves}
use Rattle.cg_tokens.proofs.token.TokenDisplay.fmt.Goals as goal

pub returns-clause-writes : goal.returns-clause-writes
returns-clause-writes g c =
    let small : c.self.inside.number < 2 ^ 128 = omega (arith, c.self.invariant) in
    let wrote = rw (c.laid_out.ensures, c.laid_out-2.ensures, c.in_radix.ensures, c.in_radix-2.ensures) at c.write.ensures.writes in
    rw (← c.self.view_is, ← token_text-halves c.self.inside.number small) wrote
