use Rattle.std.proofs.Common.{arith, rules}
use Rattle.std.proofs.lemmas.Fmt.{length-decimal-le}
use Rattle.cg_text.proofs.numbers.put_number.Goals as goal

pub write_digits-requires : goal.write_digits-requires
write_digits-requires c = (omega (arith, length-decimal-le 10 c.from.result (omega arith) (omega (arith, c.from.ensures)) (omega arith)), search rules)

pub returns-clause-short : goal.returns-clause-short
returns-clause-short c = omega (arith, c.write_digits.ensures.start, length-decimal-le 10 c.from.result (omega arith) (omega (arith, c.from.ensures)) (omega arith))
