use Rattle.cg_threads.proofs.ByCaller.{receipts_have_the_numbers}
use Rattle.cg_threads.proofs.laws.receipts_have_the_numbers.Goals as goal

pub returns : goal.returns
returns c = receipts_have_the_numbers
