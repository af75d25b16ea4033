use Rattle.cg_core.proofs.ChangeLemmas.{puts_are_the_changed_rows}
use Rattle.cg_core.proofs.laws.puts_are_the_changed_rows.Goals as goal

pub returns : goal.returns
returns c = λ n e after answer small rise is. puts_are_the_changed_rows n e after answer small.own_held rise is
