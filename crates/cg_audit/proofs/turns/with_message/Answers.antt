use Rattle.std.proofs.Common.{◌++◌, IfOk, sym, subst}
use Rattle.std.specs.Option.{option_map, option_to_list}
use Rattle.cg_messages.specs.Borrowed.{borrowed_message}
use Rattle.cg_audit.specs.Index.{HaveTheSame}
use Rattle.cg_audit.proofs.turns.with_message.Goals as goal

pub returns-in-Some : goal.returns-in-Some
returns-in-Some c =
    subst (λ h. IfOk c.with.result (λ s. HaveTheSame s (c.args.sent ++ option_to_list (option_map borrowed_message h)))) (sym c.in-Some.is) c.with.ensures
