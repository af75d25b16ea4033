use Rattle.std.proofs.Common.{append_assoc}
use Rattle.cg_status.proofs.TokenLemmas.{state_members_tokens}
use Rattle.cg_status.proofs.shown.add_states.Goals as goal

pub returns-clause-tokens : goal.returns-clause-tokens
returns-clause-tokens c =
    simp (state_members_tokens, append_assoc)
    (simp (c.in_ok-add_members.ensures.tokens, c.in_ok-begin_object.ensures.ok, append_assoc) at c.end_object.ensures.ok)
