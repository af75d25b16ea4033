use Rattle.std.proofs.Common.{append_assoc}
use Rattle.cg_status.proofs.TokenLemmas.{row_items_tokens}
use Rattle.cg_status.proofs.shown.add_rows.Goals as goal

pub returns-clause-tokens : goal.returns-clause-tokens
returns-clause-tokens c =
    simp (row_items_tokens, append_assoc)
    (simp (c.in_ok-add_items.ensures.tokens, c.in_ok-begin_array.ensures.ok, append_assoc) at c.end_array.ensures.ok)
