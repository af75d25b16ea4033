use Rattle.std.proofs.Common.{append_assoc}
use Rattle.cg_status.proofs.shown.add_head.Goals as goal

pub returns-clause-tokens : goal.returns-clause-tokens
returns-clause-tokens c =
    simp (
      c.in_ok-add_number-2.ensures.tokens,
      c.in_ok-add_text.ensures.tokens,
      c.in_ok-add_number.ensures.tokens,
      c.in_ok-add_endpoint.ensures.tokens,
      c.in_ok-key.ensures.ok,
      c.from.ensures,
      c.get.ensures.value,
      c.name.ensures.value,
      c.from-2.ensures,
      append_assoc,
    ) at c.add_number-3.ensures.tokens
