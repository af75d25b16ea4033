use Rattle.std.proofs.Common.{append_assoc}
use Rattle.cg_status.proofs.shown.add_numbers.Goals as goal

pub returns-clause-tokens : goal.returns-clause-tokens
returns-clause-tokens c =
    simp (
      c.in_ok-add_number-2.ensures.tokens,
      c.in_ok-add_number.ensures.tokens,
      c.from.ensures,
      c.get.ensures.value,
      c.generation.ensures,
      c.from-2.ensures,
      c.get-2.ensures.value,
      c.heartbeat.ensures,
      c.from-3.ensures,
      c.get-3.ensures.value,
      c.newest.ensures,
      append_assoc,
    ) at c.add_number-3.ensures.tokens
