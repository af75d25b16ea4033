use Rattle.std.proofs.Common.{rules}
use Rattle.cg_agent.proofs.work.work.Goals as goal

pub scoped-requires : goal.scoped-requires
scoped-requires g c = record {
  at = λ a. (
    c.requires.seats,
    (
      c.requires.amounts,
      (
        c.requires.room,
        (
          c.requires.empty,
          (
            search rules,
            search rules,
            search rules,
            search rules,
            search rules,
            search rules,
            search rules,
            search rules,
            search rules,
            search rules,
            search rules,
            search rules,
            search rules,
          ),
        ),
      ),
    ),
  );
}
