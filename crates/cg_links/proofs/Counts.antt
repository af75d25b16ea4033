-- Counts over several calls.
use Rattle.std.proofs.Common.{◌∙◌, ap}
use Rattle.cg_links.specs.declared.counted.Counted.{Counted}
use Rattle.cg_links.specs.Counts.{one_more}
use Rattle.cg_links.specs.Counted.{KeepsCounts, CountsFailed, CountsIdle}

pub KeepsCounts-trans : {L : Type 0} (a b c : Counted L) → KeepsCounts a b → KeepsCounts b c → KeepsCounts a c
KeepsCounts-trans a b c p q = record { failed = q.failed ∙ p.failed; idle = q.idle ∙ p.idle }

pub CountsFailed-after : {L : Type 0} (a b c : Counted L) → KeepsCounts a b → CountsFailed b c → CountsFailed a c
CountsFailed-after a b c p q = record { failed = q.failed ∙ ap one_more p.failed; idle = q.idle ∙ p.idle }

pub CountsIdle-after : {L : Type 0} (a b c : Counted L) → KeepsCounts a b → CountsIdle b c → CountsIdle a c
CountsIdle-after a b c p q = record { failed = q.failed ∙ p.failed; idle = q.idle ∙ ap one_more p.idle }
