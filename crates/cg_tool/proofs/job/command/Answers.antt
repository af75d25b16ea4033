use Rattle.std.proofs.Common.{◌∙◌, ap, ap₂}
use Rattle.clap.specs.Words.{App, with_subcommand}
use Rattle.cg_tool.specs.Job.{program}
use Rattle.cg_tool.proofs.job.command.Goals as goal

pub returns : goal.returns
unfolding program
returns c =
    let top = λ (a : App). a.top in
    let with_answer = c.in_ok-with_answer.ensures.shape c.answer.ensures.local ∙ ap₂ with_subcommand c.in_ok-top.ensures (ap top c.answer.ensures.app) in
    let with_sim = c.in_ok-with_sim.ensures.shape c.sim.ensures.local ∙ ap₂ with_subcommand with_answer (ap top c.sim.ensures.app) in
    let with_audit = c.in_ok-with_audit.ensures.shape c.in_ok-audit.ensures.local ∙ ap₂ with_subcommand with_sim (ap top c.in_ok-audit.ensures.app) in
    let with_serve = c.in_ok-with_serve.ensures.shape c.in_ok-serve.ensures.local ∙ ap₂ with_subcommand with_audit (ap top c.in_ok-serve.ensures.app) in
    c.in_ok-with_agent.ensures.shape c.in_ok-agent.ensures.local ∙ ap₂ with_subcommand with_serve (ap top c.in_ok-agent.ensures.app)
