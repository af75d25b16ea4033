use Rattle.std.proofs.Common.{◌≡◌, ◌∙◌, ap₂, codes, rules}
use Rattle.clap.specs.Words.{app_of, new_app, rule_of, with_rule}
use Rattle.cg_tool.specs.Job.{file_rule}
use Rattle.cg_tool.proofs.job.agent.Goals as goal

pub returns-clause-app : goal.returns-clause-app
returns-clause-app c =
    let file_is : rule_of c.required-file.result ≡ file_rule = search rules in
    let bare : app_of c.after_help-helped.result ≡ new_app (codes "agent") = search rules in
    c.in_ok-with_file.ensures.shape (search rules) ∙ ap₂ with_rule bare file_is
