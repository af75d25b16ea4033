use Rattle.std.proofs.Common.{◌≡◌, ◌∙◌, ap₂, codes, rules}
use Rattle.clap.specs.Words.{app_of, new_app, rule_of, with_rule}
use Rattle.cg_tool.specs.Job.{cut_rule, files_rule}
use Rattle.cg_tool.proofs.job.audit.Goals as goal

pub returns-clause-app : goal.returns-clause-app
returns-clause-app c =
    let cut_is : rule_of c.help-cut.result ≡ cut_rule = search rules in
    let files_are : rule_of c.action-files.result ≡ files_rule = search rules in
    let bare : app_of c.after_help-helped.result ≡ new_app (codes "audit") = search rules in
    let with_cut : app_of c.in_ok-with_cut.with_cut ≡ with_rule (new_app (codes "audit")) cut_rule = c.in_ok-with_cut.ensures.shape (search rules) ∙ ap₂ with_rule bare cut_is in
    c.in_ok-with_files.ensures.shape (search rules) ∙ ap₂ with_rule with_cut files_are
