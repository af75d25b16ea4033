use Rattle.std.proofs.Common.{List, Option, Some, None, sym, ap, ◌∙◌}
use Rattle.std.proofs.lemmas.Result.{IfOk-weaker}
use Rattle.clap.specs.Words.{Text, found_of}
use Rattle.cg_tool.specs.Job.{texts}
use Rattle.cg_tool.proofs.Matched.{files_from}
use Rattle.cg_tool.proofs.job.files_of.Goals as goal

abbrev none : Option (List Text)
none = None

pub returns-in-Some : goal.returns-in-Some
returns-in-Some c =
    let is = files_from (found_of c.args.found.now) (Some (texts c.in-Some.files.now)) c.in-Some.ensures in
    IfOk-weaker c.from_slice.result _ _ (λ v h. ap texts h ∙ sym is) c.from_slice.ensures.items

pub returns-in-None : goal.returns-in-None
returns-in-None c =
    let is = files_from (found_of c.args.found.now) none c.in-None.ensures in
    ap texts c.new.ensures.items ∙ sym is
