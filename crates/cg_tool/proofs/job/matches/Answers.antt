use Rattle.std.proofs.Common.{subst}
use Rattle.std.proofs.lemmas.Result.{IfErr-weaker, IfOk-weaker}
use Rattle.clap.specs.Words.{FailsBy, Kinds}
use Rattle.cg_tool.proofs.Matched.{met_by, taken_by, faults_by, free_by}
use Rattle.cg_tool.proofs.job.matches.Goals as goal

pub returns : goal.returns
returns c =
    let is = c.in_ok-command.ensures in
    let parse = c.try_get_matches_from in
    record {
      ok = IfOk-weaker parse.result _ _ (λ m h. met_by _ _ m is h) parse.ensures.matches;
      passes = IfErr-weaker parse.result _ _ (λ e h t. h (taken_by _ _ is t)) parse.ensures.passes;
      kinds = subst (λ (ks : Kinds). FailsBy ks parse.result) (faults_by _ _ is) (parse.ensures.kinds (free_by _ is));
    }
