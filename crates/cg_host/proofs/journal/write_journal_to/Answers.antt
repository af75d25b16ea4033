use Rattle.std.proofs.Common.{rules, ◌≡◌, inl}
use Rattle.std.proofs.lemmas.Result.{IfErr-weaker, IfOk-weaker}
use Rattle.cg_host.proofs.journal.write_journal_to.Goals as goal

pub returns-clause-written : goal.returns-clause-written
returns-clause-written g c =
    let none : c.args.history.now.folded ≡ 0 = search rules in
    IfOk-weaker c.write_whole_to.result _ _ (λ v put. (none, put)) c.write_whole_to.ensures.written

pub returns-clause-err : goal.returns-clause-err
returns-clause-err g c =
    let none : c.args.history.now.folded ≡ 0 = search rules in
    IfErr-weaker c.write_whole_to.result _ _ (λ f not. inl (none, not)) c.write_whole_to.ensures.err
