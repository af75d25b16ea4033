use Rattle.std.proofs.Common.{ap, ◌∙◌}
use Rattle.std.proofs.lemmas.Result.{err_from_is_err_and}
use Rattle.cg_history.specs.History.{HistoryValue, count_of}
use Rattle.cg_locked.specs.Shared.{unconfirmed_receipt}
use Rattle.cg_threads.proofs.Workers.{unconfirmed_of_receiver}
use Rattle.cg_threads.proofs.Confirmed.{as_many, after_receiver, after_sender, after_ticker}
use Rattle.cg_threads.proofs.finishing.confirm_all.Goals as goal

pub returns-in_err-history-clause-confirmed : goal.returns-in_err-history-clause-confirmed
returns-in_err-history-clause-confirmed g c =
    let p = err_from_is_err_and c.from_residual.result c.from_residual.ensures.1 in
    let u = c.in_err-history.field-0.0 in
    rw (p.1, p.2) (unconfirmed_of_receiver c.args.receiver.now c.args.sender.now c.args.ticker.now c.args.operator.now c.requires.receipts u.history.folded u.history.records (unconfirmed_receipt u) c.in_err-history.ensures.confirmed)

pub returns-in_err-history-2-clause-confirmed : goal.returns-in_err-history-2-clause-confirmed
returns-in_err-history-2-clause-confirmed g c =
    let p = err_from_is_err_and c.from_residual-in_err-history-2.result c.from_residual-in_err-history-2.ensures.1 in
    rw (p.1, p.2) (after_receiver c.args.receiver.now c.args.sender.now c.args.ticker.now c.args.operator.now c.requires.receipts c.in_ok-history.history c.in_ok-history.ensures.confirmed
    c.in_err-history-2.field-0.0 c.in_err-history-2.ensures.history c.in_err-history-2.ensures.confirmed)

pub returns-in_err-history-3-clause-confirmed : goal.returns-in_err-history-3-clause-confirmed
returns-in_err-history-3-clause-confirmed g c =
    let p = err_from_is_err_and c.from_residual-in_err-history-3.result c.from_residual-in_err-history-3.ensures.1 in
    rw (p.1, p.2) (after_sender c.args.receiver.now c.args.sender.now c.args.ticker.now c.args.operator.now c.requires.receipts c.in_ok-history.history c.in_ok-history.ensures.confirmed
    c.in_ok-history-2.history c.in_ok-history-2.ensures.history c.in_ok-history-2.ensures.confirmed c.in_err-history-3.field-0.0 c.in_err-history-3.ensures.history c.in_err-history-3.ensures.confirmed)

pub returns-clause-confirmed : goal.returns-clause-confirmed
returns-clause-confirmed g c =
    after_ticker c.args.receiver.now c.args.sender.now c.args.ticker.now c.args.operator.now c.requires.receipts c.in_ok-history.history c.in_ok-history.ensures.confirmed
    c.in_ok-history-2.history c.in_ok-history-2.ensures.history c.in_ok-history-2.ensures.confirmed c.in_ok-history-3.history c.in_ok-history-3.ensures.history c.in_ok-history-3.ensures.confirmed
    c.confirm_behind-3.result c.confirm_behind-3.ensures.history c.confirm_behind-3.ensures.confirmed

pub returns-in_err-history-clause-start : goal.returns-in_err-history-clause-start
returns-in_err-history-clause-start g c =
    let p = err_from_is_err_and c.from_residual.result c.from_residual.ensures.1 in
    rw (p.1, p.2) (c.in_err-history.ensures.start)

pub returns-in_err-history-clause-count : goal.returns-in_err-history-clause-count
returns-in_err-history-clause-count g c =
    let p = err_from_is_err_and c.from_residual.result c.from_residual.ensures.1 in
    rw (p.1, p.2) (as_many c.args.receiver.now c.args.sender.now c.args.ticker.now c.args.operator.now _ ((c.in_err-history.ensures.count ∙ c.requires.count)))

pub returns-in_err-history-2-clause-start : goal.returns-in_err-history-2-clause-start
returns-in_err-history-2-clause-start g c =
    let p = err_from_is_err_and c.from_residual-in_err-history-2.result c.from_residual-in_err-history-2.ensures.1 in
    rw (p.1, p.2) (ap (λ (h : HistoryValue). h.start) (c.in_err-history-2.ensures.history) ∙ c.in_ok-history.ensures.start)

pub returns-in_err-history-2-clause-count : goal.returns-in_err-history-2-clause-count
returns-in_err-history-2-clause-count g c =
    let p = err_from_is_err_and c.from_residual-in_err-history-2.result c.from_residual-in_err-history-2.ensures.1 in
    rw (p.1, p.2) (as_many c.args.receiver.now c.args.sender.now c.args.ticker.now c.args.operator.now _ (ap (λ (h : HistoryValue). count_of h) (c.in_err-history-2.ensures.history) ∙ (c.in_ok-history.ensures.count ∙ c.requires.count)))

pub returns-in_err-history-3-clause-start : goal.returns-in_err-history-3-clause-start
returns-in_err-history-3-clause-start g c =
    let p = err_from_is_err_and c.from_residual-in_err-history-3.result c.from_residual-in_err-history-3.ensures.1 in
    rw (p.1, p.2) (ap (λ (h : HistoryValue). h.start) (c.in_err-history-3.ensures.history ∙ c.in_ok-history-2.ensures.history) ∙ c.in_ok-history.ensures.start)

pub returns-in_err-history-3-clause-count : goal.returns-in_err-history-3-clause-count
returns-in_err-history-3-clause-count g c =
    let p = err_from_is_err_and c.from_residual-in_err-history-3.result c.from_residual-in_err-history-3.ensures.1 in
    rw (p.1, p.2) (as_many c.args.receiver.now c.args.sender.now c.args.ticker.now c.args.operator.now _ (ap (λ (h : HistoryValue). count_of h) (c.in_err-history-3.ensures.history ∙ c.in_ok-history-2.ensures.history) ∙ (c.in_ok-history.ensures.count ∙ c.requires.count)))

pub returns-clause-start : goal.returns-clause-start
returns-clause-start g c =
    ap (λ (h : HistoryValue). h.start) (c.confirm_behind-3.ensures.history ∙ c.in_ok-history-3.ensures.history ∙ c.in_ok-history-2.ensures.history) ∙ c.in_ok-history.ensures.start

pub returns-clause-count : goal.returns-clause-count
returns-clause-count g c =
    as_many c.args.receiver.now c.args.sender.now c.args.ticker.now c.args.operator.now _ (ap (λ (h : HistoryValue). count_of h) (c.confirm_behind-3.ensures.history ∙ c.in_ok-history-3.ensures.history ∙ c.in_ok-history-2.ensures.history) ∙ (c.in_ok-history.ensures.count ∙ c.requires.count))

pub returns-in_err-history-clause-whole : goal.returns-in_err-history-clause-whole
returns-in_err-history-clause-whole g c =
    let p = err_from_is_err_and c.from_residual.result c.from_residual.ensures.1 in
    rw (p.1, p.2) (c.in_err-history.ensures.whole c.requires.whole)

pub returns-in_err-history-2-clause-whole : goal.returns-in_err-history-2-clause-whole
returns-in_err-history-2-clause-whole g c =
    let p = err_from_is_err_and c.from_residual-in_err-history-2.result c.from_residual-in_err-history-2.ensures.1 in
    rw (p.1, p.2) (ap (λ (h : HistoryValue). h.folded) (c.in_err-history-2.ensures.history) ∙ c.in_ok-history.ensures.whole c.requires.whole)

pub returns-in_err-history-3-clause-whole : goal.returns-in_err-history-3-clause-whole
returns-in_err-history-3-clause-whole g c =
    let p = err_from_is_err_and c.from_residual-in_err-history-3.result c.from_residual-in_err-history-3.ensures.1 in
    rw (p.1, p.2) (ap (λ (h : HistoryValue). h.folded) (c.in_err-history-3.ensures.history ∙ c.in_ok-history-2.ensures.history) ∙ c.in_ok-history.ensures.whole c.requires.whole)

pub returns-clause-whole : goal.returns-clause-whole
returns-clause-whole g c =
    ap (λ (h : HistoryValue). h.folded) (c.confirm_behind-3.ensures.history ∙ c.in_ok-history-3.ensures.history ∙ c.in_ok-history-2.ensures.history) ∙ c.in_ok-history.ensures.whole c.requires.whole
