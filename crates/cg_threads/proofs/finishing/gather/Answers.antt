use Rattle.std.proofs.Common.{refl, ◌∙◌}
use Rattle.cg_threads.specs.Workers.{work_of}
use Rattle.cg_threads.proofs.Running.{is_run, is_unconfirmed, unconfirmed_in}
use Rattle.cg_threads.proofs.finishing.gather.Goals as goal

pub returns-in-Ok-clause-ran : goal.returns-in-Ok-clause-ran
returns-in-Ok-clause-ran g c =
    let w = c.args.work in
    let a = c.deref.ensures.value ∙ c.into_parts-seat.ensures.receipts in
    let b = c.deref-2.ensures.value ∙ c.into_parts-seat-2.ensures.receipts in
    let d = c.deref-3.ensures.value ∙ c.into_parts-seat-3.ensures.receipts in
    let e = c.deref-4.ensures.value ∙ c.into_parts-seat-4.ensures.receipts in
    is_run g.N.Name.start (work_of w) c.requires.receipts c.in-Ok.history w.sender.numbers.items w.ticker.putting w.sender.taken refl
    c.requires.taken c.compare.ensures c.in-Ok.ensures.whole c.in-Ok.ensures.start c.show.ensures
    (rw (a, b, d, e) at c.in-Ok.ensures.count) (rw (a, b, d, e) at c.in-Ok.ensures.confirmed)

pub returns-in-Ok-clause-confirmed : goal.returns-in-Ok-clause-confirmed
returns-in-Ok-clause-confirmed g c =
    let a = c.deref.ensures.value ∙ c.into_parts-seat.ensures.receipts in
    let b = c.deref-2.ensures.value ∙ c.into_parts-seat-2.ensures.receipts in
    let d = c.deref-3.ensures.value ∙ c.into_parts-seat-3.ensures.receipts in
    let e = c.deref-4.ensures.value ∙ c.into_parts-seat-4.ensures.receipts in
    rw (a, b, d, e) at c.in-Ok.ensures.confirmed

pub returns-in-Err-clause-not : goal.returns-in-Err-clause-not
returns-in-Err-clause-not g c =
    let a = c.deref.ensures.value ∙ c.into_parts-seat.ensures.receipts in
    let b = c.deref-2.ensures.value ∙ c.into_parts-seat-2.ensures.receipts in
    let d = c.deref-3.ensures.value ∙ c.into_parts-seat-3.ensures.receipts in
    let e = c.deref-4.ensures.value ∙ c.into_parts-seat-4.ensures.receipts in
    is_unconfirmed g.N.Name.start (work_of c.args.work) c.requires.receipts c.in-Err.left c.in-Err.ensures.whole c.in-Err.ensures.start c.show-in-Err.ensures
    (rw (a, b, d, e) at c.in-Err.ensures.count) (rw (a, b, d, e) at c.in-Err.ensures.confirmed)

pub returns-in-Err-clause-unconfirmed : goal.returns-in-Err-clause-unconfirmed
returns-in-Err-clause-unconfirmed g c =
    let a = c.deref.ensures.value ∙ c.into_parts-seat.ensures.receipts in
    let b = c.deref-2.ensures.value ∙ c.into_parts-seat-2.ensures.receipts in
    let d = c.deref-3.ensures.value ∙ c.into_parts-seat-3.ensures.receipts in
    let e = c.deref-4.ensures.value ∙ c.into_parts-seat-4.ensures.receipts in
    unconfirmed_in g.N.Name.start (work_of c.args.work) c.requires.receipts c.in-Err.left c.in-Err.ensures.whole (rw (a, b, d, e) at c.in-Err.ensures.count) (rw (a, b, d, e) at c.in-Err.ensures.confirmed)
