use Rattle.cg_workers.proofs.receiving.answer_next.Goals as goal

pub returns-in-Ok-Some : goal.returns-in-Ok-Some
returns-in-Ok-Some g c = record {
  link = c.in-Ok-Some.link;
  accepted = rw c.in-Ok-Some.field-0-is at c.in-Ok-Some.ensures.accepts;
  answered = c.answer.ensures;
}
