use Rattle.std.proofs.Common.{◌≡◌, codes, refl, inl, inr, ◌∙◌, ap, Err}
use Rattle.cg_types.specs.declared.fault.Fault.TheVariants as fault
use Rattle.cg_types.proofs.FaultLines.{out_of_memory_line, read_fault_line}
use Rattle.cg_tool.proofs.answering.answer_links.Goals as goal

pub returns-in-Ok-clause-answered : goal.returns-in-Ok-clause-answered
returns-in-Ok-clause-answered g c = (
  codes "fault 1 OutOfMemory\n",
  1,
  inr (inl (record {
    input = c.in-Ok.input.items;
    read = c.in-Ok.ensures.ok;
    kept = c.in-Ok.ensures.kept;
    text_is = out_of_memory_line;
    status_is = refl;
  })),
  c.written-in-Err-expected_text.ensures,
)

pub returns-in-ReadFault-clause-answered : goal.returns-in-ReadFault-clause-answered
returns-in-ReadFault-clause-answered g c =
    let failed : c.read_all.result ≡ Err fault.ReadFault = c.in-Err.is ∙ ap Err c.in-ReadFault.is in
    let (input, read) = c.in-Err.ensures.taken in
    (codes "fault 14 ReadFault\n", 1, inr (inr (record { input = input; read = read; caused = c.read_all.ensures.caused failed; text_is = read_fault_line; status_is = refl })), c.written-in-ReadFault.ensures)

pub returns-clause-answered : goal.returns-clause-answered
returns-clause-answered g c =
    let memory : c.read_all.result ≡ Err fault.OutOfMemory = c.in-Err.is ∙ ap Err (elim c.in-Err.ensures.fault [
      | inl memory ↦ memory
      | inr failed ↦ absurd (c.in_default.not-ReadFault failed)
    ]) in
    let kept = c.read_all.ensures.memory memory in
    let (input, read) = c.in-Err.ensures.taken in
    (codes "fault 1 OutOfMemory\n", 1, inr (inl (record { input = input; read = read; kept = kept; text_is = out_of_memory_line; status_is = refl })), c.written-in_default.ensures)
