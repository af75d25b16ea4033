-- If no link failed, the answer to all of the input was written.
use Rattle.std.proofs.Common.{◌≡◌, ℕ, ◌⊎◌, List, Option, Some, None, IfSome, ap, ◌∙◌, subst, inl, inr}
use Rattle.std.specs.Io.KnownBytes.{Appends}
use Rattle.cg_links.specs.declared.counted.Counted.{Counted}
use Rattle.cg_links.specs.Counted.{failed_of, idle_of, CountsFewer}
use Rattle.cg_links.specs.declared.transfer.TheConstants.{MOST_READS}
use Rattle.cg_tool.specs.Answer.{answer_to, text_of, status_of}
use Rattle.cg_text.specs.Written.{WroteOut}
use Rattle.cg_text.proofs.LinkLemmas.{all_read, never_unread, all_written, wrote_out}
use Rattle.cg_tool.specs.Answered.{IsExpectedAnswer, AnswersAll, SaysOutOfMemory}

pub honest : {R W : Type 0} (before after held holds : Option (List ℕ)) (r0 r1 : Counted R) (w0 w1 : Counted W) (text : List ℕ) (status result : ℕ)
    → IsExpectedAnswer before after r0 r1 text status → WroteOut held holds w0 w1 text status result → failed_of r1 ≡ 0 → CountsFewer r0 r1 MOST_READS → failed_of w1 ≡ 0 → idle_of w1 ≡ 0
    → IfSome before (λ input. AnswersAll after held holds input result ⊎ SaysOutOfMemory held holds result)
honest None after held holds r0 r1 w0 w1 text status result due wrote rf few wf wi = tt
honest (Some input) after held holds r0 r1 w0 w1 text status result (inl answers) wrote rf few wf wi =
    let all = all_written held holds w0 w1 text status result (wrote_out held holds w0 w1 text status result wrote) wf wi in
    let same = all_read input answers.input after answers.read answers.end in
    inl (record {
      end = answers.end;
      text = subst (λ (t : List ℕ). Appends held holds t) (answers.text_is ∙ ap (λ (l : List ℕ). text_of (answer_to l)) same) all.text_is;
      status = all.result_is ∙ answers.status_is ∙ ap (λ (l : List ℕ). status_of (answer_to l)) same;
    })
honest (Some input) after held holds r0 r1 w0 w1 text status result (inr (inl memory)) wrote rf few wf wi =
    let all = all_written held holds w0 w1 text status result (wrote_out held holds w0 w1 text status result wrote) wf wi in
    inr (record {
      text = subst (λ (t : List ℕ). Appends held holds t) memory.text_is all.text_is;
      status = all.result_is ∙ memory.status_is;
    })
honest (Some input) after held holds r0 r1 w0 w1 text status result (inr (inr read)) wrote rf few wf wi =
    absurd (never_unread r0 r1 rf few read.caused)
