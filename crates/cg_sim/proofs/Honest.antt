-- If no link failed, all of the script was played, or memory ran out.
use Rattle.std.proofs.Common.{◌≡◌, ℕ, ◌⊎◌, inl, inr, List, [], ◌++◌, take, Option, Some, None, IfSome, sym, ap, ◌∙◌, subst, append_assoc}
use Rattle.std.specs.Io.KnownBytes.{Appends, Consumes, IsAtEnd}
use Rattle.cg_types.specs.declared.fault.Fault.TheVariants.{OutOfMemory}
use Rattle.cg_types.specs.Fault.{fault_text}
use Rattle.cg_links.specs.declared.counted.Counted.{Counted}
use Rattle.cg_links.specs.declared.transfer.TheConstants.{MOST_READS}
use Rattle.cg_links.specs.Counted.{failed_of, idle_of, CountsFewer}
use Rattle.cg_links.specs.Lines.{ended_lines, unended_line, last_line, lines_of}
use Rattle.cg_sim.specs.Script.{first_play, lines_text, script_text}
use Rattle.cg_text.specs.Written.{WroteAll}
use Rattle.cg_text.proofs.LinkLemmas.{all_read, never_unread, never_broken, all_written}
use Rattle.cg_sim.specs.Simulated.{IsExpected, Simulates, PlaysAll, SaysOutOfMemory}
use Rattle.cg_links.proofs.LineLemmas.{ended_lines-append}
use Rattle.cg_sim.proofs.TextLemmas.{take_front}

-- the bytes read are a prefix of the bytes that were there
front_read : (input bytes : List ℕ) (after : Option (List ℕ)) → Consumes (Some input) after bytes → (rest : List ℕ) × (input ≡ bytes ++ rest)
front_read input bytes None read = absurd read
front_read input bytes (Some rest) read = (rest, read)

-- the first lines of a prefix that a line feed ends are among the first lines of the whole script
first_lines : (input front rest : List ℕ) (n : ℕ) → input ≡ front ++ rest → (k : ℕ) × (take n (ended_lines [] front) ≡ take k (lines_of input))
first_lines input front rest n e =
    let more = ended_lines (unended_line [] front) rest ++ last_line (unended_line [] input) in
    let found = take_front n (ended_lines [] front) more in
    let all : ended_lines [] front ++ more ≡ lines_of input =
    sym (append_assoc (ended_lines [] front) (ended_lines (unended_line [] front) rest) (last_line (unended_line [] input)))
    ∙ ap (λ (ls : List (List ℕ)). ls ++ last_line (unended_line [] input)) (sym (ended_lines-append [] front rest) ∙ ap (ended_lines []) (sym e)) in
    (found.0, found.1 ∙ ap (take found.0) all)

whole : (after held holds : Option (List ℕ)) (input script text : List ℕ) (result : ℕ) → script ≡ input → text ≡ script_text script → Appends held holds text
    → IsAtEnd after → result ≡ 0 → PlaysAll after held holds input result
whole after held holds input script text result same is wrote end status = record {
  end = end;
  text = subst (λ (t : List ℕ). Appends held holds t) (is ∙ ap script_text same) wrote;
  status = status;
}

due_written : {R W : Type 0} (input : List ℕ) (after held holds : Option (List ℕ)) (r0 r1 : Counted R) (w0 w1 : Counted W) (text : List ℕ) (status result : ℕ)
    → IsExpected (Some input) after r0 r1 text status → WroteAll held holds w0 w1 text status result → failed_of r1 ≡ 0 → CountsFewer r0 r1 MOST_READS
    → PlaysAll after held holds input result ⊎ SaysOutOfMemory held holds input result
due_written input after held holds r0 r1 w0 w1 text status result (inl w) all rf few =
    inl (whole after held holds input w.script text result (all_read input w.script after w.read w.end) w.text_is all.text_is w.end (all.result_is ∙ w.status_is))
due_written input after held holds r0 r1 w0 w1 text status result (inr (inl s)) all rf few =
    let rest = front_read input s.script after s.read in
    let lines = first_lines input s.script rest.0 s.count rest.1 in
    inr (record {
      count = lines.0;
      text = subst (λ (t : List ℕ). Appends held holds t)
          (s.text_is ∙ ap (λ (ls : List (List ℕ)). lines_text first_play ls ++ fault_text OutOfMemory) lines.1) all.text_is;
      status = all.result_is ∙ s.status_is;
    })
due_written input after held holds r0 r1 w0 w1 text status result (inr (inr c)) all rf few =
    absurd (never_unread r0 r1 rf few c.caused)

pub honest : {R W : Type 0} (before after held holds : Option (List ℕ)) (r0 r1 : Counted R) (w0 w1 : Counted W) (result : ℕ)
    → Simulates before after held holds r0 r1 w0 w1 result → failed_of r1 ≡ 0 → CountsFewer r0 r1 MOST_READS → failed_of w1 ≡ 0 → idle_of w1 ≡ 0
    → IfSome before (λ script. PlaysAll after held holds script result ⊎ SaysOutOfMemory held holds script result)
honest None after held holds r0 r1 w0 w1 result s rf few wf wi = tt
honest (Some input) after held holds r0 r1 w0 w1 result (inr h) rf few wf wi = absurd (never_broken w0 w1 wf wi h.2.caused)
honest (Some input) after held holds r0 r1 w0 w1 result (inl h) rf few wf wi =
    due_written input after held holds r0 r1 w0 w1 h.0 h.1 result h.2 (all_written held holds w0 w1 h.0 h.1 result h.3 wf wi) rf few
