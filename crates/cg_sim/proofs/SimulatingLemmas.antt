-- The texts written of a script, and the line of a fault.
use Rattle.std.proofs.Common.{◌≡◌, ℕ, ◌+◌, inl, inr, List, [], ◌++◌, length, take, Option, refl, sym, ◌∙◌, subst}
use Rattle.std.specs.Io.KnownBytes.{Appends}
use Rattle.std.proofs.KnownBytes.{Appends-trans}
use Rattle.std.proofs.Math.Seq.{take-append-add}
use Rattle.cg_types.specs.declared.fault.Fault.{Fault}
use Rattle.cg_types.specs.declared.fault.Fault.TheVariants.{OutOfMemory, ReadFault, WriteFault}
use Rattle.cg_types.specs.Fault.{fault_text}
use Rattle.cg_links.specs.declared.counted.Counted.{Counted}
use Rattle.cg_links.specs.Counted.{KeepsCounts}
use Rattle.cg_links.proofs.Counts.{KeepsCounts-trans}
use Rattle.cg_links.specs.Lines.{ended_lines, lines_of}
use Rattle.cg_sim.specs.Script.{first_play, lines_text, script_text}
use Rattle.cg_sim.specs.Told.{BreaksOff}
use Rattle.cg_text.specs.Written.{WroteFront, Wrote}
use Rattle.cg_sim.specs.Simulated.{IsPlayed, FailsInTurn, WritesLine, Simulates}
use Rattle.cg_sim.proofs.ToldLemmas.{caused_later}

-- a text that was written, and then a line
pub wrote_line : {L : Type 0} (a b c : Option (List ℕ)) (u v w : Counted L) (text line : List ℕ) → Appends a b text → KeepsCounts u v
    → WritesLine b c v w line → Wrote a c u w (text ++ line) 1 1
wrote_line a b c u v w text line before kept h =
    elim h [
      | inl all ↦ inl (record { text_is = Appends-trans a b c text line before all.0; kept = KeepsCounts-trans u v w kept all.1; result_is = refl })
      | inr front ↦ inr (record {
        count = length text + front.0;
        front = subst (λ (t : List ℕ). Appends a c t) (sym (take-append-add text line front.0)) (Appends-trans a b c text (take front.0 line) before front.1);
        caused = caused_later u v w kept front.2;
        result_is = refl;
      })
    ]

pub simulates_all : {R W : Type 0} (before after held holds : Option (List ℕ)) (r0 r1 : Counted R) (w0 w1 : Counted W)
    → IsPlayed before after held holds r0 r1 w0 w1 → Simulates before after held holds r0 r1 w0 w1 0
simulates_all before after held holds r0 r1 w0 w1 h =
    inl (
      script_text h.script,
      0,
      inl (record { script = h.script; read = h.read; end = h.end; kept = h.kept; text_is = refl; status_is = refl }),
      inl (record { text_is = h.text; kept = h.same; result_is = refl }),
    )

broken_last : {W : Type 0} (script : List ℕ) (held holds : Option (List ℕ)) (w0 w1 : Counted W) (f : Fault)
    → BreaksOff first_play (lines_of script) held holds w0 w1 f → WroteFront held holds w0 w1 (script_text script) 1
unfolding script_text
broken_last script held holds w0 w1 f b = record { count = b.count; front = b.text; caused = b.caused; result_is = refl }

-- the writer failed
pub simulates_broken : {R W : Type 0} (before after held holds : Option (List ℕ)) (r0 r1 : Counted R) (w0 w1 : Counted W) (f : Fault)
    → (f ≡ OutOfMemory → ⊥) → (f ≡ ReadFault → ⊥) → FailsInTurn before after held holds r0 r1 w0 w1 f → Simulates before after held holds r0 r1 w0 w1 1
simulates_broken before after held holds r0 r1 w0 w1 f other another (inl s) =
    elim s.stops [
      | inl short ↦ absurd (other short.fault)
      | inr breaks ↦ inr (
        lines_text first_play (ended_lines [] s.script),
        record { script = s.script; read = s.read; kept = s.kept; text_is = refl },
        record { count = breaks.count; front = breaks.text; caused = breaks.caused; result_is = refl },
      )
    ]
simulates_broken before after held holds r0 r1 w0 w1 f other another (inr (inl l)) =
    inl (
      script_text l.script,
      0,
      inl (record { script = l.script; read = l.read; end = l.end; kept = l.kept; text_is = refl; status_is = refl }),
      inr (broken_last l.script held holds w0 w1 f l.breaks),
    )
simulates_broken before after held holds r0 r1 w0 w1 f other another (inr (inr u)) = absurd (another u.fault)

-- memory ran out, and the line that says so was written, or a prefix of it
pub simulates_short : {R W : Type 0} (before after held holds written : Option (List ℕ)) (r0 r1 : Counted R) (w0 w1 w2 : Counted W) (f : Fault)
    → f ≡ OutOfMemory → FailsInTurn before after held holds r0 r1 w0 w1 f → WritesLine holds written w1 w2 (fault_text OutOfMemory)
    → Simulates before after held written r0 r1 w0 w2 1
simulates_short before after held holds written r0 r1 w0 w1 w2 f e (inl s) line =
    elim s.stops [
      | inl short ↦ let text = lines_text first_play (take short.count (ended_lines [] s.script)) in
          inl (
            text ++ fault_text OutOfMemory,
            1,
            inr (inl (record { script = s.script; read = s.read; kept = s.kept; count = short.count; text_is = refl; status_is = refl })),
            wrote_line held holds written w0 w1 w2 text (fault_text OutOfMemory) short.text short.kept line,
          )
      | inr breaks ↦ let wrong : OutOfMemory ≡ WriteFault = sym e ∙ breaks.fault in absurd (cc wrong)
    ]
simulates_short before after held holds written r0 r1 w0 w1 w2 f e (inr (inl l)) line = let wrong : OutOfMemory ≡ WriteFault = sym e ∙ l.breaks.fault in absurd (cc wrong)
simulates_short before after held holds written r0 r1 w0 w1 w2 f e (inr (inr u)) line = let wrong : OutOfMemory ≡ ReadFault = sym e ∙ u.fault in absurd (cc wrong)

-- a read failed, and the line that says so was written, or a prefix of it
pub simulates_cut : {R W : Type 0} (before after held holds written : Option (List ℕ)) (r0 r1 : Counted R) (w0 w1 w2 : Counted W) (f : Fault)
    → f ≡ ReadFault → FailsInTurn before after held holds r0 r1 w0 w1 f → WritesLine holds written w1 w2 (fault_text ReadFault)
    → Simulates before after held written r0 r1 w0 w2 1
simulates_cut before after held holds written r0 r1 w0 w1 w2 f e (inl s) line =
    elim s.stops [
      | inl short ↦ let wrong : ReadFault ≡ OutOfMemory = sym e ∙ short.fault in absurd (cc wrong)
      | inr breaks ↦ let wrong : ReadFault ≡ WriteFault = sym e ∙ breaks.fault in absurd (cc wrong)
    ]
simulates_cut before after held holds written r0 r1 w0 w1 w2 f e (inr (inl l)) line = let wrong : ReadFault ≡ WriteFault = sym e ∙ l.breaks.fault in absurd (cc wrong)
simulates_cut before after held holds written r0 r1 w0 w1 w2 f e (inr (inr u)) line =
    let text = lines_text first_play (ended_lines [] u.script) in
    inl (
      text ++ fault_text ReadFault,
      1,
      inr (inr (record { script = u.script; read = u.read; caused = u.caused; text_is = refl; status_is = refl })),
      wrote_line held holds written w0 w1 w2 text (fault_text ReadFault) u.text u.same line,
    )
