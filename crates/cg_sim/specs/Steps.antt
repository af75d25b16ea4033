-- The steps of a script that is played to a writer.
use Rattle.std.specs.Prelude.{◌≡◌, ℕ, ◌⊎◌, List, [], ◌∷◌, Option}
use Rattle.cg_types.specs.declared.fault.Fault.{Fault}
use Rattle.cg_links.specs.Counted.{link_of}
use Rattle.cg_sim.specs.declared.telling.Telling.{Telling}
use Rattle.cg_sim.specs.Told.{AreTold, IsUntold, BreaksOff}

module _ {W : Type 0} (holds : W → Option (List ℕ)) where
  -- the bytes that its writer holds
  abbrev pub held : Telling W → Option (List ℕ)
  held s = holds (link_of s.writer.now)

  -- The line was done, and its text written.
  pub record TakesStep (s : Telling W) (line : List ℕ) (t : Telling W) : Type 0 where
    pub writer : t.writer.ghost_name ≡ s.writer.ghost_name
    pub told : AreTold s.play.now t.play.now (line ∷ []) (held s) (held t) s.writer.now t.writer.now

  -- Memory ran out in the line, or the writer failed.
  pub record RefusesStep (s : Telling W) (line : List ℕ) (t : Telling W) (f : Fault) : Type 0 where
    pub writer : t.writer.ghost_name ≡ s.writer.ghost_name
    pub stops : IsUntold (held s) (held t) s.writer.now t.writer.now f
        ⊎ BreaksOff s.play.now (line ∷ []) (held s) (held t) s.writer.now t.writer.now f
