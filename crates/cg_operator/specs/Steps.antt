-- The steps of an operator that holds its gate, its pass and its writer.
use Rattle.std.specs.Prelude.{ℕ, ◌≡◌, List, Option}
use Rattle.cg_types.specs.declared.fault.Fault.{Fault}
use Rattle.cg_table.specs.Values.{TableValue}
use Rattle.cg_core.specs.Values.{NodeValue}
use Rattle.cg_operator.specs.declared.operating.Operating.{Operating}
use Rattle.cg_operator.specs.Operating.{At, DoesLine, QuitsAt, EndsAt}

-- the progress of the operator
abbrev pub at_of : {N R W : Type 0} → Operating N R W → At W
at_of o = record { gate = o.gate.now; pass = o.pass.now; writer = o.writer.now }

-- It holds the same gate, pass and writer.
pub record HoldsSame {N R W : Type 0} (s t : Operating N R W) : Type 0 where
  pub gate : t.gate.ghost_name ≡ s.gate.ghost_name
  pub pass : t.pass.ghost_name ≡ s.pass.ghost_name
  pub writer : t.writer.ghost_name ≡ s.writer.ghost_name

module _ {N R W : Type 0} (holds : W → Option (List ℕ)) (start : NodeValue) (opening : TableValue) where
  pub record TakesStep (s : Operating N R W) (line : List ℕ) (t : Operating N R W) : Type 0 where
    pub same : HoldsSame s t
    pub done : DoesLine holds start opening (at_of s) line (at_of t)

  -- The line requested the end.
  pub record QuitsStep (s : Operating N R W) (line : List ℕ) (t : Operating N R W) : Type 0 where
    pub same : HoldsSame s t
    pub quits : QuitsAt holds start opening (at_of s) line (at_of t)

  -- The line ended the operator by a fault.
  pub record RefusesStep (s : Operating N R W) (line : List ℕ) (t : Operating N R W) (f : Fault) : Type 0 where
    pub same : HoldsSame s t
    pub ends : EndsAt holds start opening (at_of s) line (at_of t) f
