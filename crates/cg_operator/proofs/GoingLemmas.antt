-- An operator's gate and pass go on from line to line.
use Rattle.std.proofs.Common.{◌≡◌, ℕ, inl, inr, List, [], ◌∷◌, ◌++◌, Option, Result, Ok, Err, IfErr, refl, sym, ap, ◌∙◌, subst, append_assoc, append-nil}
use Rattle.cg_types.specs.declared.fault.Fault.{Fault}
use Rattle.cg_table.specs.Values.{TableValue}
use Rattle.cg_table.specs.Puts.{Put}
use Rattle.cg_core.specs.declared.event.Event.{Event}
use Rattle.cg_core.specs.declared.event.Event.TheVariants as event
use Rattle.cg_core.specs.Values.{NodeValue}
use Rattle.cg_history.specs.declared.item.Receipt.{Receipt}
use Rattle.cg_views.specs.Lists.{StartsWith}
use Rattle.cg_locked.specs.Seats.{SeatValue, GoesOn, IsOperatorFault}
use Rattle.cg_links.proofs.ReadingLemmas.{stops_in_text, stops_in_lines}
use Rattle.cg_links.specs.Taken.{Takes, Refuses, Lacks, Stops, IsUnread, Fails}
use Rattle.cg_links.specs.Lines.{ended_lines, lines_of}
use Rattle.cg_links.specs.declared.counted.Counted.{Counted}
use Rattle.cg_operator.specs.declared.command.OperatorCommand.{OperatorCommand}
use Rattle.cg_operator.specs.declared.command.OperatorCommand.TheVariants.{Show, Set, Remove, Quit}
use Rattle.cg_operator.specs.Commands.{command_in}
use Rattle.cg_operator.specs.Doing.{Does, ChangesKey, Changes, ChangeRunsOut, RunsOut}
use Rattle.cg_operator.specs.Operating.{At, DoesLine, EndsAt, LacksMemory, ReadsNothing, WritesFront, ReachesTheEnd, Operates}

pub goes_nowhere : (g : SeatValue) → GoesOn g g
goes_nowhere g = record { seat = (refl, refl); more = []; receipts = sym (append-nil g.receipts) }

pub goes_same : (g h : SeatValue) → h ≡ g → GoesOn g h
goes_same g h e = subst (λ (x : SeatValue). GoesOn g x) (sym e) (goes_nowhere g)

pub goes_further : (g h i : SeatValue) → GoesOn g h → GoesOn h i → GoesOn g i
goes_further g h i one two = record {
  seat = (two.seat.0 ∙ one.seat.0, two.seat.1 ∙ one.seat.1);
  more = one.more ++ two.more;
  receipts = two.receipts ∙ ap (λ (l : List Receipt). l ++ two.more) one.receipts ∙ append_assoc g.receipts one.more two.more;
}

pub starts_same : (p q : List Put) → q ≡ p → StartsWith q p
starts_same p q e = ([], e ∙ sym (append-nil p))

pub starts_further : (p q r : List Put) → StartsWith q p → StartsWith r q → StartsWith r p
starts_further p q r one two =
    (one.0 ++ two.0, two.1 ∙ ap (λ (l : List Put). l ++ two.0) one.1 ∙ append_assoc p one.0 two.0)

-- The gate and the pass go on with a line.
pub record On (g : SeatValue) (p : List Put) (h : SeatValue) (q : List Put) : Type 0 where
  pub gate : GoesOn g h
  pub later : StartsWith q p

pub on_same : (g : SeatValue) (p : List Put) (h : SeatValue) (q : List Put) → h ≡ g → q ≡ p → On g p h q
on_same g p h q e f = record { gate = goes_same g h e; later = starts_same p q f }

module _ (start : NodeValue) where
  key_goes : (own : ℕ) (e : Event) (g : SeatValue) (p : List Put) (text : List ℕ) (h : SeatValue) (q : List Put)
      → ChangesKey start own e g p text h q → On g p h q
  key_goes own e g p text h q k = record {
    gate = record { seat = k.entered.seat; more = k.entered.receipt ∷ []; receipts = k.entered.receipts };
    later = k.later;
  }

  change_goes : (own : ℕ) (e : Event) (g : SeatValue) (p : List Put) (text : List ℕ) (h : SeatValue) (q : List Put)
      → Changes start own e g p text h q → On g p h q
  change_goes own e g p text h q s =
      elim s as (λ _. On g p h q) [
        | inl k ↦ key_goes own e g p text h q k
        | inr k ↦ on_same g p h q k.gate k.pass
      ]

  short_change_goes : (own : ℕ) (e : Event) (g : SeatValue) (p : List Put) (h : SeatValue) (q : List Put) → ChangeRunsOut start own e g p h q → On g p h q
  short_change_goes own e g p h q d =
      elim d as (λ _. On g p h q) [
        | inl n ↦ on_same g p h q n.0 n.1
        | inr k ↦ key_goes own e g p k.0 h q k.1
      ]

  pub line_goes : (opening : TableValue) (command : Result OperatorCommand Fault) (g : SeatValue) (p : List Put) (text : List ℕ) (h : SeatValue) (q : List Put)
      → Does start opening command g p text h q → On g p h q
  line_goes opening (Ok (Show view)) g p text h q d = record { gate = goes_same g h d.0; later = d.1 }
  line_goes opening (Ok (Set key value)) g p text h q d = change_goes opening.own (event.Set key value) g p text h q d
  line_goes opening (Ok (Remove key)) g p text h q d = change_goes opening.own (event.Remove key) g p text h q d
  line_goes opening (Ok Quit) g p text h q d = absurd d
  line_goes opening (Err f) g p text h q d = on_same g p h q d.0 d.1

  out_goes : (opening : TableValue) (command : Result OperatorCommand Fault) (g : SeatValue) (p : List Put) (h : SeatValue) (q : List Put)
      → RunsOut start opening command g p h q → On g p h q
  out_goes opening (Ok (Show view)) g p h q d = record { gate = goes_same g h d.0; later = d.1 }
  out_goes opening (Ok (Set key value)) g p h q d = short_change_goes opening.own (event.Set key value) g p h q d
  out_goes opening (Ok (Remove key)) g p h q d = short_change_goes opening.own (event.Remove key) g p h q d
  out_goes opening (Ok Quit) g p h q d = on_same g p h q d.0 d.1
  out_goes opening (Err f) g p h q d = on_same g p h q d.0 d.1

  module _ {W : Type 0} (holds : W → Option (List ℕ)) (opening : TableValue) where
    abbrev does : At W → List ℕ → At W → Type 0
    does = DoesLine holds start opening

    abbrev ends : At W → List ℕ → At W → Fault → Type 0
    ends = EndsAt holds start opening

    abbrev pub OnAt : At W → At W → Type 0
    OnAt s t = On s.gate s.pass t.gate t.pass

    pub further : (s m t : At W) → OnAt s m → OnAt m t → OnAt s t
    further s m t one two = record {
      gate = goes_further s.gate m.gate t.gate one.gate two.gate;
      later = starts_further s.pass m.pass t.pass one.later two.later;
    }

    pub lines_go : (s t : At W) (lines : List (List ℕ)) → Takes does ends s lines t → OnAt s t
    lines_go s t [] e = subst (λ (x : At W). OnAt s x) e (on_same s.gate s.pass s.gate s.pass refl refl)
    lines_go s t (line ∷ lines) h =
        let step = line_goes opening (command_in line) s.gate s.pass h.1.text h.0.gate h.0.pass h.1.done in
        further s h.0 t step (lines_go h.0 t lines h.2)

    -- a line that ended the operator, and its fault
    pub record OnTo (s t : At W) (f : Fault) : Type 0 where
      pub on : OnAt s t
      pub fault : IsOperatorFault f

    short_goes : (s t : At W) (line : List ℕ) (f : Fault) → LacksMemory holds start opening s line t f → OnTo s t f
    short_goes s t line f h = record {
      on = out_goes opening (command_in line) s.gate s.pass t.gate t.pass h.done;
      fault = subst IsOperatorFault (sym h.fault) tt;
    }

    unread_goes : (s t : At W) (line : List ℕ) (f : Fault) → ReadsNothing holds start opening s line t f → OnTo s t f
    unread_goes s t line f h = record {
      on = on_same s.gate s.pass t.gate t.pass (ap (λ (x : At W). x.gate) h.same) (ap (λ (x : At W). x.pass) h.same);
      fault = subst IsOperatorFault (sym h.fault) tt;
    }

    unwritten_goes : (s t : At W) (line : List ℕ) (f : Fault) → WritesFront holds start opening s line t f → OnTo s t f
    unwritten_goes s t line f h = record {
      on = line_goes opening (command_in line) s.gate s.pass h.text t.gate t.pass h.done;
      fault = subst IsOperatorFault (sym h.fault) tt;
    }

    pub end_goes : (s t : At W) (line : List ℕ) (f : Fault) → ends s line t f → OnTo s t f
    end_goes s t line f h =
        elim h as (λ _. OnTo s t f) [
          | inl k ↦ short_goes s t line f k
          | inr k ↦ elim k as (λ _. OnTo s t f) [
            | inl r ↦ unread_goes s t line f r
            | inr w ↦ unwritten_goes s t line f w
          ]
        ]

    refused_goes : (s t : At W) (lines : List (List ℕ)) (f : Fault) → Refuses does ends s lines t f → OnTo s t f
    refused_goes s t lines f h =
        let last = end_goes h.middle t h.line f h.refused in
        record { on = further s h.middle t (lines_go s h.middle h.front h.taken) last.on; fault = last.fault }

    lacked_goes : (s t : At W) (lines : List (List ℕ)) (f : Fault) → Lacks does ends s lines t f → OnTo s t f
    lacked_goes s t lines f h = record { on = lines_go s t h.front h.taken; fault = subst IsOperatorFault (sym h.fault) tt }

    module _ {R : Type 0} (before after : Option (List ℕ)) (old new : Counted R) (s t : At W) where
      stopped_goes : (f : Fault) → Stops does ends before after old new s t f → OnTo s t f
      stopped_goes f h =
          let text = h.earlier ++ h.piece in
          elim (stops_in_text does ends before after old new s t f h) as (λ _. OnTo s t f) [
            | inl r ↦ refused_goes s t (ended_lines [] text) f r
            | inr l ↦ lacked_goes s t (ended_lines [] text) f l
          ]

      cut_goes : (f : Fault) → IsUnread does ends before after old new s t f → OnTo s t f
      cut_goes f h = record { on = lines_go s t (ended_lines [] h.text) h.taken; fault = subst IsOperatorFault (sym h.fault) tt }

      pub failed_goes : (f : Fault) → Fails does ends before after old new s t f → OnTo s t f
      failed_goes f h =
          elim h as (λ _. OnTo s t f) [
            | inl k ↦ stopped_goes f k
            | inr k ↦ elim k as (λ _. OnTo s t f) [
              | inl l ↦ refused_goes s t (lines_of l.text) f (stops_in_lines does ends before after old new s t f l)
              | inr u ↦ cut_goes f u
            ]
          ]

      pub ended_goes : ReachesTheEnd holds start opening before after old new s t → OnAt s t
      ended_goes h =
          elim h as (λ _. OnAt s t) [
            | inl k ↦ lines_go s t (lines_of k.text) k.taken
            | inr q ↦ lines_go s t q.front q.done
          ]

      pub operated_goes : {T : Type 0} (r : Result T Fault) → Operates holds start opening before after old new s t r → OnAt s t
      operated_goes (Ok x) h = ended_goes h
      operated_goes (Err f) h = (failed_goes f h).on

      pub operated_faults : {T : Type 0} (r : Result T Fault) → Operates holds start opening before after old new s t r → IfErr r IsOperatorFault
      operated_faults (Ok x) h = tt
      operated_faults (Err f) h = (failed_goes f h).fault

    -- the same with other names for the values left
    pub operated_at : {R T : Type 0} (before after : Option (List ℕ)) (old new : Counted R) (s : At W)
        (g h : SeatValue) (p q : List Put) (w x : Counted W) (r : Result T Fault) → g ≡ h → p ≡ q → w ≡ x
        → Operates holds start opening before after old new s (record { gate = g; pass = p; writer = w }) r
        → Operates holds start opening before after old new s (record { gate = h; pass = q; writer = x }) r
    operated_at before after old new s g h p q w x r a b c done =
        let one = subst (λ (y : SeatValue). Operates holds start opening before after old new s (record { gate = y; pass = p; writer = w }) r) a done in
        let two = subst (λ (y : List Put). Operates holds start opening before after old new s (record { gate = h; pass = y; writer = w }) r) b one in
        subst (λ (y : Counted W). Operates holds start opening before after old new s (record { gate = h; pass = q; writer = y }) r) c two
