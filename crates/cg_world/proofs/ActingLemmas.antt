-- Actions and runs by their answers: the worlds that they leave, and the outcomes that they show.
use Rattle.std.proofs.Common.{◌≡◌, ℕ, suc, ◌+◌, ◌<◌, length, get_or, drop, drop-cons, arith, List, [], ◌∷◌, ◌++◌, Bool, true, false, Result, Ok, Err, refl, sym, ap, subst, ◌∙◌, append_assoc, append-nil}
use Rattle.std.specs.Prelude.{OnOk, OnErr, cond}
use Rattle.std.specs.Bool.{MatchBool}
use Rattle.cg_types.specs.declared.fault.Fault.{Fault}
use Rattle.cg_types.specs.declared.fault.Fault.TheVariants as faults
use Rattle.cg_types.specs.Answer.{Answers}
use Rattle.cg_types.proofs.AnswerLemmas.{refused}
use Rattle.cg_core.specs.Step.{then}
use Rattle.cg_core.specs.SettingsValues.{SettingsValue}
use Rattle.cg_world.specs.declared.world.Shown.{Shown}
use Rattle.cg_world.specs.Acting.{shown_by, showing, found_no_memory, Ran, done_of}
use Rattle.cg_world.specs.World.{Action, WorldValue, acting, act, or_unchanged, new_world, run_from, run}
use Rattle.cg_world.specs.WorldLaws.{IsReached}
use Rattle.cg_world.specs.Headline.{Headline}
use Rattle.cg_world.specs.Consistent.{IsConsistent, IsConsistentWorld}
use Rattle.cg_world.proofs.HeadlineLaws.{headline}
use Rattle.cg_world.proofs.WorldLaws.{reached_worlds, nodes_spell_places, tables_are_the_join, equal_sets_give_equal_tables}
use Rattle.cg_world.proofs.TakenLaws.{outcomes_tell_what_is_taken}

module _ (c d : WorldValue) (action : Action) where
  -- a refused action changes nothing
  unchanged : (due : Result WorldValue Fault) (f : Fault) → then {B = Shown} due (λ e. shown_by c action) ≡ Err f → c ≡ or_unchanged c due
  unchanged (Ok e) f is = absurd cc
  unchanged (Err fault) f is = refl

  -- the action led to this world if memory was found
  pub acted : (r : Result Shown Fault) → found_no_memory r ≡ false → Answers (λ s. s) (showing c action) r → OnOk r (d ≡ act c action) → OnErr r (d ≡ c) → d ≡ act c action
  acted (Ok s) found due done same = done
  acted (Err f) found due done same =
      let other : f ≡ faults.OutOfMemory → ⊥ = λ e. let short : found_no_memory (Err f) ≡ true = ap (λ f. found_no_memory (Err f)) e in cc in
      same ∙ unchanged (acting c action) f (refused f (showing c action) other due)

  -- the world to which it led is reached
  pub reached_by : (r : Result Shown Fault) → IsReached c → OnOk r (d ≡ act c action) → OnErr r (d ≡ c) → IsReached d
  reached_by (Ok s) reached done same = subst IsReached (sym done) (reached_worlds.go_on c action reached)
  reached_by (Err f) reached done same = subst IsReached (sym same) reached

-- ---- runs

module _ (c d : WorldValue) (action : Action) (actions : List Action) (answer : Result Shown Fault) (due : Answers (λ s. s) (showing c action) answer) where
  -- a run that goes on after its first action
  pub ran_on : found_no_memory answer ≡ false → OnOk answer (d ≡ act c action) → OnErr answer (d ≡ c) → (answers : List (Result Shown Fault)) (e : WorldValue) → Ran d actions answers e
      → Ran c (action ∷ actions) (answer ∷ answers) e
  ran_on found done same answers e ran =
      (due, subst (λ b. MatchBool b ((answers ≡ []) × (e ≡ c)) (Ran (act c action) actions answers e)) (sym found) (subst (λ v. Ran v actions answers e) (acted c d action answer found due done same) ran))

  -- and one that ends with it
  pub ran_short : found_no_memory answer ≡ true → OnErr answer (d ≡ c) → Ran c (action ∷ actions) (answer ∷ []) d
  ran_short short same =
      let none : List (Result Shown Fault) = [] in
      (due, subst (λ b. MatchBool b ((none ≡ []) × (d ≡ c)) (Ran (act c action) actions [] d)) (sym short) (refl {A = List (Result Shown Fault)}, left answer short same))
    where
      left : (r : Result Shown Fault) → found_no_memory r ≡ true → OnErr r (d ≡ c) → d ≡ c
      left (Ok s) short same = absurd cc
      left (Err f) short same = same

-- a run leads to the world of its actions, up to the one that found no memory
pub ran_leads : (c d : WorldValue) (actions : List Action) (answers : List (Result Shown Fault)) → Ran c actions answers d → d ≡ run_from c (done_of actions answers)
ran_leads c d [] [] ran = ran
ran_leads c d [] (answer ∷ answers) ran = absurd ran
ran_leads c d (action ∷ actions) [] ran = absurd ran
ran_leads c d (action ∷ actions) (answer ∷ answers) ran = go (ran_leads (act c action) d actions answers) (found_no_memory answer) ran.1
  where
    go : (Ran (act c action) actions answers d → d ≡ run_from (act c action) (done_of actions answers)) → (short : Bool) → MatchBool short ((answers ≡ []) × (d ≡ c)) (Ran (act c action) actions answers d)
        → d ≡ run_from c (cond short [] (action ∷ done_of actions answers))
    go on true left = left.1
    go on false rest = on rest

-- ---- properties after actions

pub headline_after : (settings : SettingsValue) (actions : List Action) (c : WorldValue) → c ≡ run settings actions → Headline settings actions c
headline_after settings actions c is = subst (Headline settings actions) (sym is) (headline settings actions)

pub consistent_after : (settings : SettingsValue) (actions : List Action) (c : WorldValue) → c ≡ run settings actions → IsConsistent settings actions c
consistent_after settings actions c is = subst (IsConsistent settings actions) (sym is) (record {
  led = refl;
  spelled = nodes_spell_places settings actions;
  told = λ earlier later whole. outcomes_tell_what_is_taken settings earlier;
  joined = tables_are_the_join settings actions;
  equal_sets = equal_sets_give_equal_tables settings actions;
})

pub consistent_reached : (c : WorldValue) → IsReached c → IsConsistentWorld c
consistent_reached c reached = record {
  reached = reached;
  headline = λ actions is. headline_after c.settings actions c is;
  consistent = λ actions is. consistent_after c.settings actions c is;
}

-- a world after a run, and after the actions that were done
pub headline_ran : (settings : SettingsValue) (actions : List Action) (answers : List (Result Shown Fault)) (c : WorldValue) → Ran (new_world settings) actions answers c
    → Headline settings (done_of actions answers) c
headline_ran settings actions answers c ran = headline_after settings (done_of actions answers) c (ran_leads (new_world settings) c actions answers ran)

pub consistent_ran : (settings : SettingsValue) (actions : List Action) (answers : List (Result Shown Fault)) (c : WorldValue) → Ran (new_world settings) actions answers c
    → IsConsistent settings (done_of actions answers) c
consistent_ran settings actions answers c ran = consistent_after settings (done_of actions answers) c (ran_leads (new_world settings) c actions answers ran)

-- actions lead from a reached world to a reached world
reached_from : (c : WorldValue) (actions : List Action) → IsReached c → IsReached (run_from c actions)
reached_from c [] reached = reached
reached_from c (action ∷ actions) reached = reached_from (act c action) actions (reached_worlds.go_on c action reached)

-- the same after every list that leads to that world
pub consistent_world_ran : (settings : SettingsValue) (actions : List Action) (answers : List (Result Shown Fault)) (c : WorldValue) → Ran (new_world settings) actions answers c
    → IsConsistentWorld c
consistent_world_ran settings actions answers c ran =
    consistent_reached c (subst IsReached (sym (ran_leads (new_world settings) c actions answers ran)) (reached_from (new_world settings) (done_of actions answers) (reached_worlds.begin settings)))

-- ---- a run that goes on

-- the answers of all actions are the answers so far and then those of the rest
abbrev pub RunsOn : WorldValue → List Action → WorldValue → List Action → List (Result Shown Fault) → Type 0
RunsOn begin actions c rest so_far = (answers : List (Result Shown Fault)) (d : WorldValue) → Ran c rest answers d → Ran begin actions (so_far ++ answers) d

module _ (begin c d : WorldValue) (actions rest more : List Action) (action : Action) (so_far : List (Result Shown Fault)) (answer : Result Shown Fault)
    (runs : RunsOn begin actions c rest so_far) (split : rest ≡ action ∷ more) (due : Answers (λ s. s) (showing c action) answer) where
  pub runs_next : found_no_memory answer ≡ false → OnOk answer (d ≡ act c action) → OnErr answer (d ≡ c) → RunsOn begin actions d more (so_far ++ answer ∷ [])
  runs_next found done same answers e ran =
      subst (λ (xs : List (Result Shown Fault)). Ran begin actions xs e) (sym (append_assoc so_far (answer ∷ []) answers))
      (runs (answer ∷ answers) e (subst (λ (xs : List Action). Ran c xs (answer ∷ answers) e) (sym split) (ran_on c d action more answer due found done same answers e ran)))

  pub runs_out : found_no_memory answer ≡ true → OnErr answer (d ≡ c) → Ran begin actions (so_far ++ answer ∷ []) d
  runs_out short same = runs (answer ∷ []) d (subst (λ (xs : List Action). Ran c xs (answer ∷ []) d) (sym split) (ran_short c d action more answer due short same))

-- a run is over if no action is left
pub runs_end : (begin c : WorldValue) (actions rest : List Action) (so_far : List (Result Shown Fault)) → RunsOn begin actions c rest so_far → rest ≡ [] → Ran begin actions so_far c
runs_end begin c actions rest so_far runs none =
    subst (λ (xs : List (Result Shown Fault)). Ran begin actions xs c) (append-nil so_far) (runs [] c (subst (λ (xs : List Action). Ran c xs [] c) (sym none) refl))

-- the actions from one on
pub split_at : (actions : List Action) (at : ℕ) (action : Action) → at < length actions → action ≡ get_or actions at action → drop at actions ≡ action ∷ drop (at + 1) actions
split_at actions at action lt is =
    let next : suc at ≡ at + 1 = omega arith in
    drop-cons actions at action lt ∙ ap (λ (a : Action). a ∷ drop (suc at) actions) (sym is) ∙ ap (λ k. action ∷ drop k actions) next
