-- The rule of the views, and the outcome of a step under it.
use Rattle.std.specs.Prelude.{◌≡◌, ℕ, List}
use mathlib.Core.Option.{some}
use mathlib.Core.List.{IsPrefix}
use lib.ListN.{get_elem?}
use Rattle.logbook.specs.Pages.{Book}
use Rattle.cg_table.specs.Values.{TableValue}
use Rattle.cg_table.specs.Puts.{Put}
use Rattle.cg_views.specs.Shows.{ShownValue, IsSound}

-- the operations that each pass has seen begin the published ones
abbrev pub AreFronts : List (List Put) → List (List (List Put)) → Type 0
AreFronts all views = (pass : ℕ) (seen : List (List Put)) → get_elem? views pass ≡ some seen → IsPrefix seen all

pub record Keeps (book : Book) (opening : TableValue) (x : ShownValue) (views : List (List (List Put))) : Type 0 where
  pub sound : IsSound book opening x
  pub fronts : AreFronts x.front.all views

-- The shown table is sound, the operations seen before begin its operations, and these are the ones seen now.
pub record FindsShown (book : Book) (opening : TableValue) (seen : List (List Put)) (x y : ShownValue)
    (now : List (List Put)) : Type 0 where
  pub sound : IsSound book opening y
  pub begins : IsPrefix seen y.front.all
  pub now_is : now ≡ y.front.all
