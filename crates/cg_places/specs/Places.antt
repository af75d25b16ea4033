-- The rules of messages, by places in owners' histories. A place is the number of an owner's entries that were seen,
-- and 0 is none.
use Rattle.std.specs.Prelude.{◌≡◌, ℕ, ◌≤◌, ◌⊎◌, ◌==◌, nat_lt, List, length, Option, Some, None, if◌then◌else◌}
use Rattle.cg_entry.specs.Values.{EntryValue}
use Rattle.cg_entry.specs.History.{generation_at}
use Rattle.cg_entry.specs.Place.{Span}
pub use Rattle.cg_table.specs.Places.{took_of_span, took_for, place_with}

-- an ask for the span after a place of a generation
pub record Ask : Type 0 where
  pub generation : ℕ
  pub from : ℕ

-- The place that is asked from lies in the history, and has the generation unless it is none.
pub record IsAsk (history : List EntryValue) (ask : Ask) : Type 0 where
  pub stands : ask.from ≤ length history
  pub alike : (ask.from ≡ 0) ⊎ (generation_at history ask.from ≡ ask.generation)

-- the place, if it has that generation, and else none
abbrev pub within_generation : List EntryValue → ℕ → ℕ → ℕ
within_generation history generation place = if generation_at history place == generation then place else 0

-- the span that a holder at the place mine sends one at the place theirs: the entries that the other lacks
abbrev pub span_for : List EntryValue → ℕ → ℕ → Option Span
span_for history mine theirs =
    if nat_lt theirs mine
    then Some (record { from = within_generation history (generation_at history mine) theirs; to = mine })
    else None

-- the ask of a holder at the place mine to one at the place theirs: for the entries that itself lacks
abbrev pub ask_for : List EntryValue → ℕ → ℕ → Option Ask
ask_for history mine theirs =
    if nat_lt mine theirs
    then Some (record {
      generation = generation_at history theirs;
      from = within_generation history (generation_at history theirs) mine;
    })
    else None

-- the span that a holder at the place mine sends for an ask
abbrev pub span_asked : List EntryValue → ℕ → Ask → Option Span
span_asked history mine ask =
    if mine == 0 then None
    else if nat_lt (generation_at history mine) ask.generation then None
    else if nat_lt ask.generation (generation_at history mine) then Some (record { from = 0; to = mine })
    else if nat_lt ask.from mine then Some (record { from = ask.from; to = mine })
    else None
