-- The ring of a table's entries, and replicas on it.
use Rattle.std.specs.Prelude.{ℕ, ◌==◌, not, nat_lt, nat_le, List, [], ◌∷◌, ◌++◌, length, map as map_list, take, filter, if◌then◌else◌}
use Rattle.std.specs.Ordering.{nat_cmp}
use Rattle.std.specs.FinMap as map
use Rattle.cg_types.specs.Rising.{is_among}
use Rattle.cg_table.specs.Values.{Entries}
use Rattle.cg_tokens.specs.Claims.{claims, wins, position}

-- endpoints by the tokens that they have
abbrev pub Positions : Type 0
Positions = map.FinMap nat_cmp ℕ

-- each claimed token with the endpoint whose claim wins
abbrev pub ring : Entries → Positions
ring entries = map.from_entries (map_list position (filter (wins (claims entries)) (claims entries)))

-- the endpoints in their order
abbrev pub endpoints : List (ℕ × ℕ) → List ℕ
endpoints positions = map_list (λ p. p.1) positions

-- the endpoints clockwise from a token: those at it or after it, and then those before it
abbrev pub walk : List (ℕ × ℕ) → ℕ → List ℕ
walk positions token =
    endpoints (filter (λ p. nat_le token p.0) positions) ++ endpoints (filter (λ p. nat_lt p.0 token) positions)

-- each endpoint at its first place
abbrev pub firsts : List ℕ → List ℕ
firsts [] = []
firsts (e ∷ es) = e ∷ filter (λ f. not (e == f)) (firsts es)

-- the first rf endpoints from a token on, clockwise
abbrev pub replicas : List (ℕ × ℕ) → ℕ → ℕ → List ℕ
replicas positions token rf = take rf (firsts (walk positions token))

-- ---- the taking of replicas

-- the endpoints taken after one more
abbrev pub with_one : List ℕ → ℕ → List ℕ
with_one taken e = if is_among taken e then taken else taken ++ e ∷ []

-- the endpoints taken after some more, if rf are enough
abbrev pub firsts_until : ℕ → List ℕ → List ℕ → List ℕ
firsts_until rf taken [] = taken
firsts_until rf taken (e ∷ es) = if nat_le rf (length taken) then taken else firsts_until rf (with_one taken e) es
