-- Claims to tokens, and the claims that win.
use Rattle.std.specs.Prelude.{ℕ, ◌==◌, Bool, false, ◌&&◌, ◌||◌, not, nat_lt, List, [], ◌∷◌, ◌++◌, map, codes, Option, Some, None, unwrap_or, if◌then◌else◌}
use Rattle.std.specs.List.{filter, flat_map, list_all, before_first}
use Rattle.std.specs.Ordering.{nat_cmp, ordering_then}
use Rattle.std.specs.declared.cmp.Ordering.{Ordering}
use Rattle.std.specs.Str.{bytes_eq}
use Rattle.std.specs.FinMap as table
use Rattle.cg_types.specs.declared.limits.TheConstants.{STATUS_KEY, TOKENS_KEY}
use Rattle.cg_types.specs.Rising.{is_among}
use Rattle.cg_entry.specs.Versioned.{Versioned, States}
use Rattle.cg_entry.specs.Values.{EntryValue}
use Rattle.cg_table.specs.Values.{Entries}
use Rattle.cg_tokens.specs.declared.claims.Claim.{Claim}
use Rattle.cg_tokens.specs.Text.{is_comma, tokens_of}

-- the text that is held, empty if there is none or its tombstone
abbrev pub text_held : Option Versioned → List ℕ
text_held None = []
text_held (Some v) = unwrap_or v.text []

-- the text at a key
abbrev pub text_at : States → ℕ → List ℕ
text_at states key = text_held (table.get states key)

-- The status, up to its first comma, is NORMAL or LEAVING.
abbrev pub is_member : States → Bool
is_member states =
    let status = before_first is_comma (text_at states STATUS_KEY) in
    bytes_eq status (codes "NORMAL") || bytes_eq status (codes "LEAVING")

-- the tokens that an endpoint claims by its states; none if their text can't be read
abbrev pub claimed_tokens : States → List ℕ
claimed_tokens states = if is_member states then unwrap_or (tokens_of (text_at states TOKENS_KEY)) [] else []

-- an endpoint's claim to a token
abbrev pub claim : ℕ × EntryValue → ℕ → Claim
claim owner token = record { token = token; endpoint = owner.0; generation = owner.1.generation }

-- an endpoint's claims
abbrev pub claims_of : ℕ × EntryValue → List Claim
claims_of owner = map (claim owner) (claimed_tokens owner.1.states)

-- all claims of a table
abbrev pub claims : Entries → List Claim
claims entries = flat_map claims_of (table.entries entries)

-- of two claims to one token: the greater generation, then the lesser endpoint
abbrev pub beats : Claim → Claim → Bool
beats c d = nat_lt d.generation c.generation || (d.generation == c.generation && nat_lt c.endpoint d.endpoint)

-- no claim to the same token beats it
abbrev pub wins : List Claim → Claim → Bool
wins cs c = list_all (λ d. not (d.token == c.token && beats d c)) cs

-- An entry shows that it claims the same tokens as the entry held of its owner before. Its generation, status and
-- tokens are the same, or nothing was held and it is no member.
abbrev pub keeps_claims : Option EntryValue → EntryValue → Bool
keeps_claims None e = not (is_member e.states)
keeps_claims (Some held) e =
    e.generation == held.generation && bytes_eq (text_at e.states STATUS_KEY) (text_at held.states STATUS_KEY)
    && bytes_eq (text_at e.states TOKENS_KEY) (text_at held.states TOKENS_KEY)

-- a token with the endpoint that claims it
abbrev pub position : Claim → ℕ × ℕ
position c = (c.token, c.endpoint)

-- ---- the order of sorted claims

-- by token, and for one token the claim that beats the other comes first
abbrev pub rank : Claim → Claim → Ordering
rank c d =
    ordering_then (ordering_then (nat_cmp c.token d.token) (nat_cmp d.generation c.generation))
    (nat_cmp c.endpoint d.endpoint)

-- one claim comes before another: by its token, or for one token by beating it
abbrev pub goes_before : Claim → Claim → Bool
goes_before c d = nat_lt c.token d.token || (c.token == d.token && beats c d)

-- ---- claims that are moved

-- the claims of all endpoints but these
abbrev pub without : List ℕ → List Claim → List Claim
without owners cs = filter (λ c. not (is_among owners c.endpoint)) cs

-- the sorted claims that come before another one
abbrev pub before : Claim → List Claim → List Claim
before c [] = []
before c (d ∷ ds) = if goes_before d c then d ∷ before c ds else []

-- the others, from there on
abbrev pub behind : Claim → List Claim → List Claim
behind c [] = []
behind c (d ∷ ds) = if goes_before d c then behind c ds else d ∷ ds

-- two lists of sorted claims, as one
abbrev pub merge : List Claim → List Claim → List Claim
merge [] ds = ds
merge (c ∷ cs) ds = before c ds ++ c ∷ merge cs (behind c ds)

-- ---- the first of each token

-- a test that a token is the last one
abbrev pub is_last : Option ℕ → ℕ → Bool
is_last None t = false
is_last (Some u) t = u == t

-- the first claim of each run of claims to one token
abbrev pub first_claims : Option ℕ → List Claim → List (ℕ × ℕ)
first_claims last [] = []
first_claims last (c ∷ cs) =
    if is_last last c.token then first_claims last cs else position c ∷ first_claims (Some c.token) cs
