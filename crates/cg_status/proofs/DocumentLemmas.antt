-- The text of a value's tokens is that value.
use Rattle.std.proofs.Common.{◌≡◌, ℕ, codes, ◌≤◌, List, [], ◌∷◌, ◌++◌, max, Option, Some, None, option_and_then, refl, sym, ap, ◌∙◌, append-nil, arith}
use Rattle.json.specs.Token.{Token}
use Rattle.json.specs.Lex.{tokens}
use Rattle.std.specs.FinMap as map
use Rattle.json.specs.Json.{Json, Members, member, no_members, value, if_last, max_depth, document}
use Rattle.json.specs.Print.{print}
use Rattle.json.specs.Tree.{json_tokens, depth, items_depth, members_depth}
use Rattle.json.proofs.Printed.Trees.{value-json_tokens}
use Rattle.cg_entry.specs.Versioned.{Versioned}
use Rattle.cg_entry.specs.Values.{EntryValue}
use Rattle.cg_status.specs.declared.status.Seen.{Seen}
use Rattle.cg_status.specs.declared.status.Counters.{Counters}
use Rattle.cg_status.specs.declared.status.Status.{Status}
use Rattle.cg_status.specs.Status.{broken_members, state_members, with_state, with_seen, with_since, seen_of, row_json, row_items, states_json, rows_json, counters_json, status_json, endpoint_items, endpoints_json}

pub read_back : (j : Json) (text : List ℕ) (ts : List Token) → text ≡ print ts → ts ≡ json_tokens j → tokens (print ts) ≡ ts → depth j ≤ max_depth
    → document text ≡ Some j
read_back j text ts printed are reads shallow =
    let read : tokens text ≡ json_tokens j ++ [] = ap tokens printed ∙ reads ∙ are ∙ sym (append-nil (json_tokens j)) in
    ap (λ (us : List Token). option_and_then (λ p. if_last p.0 p.1) (value max_depth us)) read
    ∙ ap (option_and_then (λ p. if_last p.0 p.1)) (value-json_tokens j max_depth [] shallow)

pub endpoints_shallow : (es : List ℕ) → items_depth (endpoint_items es) ≤ 0
endpoints_shallow [] = omega arith
endpoints_shallow (e ∷ es) = omega (arith, endpoints_shallow es)

broken_shallow : (bs : List (ℕ × ℕ)) → members_depth (broken_members bs) ≤ 0
broken_shallow [] = omega arith
broken_shallow (b ∷ bs) = omega (arith, broken_shallow bs)

with_state_shallow : (key : ℕ) (text : Option (List ℕ)) (others : Members) → members_depth others ≤ 0 → members_depth (with_state key text others) ≤ 0
with_state_shallow key None others h = h
with_state_shallow key (Some text) others h = omega (arith, h)

states_shallow : (ss : List (ℕ × Versioned)) → members_depth (state_members ss) ≤ 0
states_shallow [] = omega arith
states_shallow (s ∷ ss) = with_state_shallow s.0 s.1.text (state_members ss) (states_shallow ss)

with_since_shallow : (since : Option ℕ) (others : Members) → members_depth others ≤ 1 → members_depth (with_since since others) ≤ 1
with_since_shallow None others h = h
with_since_shallow (Some since) others h = omega (arith, h)

with_seen_shallow : (seen : Option Seen) (others : Members) → members_depth others ≤ 1 → members_depth (with_seen seen others) ≤ 1
with_seen_shallow None others h = h
with_seen_shallow (Some seen) others h = omega (arith, with_since_shallow seen.since others h)

row_shallow : (seen : List Seen) (row : ℕ × EntryValue) → depth (row_json seen row) ≤ 2
row_shallow seen row =
    let states : members_depth (member (codes "states") (states_json (map.entries row.1.states)) no_members) ≤ 1 = omega (arith, states_shallow (map.entries row.1.states)) in
    omega (arith, with_seen_shallow (seen_of seen row.0) (member (codes "states") (states_json (map.entries row.1.states)) no_members) states)

rows_shallow : (seen : List Seen) (rows : List (ℕ × EntryValue)) → items_depth (row_items seen rows) ≤ 2
rows_shallow seen [] = omega arith
rows_shallow seen (row ∷ rows) = omega (arith, row_shallow seen row, rows_shallow seen rows)

counters_shallow : (c : Counters) (bs : List (ℕ × ℕ)) → depth (counters_json c bs) ≤ 2
counters_shallow c bs = omega (arith, broken_shallow bs)

pub status_shallow : (s : Status) (rows : List (ℕ × EntryValue)) → depth (status_json s rows) ≤ max_depth
status_shallow s rows =
    let counters : depth (counters_json s.counters s.broken.items) ≤ 2 = counters_shallow s.counters s.broken.items in
    let held : depth (rows_json s.seen.items rows) ≤ 3 = omega (arith, rows_shallow s.seen.items rows) in
    omega (arith, counters, held)

pub endpoints_within : (es : List ℕ) → depth (endpoints_json es) ≤ max_depth
endpoints_within es = omega (arith, endpoints_shallow es)
