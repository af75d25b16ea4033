-- The tokens of lists, one after the other.
use Rattle.std.proofs.Common.{◌≡◌, ℕ, codes, List, [], ◌∷◌, ◌++◌, Option, Some, None, refl, ap, sym, ◌∙◌, append_assoc}
use Rattle.std.specs.List.{flat_map}
use Rattle.json.specs.Token.{Token, key, string, begin_object, end_array, end_object}
use Rattle.json.specs.Json.{Members, member, no_members}
use Rattle.json.specs.Tree.{json_tokens, items_tokens, members_tokens}
use Rattle.cg_types.specs.EndpointText.{endpoint_text}
use Rattle.cg_entry.specs.Versioned.{Versioned}
use Rattle.cg_entry.specs.Values.{EntryValue}
use Rattle.cg_silence.specs.Verdict.{verdict_name}
use Rattle.std.specs.FinMap as map
use Rattle.cg_status.specs.declared.status.Seen.{Seen}
use Rattle.cg_status.specs.declared.status.Counters.{Counters}
use Rattle.cg_status.specs.Status.{broken_members, counters_json, states_json, row_json, seen_of, state_members, with_state, row_items, with_seen, with_since, endpoint_items}
use Rattle.cg_status.specs.Flat.{broken_tokens, traffic_tokens, delta_tokens, number_tokens, state_tokens, pair_tokens, endpoint_tokens, row_tokens, seen_tokens, since_tokens, text_member}

pub broken_members_tokens : (bs : List (ℕ × ℕ)) → members_tokens (broken_members bs) ≡ flat_map broken_tokens bs ++ end_object ∷ []
broken_members_tokens [] = refl
broken_members_tokens (b ∷ bs) = ap (λ (ts : List Token). broken_tokens b ++ ts) (broken_members_tokens bs)

with_state_tokens : (k : ℕ) (text : Option (List ℕ)) (others : Members) → members_tokens (with_state k text others) ≡ state_tokens k text ++ members_tokens others
with_state_tokens k None others = refl
with_state_tokens k (Some text) others = refl

pub state_members_tokens : (ss : List (ℕ × Versioned)) → members_tokens (state_members ss) ≡ flat_map pair_tokens ss ++ end_object ∷ []
state_members_tokens [] = refl
state_members_tokens (s ∷ ss) =
    with_state_tokens s.0 s.1.text (state_members ss)
    ∙ ap (λ (ts : List Token). pair_tokens s ++ ts) (state_members_tokens ss)
    ∙ sym (append_assoc (pair_tokens s) (flat_map pair_tokens ss) (end_object ∷ []))

pub row_items_tokens : (seen : List Seen) (rows : List (ℕ × EntryValue)) → items_tokens (row_items seen rows) ≡ flat_map (row_tokens seen) rows ++ end_array ∷ []
row_items_tokens seen [] = refl
row_items_tokens seen (row ∷ rows) =
    ap (λ (ts : List Token). row_tokens seen row ++ ts) (row_items_tokens seen rows)
    ∙ sym (append_assoc (row_tokens seen row) (flat_map (row_tokens seen) rows) (end_array ∷ []))

pub endpoint_items_tokens : (es : List ℕ) → items_tokens (endpoint_items es) ≡ flat_map endpoint_tokens es ++ end_array ∷ []
endpoint_items_tokens [] = refl
endpoint_items_tokens (e ∷ es) = ap (λ (ts : List Token). endpoint_tokens e ++ ts) (endpoint_items_tokens es)

with_since_tokens : (since : Option ℕ) (others : Members) → members_tokens (with_since since others) ≡ since_tokens since ++ members_tokens others
with_since_tokens None others = refl
with_since_tokens (Some since) others = refl

pub with_seen_tokens : (seen : Option Seen) (others : Members) → members_tokens (with_seen seen others) ≡ seen_tokens seen ++ members_tokens others
with_seen_tokens None others = refl
with_seen_tokens (Some seen) others =
    ap (λ (ts : List Token). text_member "verdict" (verdict_name seen.verdict) ++ ts) (with_since_tokens seen.since others)

-- the parts of the counters, in the order in which they are added
pub counters_are : (c : Counters) (bs : List (ℕ × ℕ))
    → begin_object ∷ (traffic_tokens c ++ (delta_tokens c ++ (key (codes "broken") ∷ begin_object ∷ (flat_map broken_tokens bs ++ end_object ∷ end_object ∷ []))))
    ≡ json_tokens (counters_json c bs)
counters_are c bs =
    ap (λ (ts : List Token). begin_object ∷ (traffic_tokens c ++ (delta_tokens c ++ (key (codes "broken") ∷ begin_object ∷ ts))))
    (sym (ap (λ (ts : List Token). ts ++ end_object ∷ []) (broken_members_tokens bs) ∙ append_assoc (flat_map broken_tokens bs) (end_object ∷ []) (end_object ∷ [])))

-- the parts of a row, in the order in which they are added
pub row_is : (seen : List Seen) (row : ℕ × EntryValue)
    → begin_object ∷ key (codes "endpoint") ∷ string (endpoint_text row.0) ∷ (number_tokens row.1 ++ (seen_tokens (seen_of seen row.0)
    ++ (key (codes "states") ∷ (json_tokens (states_json (map.entries row.1.states)) ++ end_object ∷ []))))
    ≡ row_tokens seen row
row_is seen row =
    ap (λ (ts : List Token). begin_object ∷ key (codes "endpoint") ∷ string (endpoint_text row.0) ∷ (number_tokens row.1 ++ ts))
    (sym (with_seen_tokens (seen_of seen row.0) (member (codes "states") (states_json (map.entries row.1.states)) no_members)))
