-- Answers, member by member.
use Rattle.std.proofs.Common.{◌≡◌, ℕ, suc, ◌≤◌, Bool, true, false, cond, List, [], ◌∷◌, map, length, Option, Some, None, refl, sym, ap, subst, arith, nat_lt}
use Rattle.std.specs.List.{filter_map}
use Rattle.std.proofs.lemmas.Option.{same_Some}
use Rattle.std.proofs.lemmas.List.{length-map}
use Rattle.std.specs.Prelude.{◌&&◌, ◌==◌, find}
use Rattle.std.specs.Option.{option_map}
use Rattle.std.specs.FinMap as table
use Rattle.cg_types.specs.declared.limits.TheConstants.{MEMBER_LIMIT}
use Rattle.cg_entry.specs.Values.{EntryValue, DeltaValue}
use Rattle.cg_entry.specs.Entry.{newest}
use Rattle.cg_entry.specs.declared.digest.Digest.{Digest}
use Rattle.cg_types.specs.Rows.{keys_of}
use Rattle.cg_table.specs.Values.{Entries}
use Rattle.cg_messages.specs.declared.owner_delta.OwnerDelta.{OwnerDelta}
use Rattle.cg_messages.specs.Values.{RequestValue}
use Rattle.cg_exchange.specs.Taking.{grant_of, delta_granted, deltas_granted}
use Rattle.cg_table.specs.Table.{digest_of, digests_of}
use Rattle.cg_exchange.specs.Answering.{request_by, requests_for, delta_by, delta_for, deltas_for}
use Rattle.std.specs.List.{cons_option}
use Rattle.cg_messages.specs.Members.{AreListed, endpoints_of_digests, endpoints_of_requests, endpoints_of_deltas}
use Rattle.cg_types.specs.Rising.{Rises}
use Rattle.cg_types.proofs.RisingLemmas.{rise_sorted, rise_mapped}

module _ {X Y : Type 0} (f : X → Option Y) where
  few_mapped : (key : X → ℕ) (kept : Y → ℕ) (xs : List X) → length (map kept (filter_map f xs)) ≤ length (map key xs)
  few_mapped key kept [] = omega arith
  few_mapped key kept (x ∷ xs) =
      elim (f x) as (λ o. length (map kept (cons_option o (filter_map f xs))) ≤ suc (length (map key xs))) [
        | Some y ↦ omega (arith, few_mapped key kept xs)
        | None ↦ omega (arith, few_mapped key kept xs)
      ]

  pub listed_mapped : (key : X → ℕ) (kept : Y → ℕ) → ((x : X) (y : Y) → f x ≡ Some y → kept y ≡ key x) → (xs : List X) → AreListed (map key xs) → AreListed (map kept (filter_map f xs))
  listed_mapped key kept same xs h = record { rise = rise_mapped f key kept same None xs h.rise; few = omega (arith, few_mapped key kept xs, h.few) }

-- ---- the two lists of an answer to a SYN

-- a fact of both items of a choice is one of the item that is chosen
chosen : {A : Type 0} (P : A → Type 0) (b c : Bool) (x y z : A) → P x → P y → cond b (Some x) (cond c (Some y) None) ≡ Some z → P z
chosen P true c x y z px py e = subst P (same_Some x z e) px
chosen P false true x y z px py e = subst P (same_Some y z e) py
chosen P false false x y z px py e = absurd cc

asked_endpoint : (d : Digest) (held : Option EntryValue) (r : RequestValue) → request_by d held ≡ Some r → r.endpoint ≡ d.endpoint
asked_endpoint d None r e = ap (λ (r : RequestValue). r.endpoint) (sym (same_Some _ _ e))
asked_endpoint d (Some x) r e = chosen (λ (r : RequestValue). r.endpoint ≡ d.endpoint) (nat_lt x.generation d.generation) (x.generation == d.generation && nat_lt (newest x) d.newest) _ _ r refl refl e

mapped_endpoint : (o : ℕ) (delta_by : Option DeltaValue) (d : OwnerDelta) → option_map (λ x. record { endpoint = o; delta = x }) delta_by ≡ Some d → d.endpoint ≡ o
mapped_endpoint o None d e = absurd cc
mapped_endpoint o (Some x) d e = ap (λ (d : OwnerDelta). d.endpoint) (sym (same_Some _ _ e))

pub asked_same : (entries : Entries) (d : Digest) (r : RequestValue) → request_by d (table.get entries d.endpoint) ≡ Some r → r.endpoint ≡ d.endpoint
asked_same entries d r e = asked_endpoint d (table.get entries d.endpoint) r e

pub requests_listed : (entries : Entries) (digests : List Digest) → AreListed (endpoints_of_digests digests) → AreListed (endpoints_of_requests (requests_for entries digests))
requests_listed entries digests h = listed_mapped (λ d. request_by d (table.get entries d.endpoint)) (λ d. d.endpoint) (λ r. r.endpoint) (asked_same entries) digests h

pub delta_same : (digests : List Digest) (held : ℕ × EntryValue) (d : OwnerDelta) → delta_for digests held ≡ Some d → d.endpoint ≡ held.0
delta_same digests held d e = mapped_endpoint held.0 (delta_by held.1 (find (λ d. d.endpoint == held.0) digests)) d e

pub deltas_listed : (owners : List (ℕ × EntryValue)) (digests : List Digest) → Rises (keys_of owners) → length owners ≤ MEMBER_LIMIT → AreListed (endpoints_of_deltas (filter_map (delta_for digests) owners))
deltas_listed owners digests rise few = listed_mapped (delta_for digests) (λ e. e.0) (λ d. d.endpoint) (delta_same digests) owners (record { rise = rise; few = omega (arith, few, length-map {A = ℕ × EntryValue} {B = ℕ}) })

-- ---- a SYN, and the answer to an ACK

digest_keys : (rows : List (ℕ × EntryValue)) → endpoints_of_digests (map digest_of rows) ≡ keys_of rows
digest_keys [] = refl
digest_keys (r ∷ rows) = ap (λ (ks : List ℕ). r.0 ∷ ks) (digest_keys rows)

pub digests_rise : (entries : Entries) → Rises (endpoints_of_digests (digests_of entries))
digests_rise entries = rw (digest_keys (table.entries entries)) (rise_sorted (table.entries entries) (table.entries_sorted entries))

pub digests_listed : (entries : Entries) (digests : List Digest) → digests ≡ digests_of entries → length digests ≤ MEMBER_LIMIT → AreListed (endpoints_of_digests digests)
digests_listed entries digests is few = record {
  rise = rw is (digests_rise entries);
  few = omega (arith, few, length-map {A = Digest} {B = ℕ});
}

pub granted_same : (entries : Entries) (r : RequestValue) (d : OwnerDelta) → delta_granted entries r ≡ Some d → d.endpoint ≡ r.endpoint
granted_same entries r d e = mapped_endpoint r.endpoint (grant_of r (table.get entries r.endpoint)) d e

pub granted_listed : (entries : Entries) (requests : List RequestValue) → AreListed (endpoints_of_requests requests) → AreListed (endpoints_of_deltas (deltas_granted entries requests))
granted_listed entries requests h = listed_mapped (delta_granted entries) (λ r. r.endpoint) (λ d. d.endpoint) (granted_same entries) requests h

-- ---- lists that rise make lists that rise

pub requests_rise : (entries : Entries) (digests : List Digest) → Rises (endpoints_of_digests digests) → Rises (endpoints_of_requests (requests_for entries digests))
requests_rise entries digests rise = rise_mapped (λ d. request_by d (table.get entries d.endpoint)) (λ d. d.endpoint) (λ r. r.endpoint) (asked_same entries) None digests rise

pub deltas_rise : (entries : Entries) (digests : List Digest) → Rises (endpoints_of_deltas (deltas_for entries digests))
deltas_rise entries digests = rise_mapped (delta_for digests) (λ e. e.0) (λ d. d.endpoint) (delta_same digests) None (table.entries entries) (rise_sorted (table.entries entries) (table.entries_sorted entries))

pub grants_rise : (entries : Entries) (requests : List RequestValue) → Rises (endpoints_of_requests requests) → Rises (endpoints_of_deltas (deltas_granted entries requests))
grants_rise entries requests rise = rise_mapped (delta_granted entries) (λ r. r.endpoint) (λ d. d.endpoint) (granted_same entries) None requests rise
