-- If an owner's claims stay, the ring stays.
use Rattle.std.proofs.Common.{◌≡◌, ◌==◌, ℕ, ◌<◌, Bool, true, false, cond, List, [], ◌∷◌, ◌++◌, map, Option, Some, None, refl, sym, ap, ◌∙◌}
use Rattle.std.specs.Prelude.{filter, not, ◌&&◌, unwrap_or}
use Rattle.std.specs.List.{flat_map}
use Rattle.std.specs.Ordering.{nat_cmp, is_eq}
use Rattle.std.specs.declared.cmp.Ordering.{Ordering}
use Rattle.std.specs.declared.cmp.Ordering.TheVariants.{Less, Equal, Greater}
use Rattle.std.specs.Cmp.{nat_cmp_total, eq_by_cmp_equiv, ranked}
use Rattle.std.specs.FinMap.{get, insert, entries, entries_sorted, get-entries, entries-insert, from_entries}
use Rattle.std.specs.FinMap.Entries.{find, put, by_order}
use Rattle.std.proofs.lemmas.Bool.{lt-ltb, eqb-true}
use Rattle.std.proofs.lemmas.Slice.Eq.{bytes_eq-Decides}
use Rattle.std.specs.Str.{bytes_eq}
use Rattle.cg_types.specs.declared.limits.TheConstants.{STATUS_KEY, TOKENS_KEY}
use Rattle.cg_types.specs.Rising.{is_past, rise_past}
use Rattle.cg_types.proofs.RisingLemmas.{both, first_of, second_of, find_past, rise_sorted}
use Rattle.cg_types.specs.Rows.{keys_of}
use Rattle.cg_entry.specs.Values.{EntryValue}
use Rattle.cg_table.specs.Values.{Entries}
use Rattle.cg_tokens.specs.declared.claims.Claim.{Claim}
use Rattle.cg_tokens.specs.Claims.{claims_of, claims, wins, position, is_member, text_at}
use Rattle.cg_tokens.specs.Text.{tokens_of}
use Rattle.cg_tokens.specs.Moving.{claims_by}
use Rattle.cg_tokens.specs.RingLaws.{ClaimsAlike, KeptClaimsAreAlike, RingStays}

none_found : (k : ℕ) (es : List (ℕ × EntryValue)) → rise_past (Some k) (keys_of es) ≡ true → find nat_cmp k es ≡ None
none_found k es h = find_past k k es ((eq_by_cmp_equiv nat_cmp_total).refl k) h

module _ (k : ℕ) (v : EntryValue) where
  abbrev Same : List (ℕ × EntryValue) → Type 0
  Same es = flat_map claims_of (put nat_cmp k v es) ≡ flat_map claims_of es

  put_by : (last : Option ℕ) (e : ℕ × EntryValue) (es : List (ℕ × EntryValue)) (r : Ordering) → nat_cmp k e.0 ≡ r → rise_past last (keys_of (e ∷ es)) ≡ true
      → claims_of (k, v) ≡ claims_by k (find nat_cmp k (e ∷ es)) → (claims_of (k, v) ≡ claims_by k (find nat_cmp k es) → Same es)
      → flat_map claims_of (by_order r ((k, v) ∷ e ∷ es) ((e.0, v) ∷ es) (e ∷ put nat_cmp k v es)) ≡ flat_map claims_of (e ∷ es)
  put_by last e es Less is rise same rest =
      let lt : k < e.0 = ranked k e.0 Less (sym is) in
      let past : rise_past (Some k) (keys_of (e ∷ es)) ≡ true = both _ _ (lt-ltb k e.0 lt) (second_of (is_past last e.0) (rise_past (Some e.0) (keys_of es)) rise) in
      ap (λ (cs : List Claim). cs ++ (claims_of e ++ flat_map claims_of es)) (same ∙ ap (claims_by k) (none_found k (e ∷ es) past))
  put_by last e es Equal is rise same rest =
      let tied : k ≡ e.0 = ranked k e.0 Equal (sym is) in
      let here : find nat_cmp k (e ∷ es) ≡ Some e.1 = ap (λ (r : Ordering). cond (is_eq r) (Some e.1) (find nat_cmp k es)) is in
      ap (λ (cs : List Claim). cs ++ flat_map claims_of es) (ap (λ (n : ℕ). claims_of (n, v)) (sym tied) ∙ same ∙ ap (claims_by k) here ∙ ap (λ (n : ℕ). claims_of (n, e.1)) tied)
  put_by last e es Greater is rise same rest =
      let there : find nat_cmp k (e ∷ es) ≡ find nat_cmp k es = ap (λ (r : Ordering). cond (is_eq r) (Some e.1) (find nat_cmp k es)) is in
      ap (λ (cs : List Claim). claims_of e ++ cs) (rest (same ∙ ap (claims_by k) there))

  put_same : (last : Option ℕ) (es : List (ℕ × EntryValue)) → rise_past last (keys_of es) ≡ true → claims_of (k, v) ≡ claims_by k (find nat_cmp k es) → Same es
  put_same last [] rise same = ap (λ (cs : List Claim). cs ++ []) same
  put_same last (e ∷ es) rise same =
      put_by last e es (nat_cmp k e.0) refl rise same (put_same (Some e.0) es (second_of (is_past last e.0) (rise_past (Some e.0) (keys_of es)) rise))

  pub claims_stay : (m : Entries) → claims_of (k, v) ≡ claims_by k (get m k) → claims (insert m k v) ≡ claims m
  claims_stay m same =
      ap (flat_map claims_of) (entries-insert nat_cmp_total m k v)
      ∙ put_same None (entries m) (rise_sorted (entries m) (entries_sorted m)) (same ∙ ap (claims_by k) (get-entries m k))

  pub alike : (held : Option EntryValue) → ClaimsAlike held v → claims_of (k, v) ≡ claims_by k held
  alike None none = ap (map (λ (t : ℕ). record { token = t; endpoint = k; generation = v.generation })) none
  alike (Some e) same = λ i. map (λ (t : ℕ). record { token = t; endpoint = k; generation = same.0 i }) (same.1 i)

pub ring_stays : RingStays
ring_stays m k v same =
    ap (λ (cs : List Claim). from_entries {R = nat_cmp} (map position (filter (wins cs) cs))) (claims_stay k v m (alike k v (get m k) same))

-- ---- entries that show that they keep claims

-- an endpoint that is no member claims nothing
no_member : (b : Bool) (tokens : List ℕ) → not b ≡ true → cond b tokens [] ≡ []
no_member true tokens h = absurd cc
no_member false tokens h = refl

module _ (held e : EntryValue) where
  same_generation : Bool
  same_generation = e.generation == held.generation

  same_status : Bool
  same_status = bytes_eq (text_at e.states STATUS_KEY) (text_at held.states STATUS_KEY)

  same_tokens : Bool
  same_tokens = bytes_eq (text_at e.states TOKENS_KEY) (text_at held.states TOKENS_KEY)

  kept_alike : (same_generation && same_status && same_tokens) ≡ true → ClaimsAlike (Some held) e
  unfolding same_generation same_status same_tokens
  kept_alike kept =
      let first = first_of (same_generation && same_status) same_tokens kept in
      let status = (bytes_eq-Decides (text_at e.states STATUS_KEY) (text_at held.states STATUS_KEY)).0 (second_of same_generation same_status first) in
      let tokens = (bytes_eq-Decides (text_at e.states TOKENS_KEY) (text_at held.states TOKENS_KEY)).0 (second_of (same_generation && same_status) same_tokens kept) in
      (eqb-true e.generation held.generation (first_of same_generation same_status first), rw (status, tokens) refl)

pub kept_claims_are_alike : KeptClaimsAreAlike
unfolding same_generation same_status same_tokens
kept_claims_are_alike None e kept = no_member (is_member e.states) (unwrap_or (tokens_of (text_at e.states TOKENS_KEY)) []) kept
kept_claims_are_alike (Some held) e kept = kept_alike held e kept
