-- Requests, deltas and grants on spelled tables and messages.
use Rattle.std.proofs.Common.{◌≡◌, ◌≢◌, ◌==◌, ◌<◌, ◌≤◌, ◌⊎◌, inl, inr, ℕ, true, false, cond, List, length, Option, Some, None, refl, sym, ap, ◌∙◌, arith}
use Rattle.std.specs.Prelude.{find, nat_le}
use Rattle.std.specs.Option.{option_map, option_and_then}
use Rattle.std.specs.FinMap as table
use Rattle.std.proofs.lemmas.Bool.Decides.{nat_tests}
use Rattle.cg_types.specs.Rising.{Rises}
use Rattle.cg_types.proofs.RisingLemmas.{rise_sorted}
use Rattle.cg_entry.specs.Values.{EntryValue}
use Rattle.cg_entry.specs.Entry.{newest, delta_above}
use Rattle.cg_entry.specs.History.{IsHistory, at_place, generation_at, generation_of}
use Rattle.cg_entry.specs.Spelling.{version_of, version_at, delta_of}
use Rattle.cg_entry.proofs.PlaceLemmas.{at_place_none, at_place_within}
use Rattle.cg_entry.proofs.HistoryLemmas.{Compared, Behind, Ahead, SameBehind, SameAhead, SamePlace, compared, version_tells}
use Rattle.cg_entry.proofs.TakingLemmas.{above_none}
use Rattle.cg_entry.specs.declared.digest.Digest.{Digest}
use Rattle.cg_table.specs.Table.{digest_of, digests_of}
use Rattle.cg_table.specs.Spelling.{SpellsPlaces}
use Rattle.cg_table.specs.Values.{Entries}
use Rattle.cg_messages.specs.declared.owner_delta.OwnerDelta.{OwnerDelta}
use Rattle.cg_messages.specs.Values.{RequestValue}
use Rattle.cg_exchange.specs.Answering.{request_by, delta_by, delta_for, requests_for, deltas_for}
use Rattle.cg_exchange.specs.Taking.{grant_of, delta_granted, deltas_granted}
use Rattle.cg_places.specs.Places.{Ask, IsAsk, within_generation, span_for, ask_for, span_asked}
use Rattle.cg_messages.specs.Members.{about, endpoints_of_digests, endpoints_of_requests}
use Rattle.cg_places.specs.MessageSpelling.{request_of, SpellsDigests, SpellsAsks, SpellsSpans}
use Rattle.cg_places.specs.PlaceMessages.{Stand, AreAsks, grants_at}
use Rattle.cg_exchange.proofs.AnswerLemmas.{asked_same, delta_same, granted_same}
use Rattle.cg_exchange.proofs.WalkLemmas.{is_less, not_less}
use Rattle.cg_places.proofs.MemberLemmas.{found_mapped, found_map, row_held}

is_same : (a b : ℕ) → a ≡ b → (a == b) ≡ true
is_same a b e = grind (arith, nat_tests)

not_same : (a b : ℕ) → a ≢ b → (a == b) ≡ false
not_same a b e = grind (arith, nat_tests)

is_most : (a b : ℕ) → a ≤ b → nat_le a b ≡ true
is_most a b le = grind (arith, nat_tests)

-- a table's digests spell the places that the table spells
pub digests_spell_places : (hs : ℕ → List EntryValue) (m : Entries) (places : ℕ → ℕ) → SpellsPlaces hs m places → SpellsDigests hs (digests_of m) places
digests_spell_places hs m places s = record {
  at = λ owner.
      found_map (λ (r : ℕ × EntryValue). r.0) (λ (d : Digest). d.endpoint) digest_of (λ r. refl) owner (table.entries m)
      ∙ ap (option_map digest_of) (row_held m owner ∙ ap (option_map (λ (e : EntryValue). (owner, e))) (s.at owner))
      ∙ twice owner (at_place (hs owner) (places owner));
}
  where
    twice : (owner : ℕ) (o : Option EntryValue) → option_map digest_of (option_map (λ e. (owner, e)) o) ≡ option_map (λ e. digest_of (owner, e)) o
    twice owner None = refl
    twice owner (Some e) = refl

-- ---- one owner

within_none : (h : List EntryValue) (g : ℕ) → within_generation h g 0 ≡ 0
within_none h g = elim (generation_at h 0 == g) as (λ b. ◌≡◌ {A = ℕ} (cond b 0 0) 0) [ true ↦ refl | false ↦ refl ]

within_other : (h : List EntryValue) (g p : ℕ) → generation_at h p ≢ g → within_generation h g p ≡ 0
within_other h g p e = rw (not_same (generation_at h p) g e) refl

within_same : (h : List EntryValue) (g p : ℕ) → generation_at h p ≡ g → within_generation h g p ≡ p
within_same h g p e = rw (is_same (generation_at h p) g e) refl

ask_behind : (h : List EntryValue) (p q : ℕ) → p < q → ask_for h p q ≡ Some (record { generation = generation_at h q; from = within_generation h (generation_at h q) p })
ask_behind h p q lt = rw (is_less p q lt) refl

ask_not_behind : (h : List EntryValue) (p q : ℕ) → q ≤ p → ask_for h p q ≡ None
ask_not_behind h p q le = rw (not_less p q le) refl

span_ahead : (h : List EntryValue) (p q : ℕ) → q < p → span_for h p q ≡ Some (record { from = within_generation h (generation_at h p) q; to = p })
span_ahead h p q lt = rw (is_less q p lt) refl

span_not_ahead : (h : List EntryValue) (p q : ℕ) → p ≤ q → span_for h p q ≡ None
span_not_ahead h p q le = rw (not_less q p le) refl

module _ (owner : ℕ) (h : List EntryValue) (is : IsHistory h) (p q : ℕ) (lp : p ≤ length h) (lq : q ≤ length h) where
  abbrev shown : EntryValue → Digest
  shown e = digest_of (owner, e)

  spelled_ask : (g g' from from' : ℕ) → g ≡ g' → from ≡ from'
      → option_map (request_of owner h) (Some (record { generation = g; from = from })) ≡ Some (record { endpoint = owner; generation = g'; version = version_at h from' })
  spelled_ask g g' from from' a b = λ i. Some (record { endpoint = owner; generation = a i; version = version_at h (b i) })

  abbrev AskedSpelled : Option EntryValue → Option EntryValue → Type 0
  AskedSpelled mine theirs = option_and_then (λ d. request_by d mine) (option_map shown theirs) ≡ option_map (request_of owner h) (ask_for h p q)

  both_hold : (x y : EntryValue) → at_place h p ≡ Some x → at_place h q ≡ Some y → Compared p q x y → AskedSpelled (Some x) (Some y)
  both_hold x y ex ey (Behind lt g) = rw (ask_behind h p q lt, is_less x.generation y.generation g)
      (sym (spelled_ask (generation_at h q) y.generation (within_generation h (generation_at h q) p) 0 (ap generation_of ey) (within_other h (generation_at h q) p (λ e. omega (arith, e, g, ap generation_of ex, ap generation_of ey)))))
  both_hold x y ex ey (Ahead lt g) = rw (ask_not_behind h p q (omega arith), not_less x.generation y.generation (omega arith), not_same x.generation y.generation (λ e. omega (arith, e, g))) refl
  both_hold x y ex ey (SameBehind lt g n) = rw (ask_behind h p q lt, not_less x.generation y.generation (omega arith), is_same x.generation y.generation g, is_less (newest x) (newest y) n)
      (ap (λ n. Some (record { endpoint = owner; generation = y.generation; version = n })) (sym (ap version_of ex))
      ∙ sym (spelled_ask (generation_at h q) y.generation (within_generation h (generation_at h q) p) p (ap generation_of ey) (within_same h (generation_at h q) p (ap generation_of ex ∙ g ∙ sym (ap generation_of ey)))))
  both_hold x y ex ey (SameAhead lt g n) = rw (ask_not_behind h p q (omega arith), not_less x.generation y.generation (omega arith), is_same x.generation y.generation g, not_less (newest x) (newest y) (omega arith)) refl
  both_hold x y ex ey (SamePlace e s) =
      let g = ap (λ (e : EntryValue). e.generation) s in
      rw (ask_not_behind h p q (omega arith), not_less x.generation y.generation (omega (arith, g)), is_same x.generation y.generation g, not_less (newest x) (newest y) (omega (arith, ap newest s))) refl

  asked_cases : (mine theirs : Option EntryValue) → at_place h p ≡ mine → at_place h q ≡ theirs → AskedSpelled mine theirs
  asked_cases mine None ex ey = rw (ask_not_behind h p q (omega (arith, at_place_none h q lq ey))) refl
  asked_cases None (Some y) ex ey =
      let none : p ≡ 0 = at_place_none h p lp ex in
      rw (ask_behind h p q (omega (arith, none, (at_place_within h q y ey).0)))
      (sym (spelled_ask (generation_at h q) y.generation (within_generation h (generation_at h q) p) 0 (ap generation_of ey) (ap (within_generation h (generation_at h q)) none ∙ within_none h (generation_at h q))))
  asked_cases (Some x) (Some y) ex ey = both_hold x y ex ey (compared h p q is x y ex ey)

  pub asked_spells : AskedSpelled (at_place h p) (at_place h q)
  asked_spells = asked_cases (at_place h p) (at_place h q) refl refl

  abbrev SentSpelled : Option EntryValue → Option EntryValue → Type 0
  SentSpelled mine theirs = option_and_then (λ e. delta_by e (option_map shown theirs)) mine ≡ option_and_then (delta_of h) (span_for h p q)

  -- the delta of the entry at p, above the version at a place
  spelled_span : (x : EntryValue) (from from' : ℕ) → at_place h p ≡ Some x → from ≡ from' → option_and_then (delta_of h) (Some (record { from = from; to = p })) ≡ delta_above (version_at h from') x
  spelled_span x from from' ex e = ap (λ f. option_and_then (delta_above (version_at h f)) (at_place h p)) e ∙ ap (option_and_then (delta_above (version_at h from'))) ex

  both_send : (x y : EntryValue) → at_place h p ≡ Some x → at_place h q ≡ Some y → Compared p q x y → SentSpelled (Some x) (Some y)
  both_send x y ex ey (Behind lt g) = rw (span_not_ahead h p q (omega arith), not_less y.generation x.generation (omega arith), not_same x.generation y.generation (λ e. omega (arith, e, g))) refl
  both_send x y ex ey (Ahead lt g) = rw (span_ahead h p q lt, is_less y.generation x.generation g)
      (sym (spelled_span x (within_generation h (generation_at h p) q) 0 ex (within_other h (generation_at h p) q (λ e. omega (arith, e, g, ap generation_of ex, ap generation_of ey)))))
  both_send x y ex ey (SameBehind lt g n) = rw (span_not_ahead h p q (omega arith), not_less y.generation x.generation (omega arith), is_same x.generation y.generation g) (above_none (newest y) x (omega (arith, n)))
  both_send x y ex ey (SameAhead lt g n) = rw (span_ahead h p q lt, not_less y.generation x.generation (omega arith), is_same x.generation y.generation g)
      (ap (λ n. delta_above n x) (sym (ap version_of ey))
      ∙ sym (spelled_span x (within_generation h (generation_at h p) q) q ex (within_same h (generation_at h p) q (ap generation_of ey ∙ sym g ∙ sym (ap generation_of ex)))))
  both_send x y ex ey (SamePlace e s) =
      let g = ap (λ (e : EntryValue). e.generation) s in
      rw (span_not_ahead h p q (omega arith), not_less y.generation x.generation (omega (arith, g)), is_same x.generation y.generation g) (above_none (newest y) x (omega (arith, ap newest s)))

  sent_cases : (mine theirs : Option EntryValue) → at_place h p ≡ mine → at_place h q ≡ theirs → SentSpelled mine theirs
  sent_cases None theirs ex ey = rw (span_not_ahead h p q (omega (arith, at_place_none h p lp ex))) refl
  sent_cases (Some x) None ex ey =
      let none : q ≡ 0 = at_place_none h q lq ey in
      rw (span_ahead h p q (omega (arith, none, (at_place_within h p x ex).0)))
      (sym (spelled_span x (within_generation h (generation_at h p) q) 0 ex (ap (within_generation h (generation_at h p)) none ∙ within_none h (generation_at h p))))
  sent_cases (Some x) (Some y) ex ey = both_send x y ex ey (compared h p q is x y ex ey)

  pub sent_spells : SentSpelled (at_place h p) (at_place h q)
  sent_spells = sent_cases (at_place h p) (at_place h q) refl refl

-- ---- a request

module _ (owner : ℕ) (h : List EntryValue) (is : IsHistory h) (p : ℕ) (lp : p ≤ length h) (ask : Ask) (stands : IsAsk h ask) where
  abbrev GrantSpelled : Option EntryValue → Type 0
  GrantSpelled mine = grant_of (request_of owner h ask) mine ≡ option_and_then (delta_of h) (span_asked h p ask)

  -- an ask from a place that is not earlier is granted nothing
  nothing_above : (x : EntryValue) → at_place h p ≡ Some x → x.generation ≡ ask.generation → p ≤ ask.from → newest x ≤ version_at h ask.from
  nothing_above x ex g le = go stands.alike
    where
      go : (ask.from ≡ 0) ⊎ (generation_at h ask.from ≡ ask.generation) → newest x ≤ version_at h ask.from
      go (inl z) = absurd (omega (arith, (at_place_within h p x ex).0, z, le))
      go (inr same) = let t = (version_tells h ask.from p is stands.stands lp (same ∙ sym g ∙ sym (ap generation_of ex))).0 in let v = ap version_of ex in grind (arith, t, v)

  data Meets (x : EntryValue) : Type 0 where
    Newer : x.generation < ask.generation → Meets x
    Older : ask.generation < x.generation → Meets x
    Further : x.generation ≡ ask.generation → ask.from < p → Meets x
    AsFar : x.generation ≡ ask.generation → p ≤ ask.from → Meets x

  meets : (x : EntryValue) → (x.generation < ask.generation) ⊎ (ask.generation < x.generation) ⊎ (x.generation ≡ ask.generation) → (ask.from < p) ⊎ (p ≤ ask.from) → Meets x
  meets x (inl lt) far = Newer lt
  meets x (inr (inl lt)) far = Older lt
  meets x (inr (inr e)) (inl lt) = Further e lt
  meets x (inr (inr e)) (inr le) = AsFar e le

  held_grants : (x : EntryValue) → at_place h p ≡ Some x → Meets x → GrantSpelled (Some x)
  held_grants x ex (Newer lt) = rw (not_same p 0 (λ e. omega (arith, e, (at_place_within h p x ex).0)), ap generation_of ex, is_less x.generation ask.generation lt) refl
  held_grants x ex (Older lt) =
      rw (not_same p 0 (λ e. omega (arith, e, (at_place_within h p x ex).0)), ap generation_of ex, not_less x.generation ask.generation (omega arith), is_less ask.generation x.generation lt, not_same x.generation ask.generation (λ e. omega (arith, e, lt)))
      (sym (ap (option_and_then (delta_above 0)) ex))
  held_grants x ex (Further e lt) =
      rw (not_same p 0 (λ e. omega (arith, e, (at_place_within h p x ex).0)), ap generation_of ex, not_less x.generation ask.generation (omega (arith, e)), not_less ask.generation x.generation (omega (arith, e)), is_same x.generation ask.generation e, is_less ask.from p lt)
      (sym (ap (option_and_then (delta_above (version_at h ask.from))) ex))
  held_grants x ex (AsFar e le) =
      rw (not_same p 0 (λ e. omega (arith, e, (at_place_within h p x ex).0)), ap generation_of ex, not_less x.generation ask.generation (omega (arith, e)), not_less ask.generation x.generation (omega (arith, e)), is_same x.generation ask.generation e, not_less ask.from p le)
      (above_none (version_at h ask.from) x (nothing_above x ex e le))

  grant_cases : (mine : Option EntryValue) → at_place h p ≡ mine → GrantSpelled mine
  grant_cases None ex = rw (is_same p 0 (at_place_none h p lp ex)) refl
  grant_cases (Some x) ex = held_grants x ex (meets x (grind arith) (grind arith))

  pub grant_spells : GrantSpelled (at_place h p)
  grant_spells = grant_cases (at_place h p) refl

-- ---- all owners

asked_about : (owner : ℕ) (m : Entries) (theirs : Option EntryValue)
    → option_and_then (λ (d : Digest). request_by d (table.get m d.endpoint)) (option_map (λ e. digest_of (owner, e)) theirs) ≡ option_and_then (λ (d : Digest). request_by d (table.get m owner)) (option_map (λ e. digest_of (owner, e)) theirs)
asked_about owner m None = refl
asked_about owner m (Some y) = refl

sent_about : (owner : ℕ) (digests : List Digest) (mine : Option EntryValue)
    → option_and_then (delta_for digests) (option_map (λ e. (owner, e)) mine) ≡ option_map (about owner) (option_and_then (λ e. delta_by e (find (λ d. d.endpoint == owner) digests)) mine)
sent_about owner digests None = refl
sent_about owner digests (Some x) = refl

-- tables and digests that spell places of one family of histories
module _ (hs : ℕ → List EntryValue) (are : (owner : ℕ) → IsHistory (hs owner)) (m : Entries) (digests : List Digest) (mine theirs : ℕ → ℕ) (lt : Stand hs theirs)
    (held : SpellsPlaces hs m mine) (named : SpellsDigests hs digests theirs) where
  pub requests_spell_asks : Rises (endpoints_of_digests digests) → SpellsAsks hs (requests_for m digests) (λ owner. ask_for (hs owner) (mine owner) (theirs owner))
  requests_spell_asks rise = record {
    at = λ owner.
        found_mapped (λ (d : Digest). d.endpoint) (λ (r : RequestValue). r.endpoint) (λ (d : Digest). request_by d (table.get m d.endpoint)) (asked_same m) owner digests rise
        ∙ ap (option_and_then (λ (d : Digest). request_by d (table.get m d.endpoint))) (named.at owner)
        ∙ asked_about owner m (at_place (hs owner) (theirs owner))
        ∙ ap (λ (o : Option EntryValue). option_and_then (λ (d : Digest). request_by d o) (option_map (λ e. digest_of (owner, e)) (at_place (hs owner) (theirs owner)))) (held.at owner)
        ∙ asked_spells owner (hs owner) (are owner) (mine owner) (theirs owner) (held.stand owner) (lt owner);
  }

  pub deltas_spell_spans : SpellsSpans hs (deltas_for m digests) (λ owner. span_for (hs owner) (mine owner) (theirs owner))
  deltas_spell_spans = record {
    at = λ owner.
        found_mapped (λ (r : ℕ × EntryValue). r.0) (λ (d : OwnerDelta). d.endpoint) (delta_for digests) (delta_same digests) owner (table.entries m) (rise_sorted (table.entries m) (table.entries_sorted m))
        ∙ ap (option_and_then (delta_for digests)) (row_held m owner ∙ ap (option_map (λ (e : EntryValue). (owner, e))) (held.at owner))
        ∙ sent_about owner digests (at_place (hs owner) (mine owner))
        ∙ ap (option_map (about owner)) (
        ap (λ (o : Option Digest). option_and_then (λ e. delta_by e o) (at_place (hs owner) (mine owner))) (named.at owner)
        ∙ sent_spells owner (hs owner) (are owner) (mine owner) (theirs owner) (held.stand owner) (lt owner)
        );
  }

granted_about : (owner : ℕ) (h : List EntryValue) (is : IsHistory h) (m : Entries) (p : ℕ) (lp : p ≤ length h) → table.get m owner ≡ at_place h p → (o : Option Ask) → ((ask : Ask) → o ≡ Some ask → IsAsk h ask)
    → option_and_then (delta_granted m) (option_map (request_of owner h) o) ≡ option_map (about owner) (option_and_then (delta_of h) (option_and_then (span_asked h p) o))
granted_about owner h is m p lp held None stand = refl
granted_about owner h is m p lp held (Some ask) stand =
    ap (option_map (about owner)) (ap (grant_of (request_of owner h ask)) held ∙ grant_spells owner h is p lp ask (stand ask refl))

-- requests that spell asks are granted deltas that spell the grants
pub grants_spell_spans : (hs : ℕ → List EntryValue) → ((owner : ℕ) → IsHistory (hs owner)) → (m : Entries) (requests : List RequestValue) (mine : ℕ → ℕ) (asks : ℕ → Option Ask)
    → Rises (endpoints_of_requests requests) → SpellsPlaces hs m mine → SpellsAsks hs requests asks → AreAsks hs asks → SpellsSpans hs (deltas_granted m requests) (grants_at hs mine asks)
grants_spell_spans hs are m requests mine asks rise held spelled stand = record {
  at = λ owner.
      found_mapped (λ (r : RequestValue). r.endpoint) (λ (d : OwnerDelta). d.endpoint) (delta_granted m) (granted_same m) owner requests rise
      ∙ ap (option_and_then (delta_granted m)) (spelled.at owner)
      ∙ granted_about owner (hs owner) (are owner) m (mine owner) (held.stand owner) (held.at owner) (asks owner) (stand owner);
}
