-- One more message at the end.
use Rattle.std.proofs.Common.{◌≡◌, ◌⊎◌, ℕ, suc, ◌+◌, ◌≤◌, ◌<◌, ◌%◌, List, [], ◌∷◌, ◌++◌, length, map, get_or, refl, sym, ap, ◌∙◌, subst, inl, inr, arith, length-append}
use Rattle.std.proofs.Math.ListN.{set, length-set}
use Rattle.std.specs.List.{Contains}
use Rattle.std.proofs.lemmas.Bool.{cases_lt, cases_eq}
use Rattle.std.proofs.lemmas.List.{map-append, get_or_append_left, get_or_push, get_or-set_same, get_or-set_other}
use Rattle.std.proofs.lemmas.List.Elements.{Contains-append_left, Contains-append_cases, Contains-push_cases}
use Rattle.cg_messages.specs.declared.message.Message.{Message}
use Rattle.cg_audit.specs.Hash.{hash_of}
use Rattle.cg_audit.specs.Index.{IsLast, IsIndex, HaveTheSame}

module _ (hashes : List ℕ) (hash buckets : ℕ) where
  abbrev longer : List ℕ
  longer = hashes ++ hash ∷ []

  one_longer : length longer ≡ suc (length hashes)
  one_longer = omega (arith, length-append hashes (hash ∷ []))

  as_before : (place : ℕ) → place < length hashes → get_or longer place 0 ≡ get_or hashes place 0
  as_before place few = get_or_append_left hashes (hash ∷ []) 0 place few

  at_end : get_or longer (length hashes) 0 ≡ hash
  at_end = get_or_push hashes hash 0 (length hashes) refl

  -- the last of a bucket among the first ones stays the last
  still_last : (bucket first number : ℕ) → first ≤ length hashes → IsLast hashes buckets bucket first number → IsLast longer buckets bucket first number
  still_last bucket first number few l = record {
    within = l.within;
    here = λ place e. let small : place < length hashes = omega (arith, l.within, few, e) in ap (λ h. h % buckets) (as_before place small) ∙ l.here place e;
    none = λ place past less is. let small : place < length hashes = omega arith in l.none place past less (ap (λ h. h % buckets) (sym (as_before place small)) ∙ is);
  }

  -- the one at the end is of another bucket
  last_of_another : (bucket number : ℕ) → (hash % buckets ≡ bucket → ⊥) → IsLast longer buckets bucket (length hashes) number → IsLast longer buckets bucket (length longer) number
  last_of_another bucket number other l = record {
    within = omega (arith, l.within, one_longer);
    here = l.here;
    none = λ place past less is. by place past less is (cases_lt place (length hashes));
  }
    where
      by : (place : ℕ) → number ≤ place → place < length longer → get_or longer place 0 % buckets ≡ bucket → (place < length hashes) ⊎ (length hashes ≤ place) → ⊥
      by place past less is (inl small) = l.none place past small is
      by place past less is (inr end) =
          let same : place ≡ length hashes = omega (arith, one_longer, less, end) in
          other (ap (λ h. h % buckets) (sym (ap (λ p. get_or longer p 0) same ∙ at_end)) ∙ is)

  -- the one at the end is the last of its bucket
  last_of_its_own : IsLast longer buckets (hash % buckets) (length longer) (suc (length hashes))
  last_of_its_own = record {
    within = omega (arith, one_longer);
    here = λ place e. let same : place ≡ length hashes = omega (arith, e) in ap (λ h. h % buckets) (ap (λ p. get_or longer p 0) same ∙ at_end);
    none = λ place past less is. absurd (omega (arith, one_longer));
  }

module _ (messages : List Message) (hashes last before : List ℕ) (ix : IsIndex messages hashes last before) (m : Message) (bucket : ℕ) (few : bucket < length last) (is : bucket ≡ hash_of m % length last) where
  abbrev hash : ℕ
  hash = hash_of m

  abbrev ends_after : List ℕ
  ends_after = set last bucket (suc (length hashes))

  end_of : (b : ℕ) → b < length last → (b ≡ bucket) ⊎ (b ≡ bucket → ⊥) → IsLast (hashes ++ hash ∷ []) (length last) b (length (hashes ++ hash ∷ [])) (get_or ends_after b 0)
  end_of b small (inl same) =
      let at : get_or ends_after b 0 ≡ suc (length hashes) = ap (λ x. get_or ends_after x 0) same ∙ get_or-set_same last bucket (suc (length hashes)) 0 few in
      let own : hash % length last ≡ b = sym (same ∙ is) in
      subst (λ n. IsLast (hashes ++ hash ∷ []) (length last) b (length (hashes ++ hash ∷ [])) n) (sym at)
      (subst (λ x. IsLast (hashes ++ hash ∷ []) (length last) x (length (hashes ++ hash ∷ [])) (suc (length hashes))) own (last_of_its_own hashes hash (length last)))
  end_of b small (inr other) =
      let at : get_or ends_after b 0 ≡ get_or last b 0 = get_or-set_other last bucket b (suc (length hashes)) 0 other in
      let old = still_last hashes hash (length last) b (length hashes) (get_or last b 0) (omega arith) (ix.ends b small) in
      subst (λ n. IsLast (hashes ++ hash ∷ []) (length last) b (length (hashes ++ hash ∷ [])) n) (sym at)
      (last_of_another hashes hash (length last) b (get_or last b 0) (λ e. other (sym e ∙ sym is)) old)

  step_of : (place : ℕ) → (place < length hashes) ⊎ (length hashes ≤ place) → place < length (hashes ++ hash ∷ [])
      → IsLast (hashes ++ hash ∷ []) (length last) (get_or (hashes ++ hash ∷ []) place 0 % length last) place (get_or (before ++ get_or last bucket 0 ∷ []) place 0)
  step_of place (inl small) less =
      let small_there : place < length before = omega (arith, ix.as_many, small) in
      let at : get_or (before ++ get_or last bucket 0 ∷ []) place 0 ≡ get_or before place 0 = get_or_append_left before (get_or last bucket 0 ∷ []) 0 place small_there in
      let of : get_or (hashes ++ hash ∷ []) place 0 ≡ get_or hashes place 0 = as_before hashes hash (length last) place small in
      let old = still_last hashes hash (length last) (get_or hashes place 0 % length last) place (get_or before place 0) (omega (arith, small)) (ix.steps place small) in
      subst (λ n. IsLast (hashes ++ hash ∷ []) (length last) (get_or (hashes ++ hash ∷ []) place 0 % length last) place n) (sym at)
      (subst (λ h. IsLast (hashes ++ hash ∷ []) (length last) (h % length last) place (get_or before place 0)) (sym of) old)
  step_of place (inr end) less =
      let same : place ≡ length hashes = omega (arith, one_longer hashes hash (length last), less, end) in
      let here : length before ≡ place = ix.as_many ∙ sym same in
      let at : get_or (before ++ get_or last bucket 0 ∷ []) place 0 ≡ get_or last bucket 0 = get_or_push before (get_or last bucket 0) 0 place here in
      let of : get_or (hashes ++ hash ∷ []) place 0 ≡ hash = ap (λ p. get_or (hashes ++ hash ∷ []) p 0) same ∙ at_end hashes hash (length last) in
      let old = still_last hashes hash (length last) bucket (length hashes) (get_or last bucket 0) (omega arith) (ix.ends bucket few) in
      let there = subst (λ b. IsLast (hashes ++ hash ∷ []) (length last) b (length hashes) (get_or last bucket 0)) is old in
      subst (λ n. IsLast (hashes ++ hash ∷ []) (length last) (get_or (hashes ++ hash ∷ []) place 0 % length last) place n) (sym at)
      (subst (λ h. IsLast (hashes ++ hash ∷ []) (length last) (h % length last) place (get_or last bucket 0)) (sym of)
      (subst (λ p. IsLast (hashes ++ hash ∷ []) (length last) (hash % length last) p (get_or last bucket 0)) (sym same) there))

  pub pushed_index : IsIndex (messages ++ m ∷ []) (hashes ++ hash ∷ []) ends_after (before ++ get_or last bucket 0 ∷ [])
  pushed_index =
      let long : length last ≡ length ends_after = sym (length-set last bucket (suc (length hashes))) in
      record {
        some = omega (arith, ix.some, long);
        hashed = map-append hash_of messages (m ∷ []) ∙ ap (λ hs. hs ++ hash ∷ []) ix.hashed;
        as_many = omega (arith, length-append before (get_or last bucket 0 ∷ []), length-append hashes (hash ∷ []), ix.as_many);
        ends = λ b small. let within : b < length last = omega (arith, long, small) in
            subst (λ n. IsLast (hashes ++ hash ∷ []) n b (length (hashes ++ hash ∷ [])) (get_or ends_after b 0)) long (end_of b within (cases_eq b bucket));
        steps = λ place less.
            subst (λ n. IsLast (hashes ++ hash ∷ []) n (get_or (hashes ++ hash ∷ []) place 0 % n) place (get_or (before ++ get_or last bucket 0 ∷ []) place 0)) long
            (step_of place (cases_lt place (length hashes)) less);
      }

-- a message that is among them already makes no difference
pub same_with : (xs : List Message) (x : Message) → Contains xs x → HaveTheSame xs (xs ++ x ∷ [])
same_with xs x there m = (Contains-append_left xs (x ∷ []) m, λ c. by (Contains-append_cases xs (x ∷ []) m c))
  where
    nothing : Contains [] m → ⊥
    nothing c = let none = c.1 in absurd (omega (arith, none))

    one : Contains [] m ⊎ (x ≡ m) → Contains xs m
    one (inl none) = absurd (nothing none)
    one (inr same) = subst (Contains xs) same there

    by : Contains xs m ⊎ Contains (x ∷ []) m → Contains xs m
    by (inl c) = c
    by (inr c) = one (Contains-push_cases [] x m c)
