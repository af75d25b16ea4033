-- That records lead from one node to another has one proof at most, so a ghost field may say it.
use Rattle.std.specs.Prelude.{◌≡◌, List, [], ◌∷◌, Result, Ok, Err, refl}
use Rattle.std.specs.Coded.{Coded-set, coded×, ×_prop}
use mathlib.Core.Path.{sym, ap, ◌∙◌, subst⁻¹, subst⁻¹_refl, path_j'}
use mathlib.Core.HLevel.{⊥_prop, Σ_prop_path}
use Rattle.cg_types.specs.declared.fault.Fault.{Fault}
use Rattle.cg_core.specs.declared.reply.Reply.{Reply}
use Rattle.cg_core.specs.EventCodes.{reply_code}
use Rattle.cg_core.specs.Values.{NodeValue, node_code}
use Rattle.cg_core.specs.Step.{node_step}
use Rattle.cg_history.specs.declared.item.Item.{Item}
use Rattle.cg_history.specs.Items.{item_code}
use Rattle.cg_history.specs.History.{record_of, Replays}

-- ---- that a result is this value

module _ {A F : Type 0} (x : A) where
  -- the same, without the result's constructor
  abbrev IsIt : Result A F → Type 0
  IsIt (Ok y) = y ≡ x
  IsIt (Err fault) = ⊥

  abbrev is_it : (r : Result A F) → r ≡ Ok x → IsIt r
  is_it r p = subst⁻¹ IsIt p refl

  abbrev is_ok : (r : Result A F) → IsIt r → r ≡ Ok x
  is_ok (Ok y) q = ap (λ (z : A). Ok z) q
  is_ok (Err fault) q = absurd q

  there_and_back : (r : Result A F) (p : r ≡ Ok x) → is_ok r (is_it r p) ≡ p
  there_and_back r p =
      path_j' (λ (s : Result A F) (q : s ≡ Ok x). is_ok s (is_it s q) ≡ q)
      (let back : is_it (Ok x) refl ≡ refl = subst⁻¹_refl {A = Result A F} IsIt {x = Ok x} refl in λ i j. Ok (back i j)) p

  IsIt-prop : IsSet A → (r : Result A F) → IsProp (IsIt r)
  IsIt-prop set (Ok y) = set y x
  IsIt-prop set (Err fault) = ⊥_prop

  pub Ok-prop : IsSet A → (r : Result A F) → IsProp (r ≡ Ok x)
  Ok-prop set r p q = sym (there_and_back r p) ∙ ap (is_ok r) (IsIt-prop set r (is_it r p) (is_it r q)) ∙ there_and_back r q

-- ---- that records lead from one node to another

same_ok : {A F : Type 0} (x y : A) → (let r : Result A F = Ok x in r) ≡ Ok y → x ≡ y
same_ok x y e = cc

pub Replays-prop : (b : NodeValue) (rs : List Item) (n : NodeValue) → IsProp (Replays b rs n)
Replays-prop b [] n = Coded-set node_code b n
Replays-prop b (r ∷ rs) n = λ u v.
    let same = Σ_prop_path {A = NodeValue × Reply}
    {B = λ x. (node_step b r.event ≡ Ok x) × ((r ≡ record_of r.caller r.event b x) × Replays x.0 rs n)}
    (λ x. ×_prop (Ok-prop x (Coded-set (coded× node_code reply_code)) (node_step b r.event))
    (×_prop (Coded-set item_code r (record_of r.caller r.event b x)) (Replays-prop x.0 rs n)))
    {u = (u.0, (u.1, (u.2, u.3)))} {v = (v.0, (v.1, (v.2, v.3)))}
    (same_ok {A = NodeValue × Reply} {F = Fault} u.0 v.0 (sym u.1 ∙ v.1)) in
    λ i. ((same i).0, (same i).1.0, (same i).1.1.0, (same i).1.1.1)
