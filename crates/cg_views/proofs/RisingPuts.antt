-- Puts whose owners rise keep the order if each is in order by itself.
use Rattle.std.proofs.Common.{◌≡◌, ℕ, true, List, [], ◌∷◌, Option, Some, None, refl, ◌∙◌, ltb-true}
use Rattle.std.specs.Prelude.{◌&&◌, ◌||◌, ◌==◌, not}
use Rattle.std.specs.List.{list_all}
use Rattle.std.specs.Cmp.{nat_cmp_total}
use Rattle.std.specs.FinMap.{get, get-insert}
use Rattle.cg_types.specs.Rising.{is_past, rise_past, Rises}
use Rattle.cg_types.proofs.RisingLemmas.{first_of, second_of, past_trans, other_key}
use Rattle.cg_types.specs.Rows.{keys_of}
use Rattle.cg_table.specs.Values.{TableValue}
use Rattle.cg_table.specs.Merge.{is_ahead}
use Rattle.cg_table.specs.Puts.{Put, with_put, goes_on, is_in_order, keep_order}

-- Both tables are one member's, and hold the same of the owners past the last.
record Agree (last : Option ℕ) (t u : TableValue) : Type 0 where
  own : u.own ≡ t.own
  held : (q : ℕ) → is_past last q ≡ true → get u.entries q ≡ get t.entries q

agree_on : (last : Option ℕ) (t u : TableValue) (p : Put) → is_past last p.0 ≡ true → Agree last t u → Agree (Some p.0) t (with_put u p)
agree_on last t u p here a = record {
  own = a.own;
  held = λ q past. get-insert nat_cmp_total u.entries p.0 p.1 q ∙ rw (other_key p.0 q past) (a.held q (past_trans last p.0 q here (ltb-true p.0 q past)));
}

alike : (last : Option ℕ) (t u : TableValue) (p : Put) → is_past last p.0 ≡ true → Agree last t u → is_in_order u p ≡ is_in_order t p
alike last t u p here a =
    let held = a.held p.0 here in
    let own = a.own in λ i. is_ahead (held i) p.1 && (not (p.0 == own i) || goes_on (held i) p.1)

each_past : (last : Option ℕ) (t u : TableValue) (ps : List Put) → Agree last t u → rise_past last (keys_of ps) ≡ true → keep_order u ps ≡ list_all (is_in_order t) ps
each_past last t u [] a rise = refl
each_past last t u (p ∷ ps) a rise =
    let here = first_of (is_past last p.0) (rise_past (Some p.0) (keys_of ps)) rise in
    let one = alike last t u p here a in
    let rest = each_past (Some p.0) t (with_put u p) ps (agree_on last t u p here a) (second_of (is_past last p.0) (rise_past (Some p.0) (keys_of ps)) rise) in λ i. one i && rest i

pub each_in_order : (t : TableValue) (ps : List Put) → Rises (keys_of ps) → keep_order t ps ≡ list_all (is_in_order t) ps
each_in_order t ps rise = each_past None t t ps (record { own = refl; held = λ q past. refl }) rise
