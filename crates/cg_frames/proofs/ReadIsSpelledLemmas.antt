-- Values that are read are spelled so, and fit.
use Rattle.std.proofs.Common.{◌≡◌, ℕ, zero, suc, ◌+◌, ◌^◌, ◌<◌, ◌≤◌, Bool, true, false, cond, List, [], ◌∷◌, ◌++◌, length, map, take, drop, Option, Some, None, Ok, Err, refl, sym, ap, subst, ◌∙◌, inl, inr, append_assoc, arith, length-take, length-drop, get_or-drop, get_or-take}
use Rattle.std.specs.Prelude.{nat_lt, ◌==◌, not, ◌&&◌, ◌||◌}
use Rattle.std.specs.Int.{w8, w16, w32, from_be_bytes, to_be_bytes}
use Rattle.std.specs.List.{flat_map, AllByRecursion}
use Rattle.std.proofs.lemmas.Bool.{ltb-false, ltb-true, cases_lt}
use Rattle.std.proofs.lemmas.List.{take-append-drop, get_or_past, length-map}
use Rattle.std.proofs.lemmas.List.Concat.{flat_map-cons}
use Rattle.std.proofs.lemmas.Nat.{be_bytes_2, be_bytes_4}
use Rattle.cg_types.specs.declared.limits.TheConstants.{NUMBER_LIMIT, NAME_LIMIT}
use Rattle.cg_types.specs.declared.fault.Cause.{Cause}
use Rattle.cg_types.specs.declared.fault.Cause.TheVariants as causes
use Rattle.cg_types.specs.Numbers.{IsEndpoint, address_of, port_of, endpoint_of}
use Rattle.cg_types.specs.Rising.{is_past}
use Rattle.cg_types.specs.Text.{plain, IsClusterName}
use Rattle.cg_types.proofs.RisingLemmas.{first_of, second_of}
use Rattle.cg_entry.specs.declared.digest.Digest.{Digest}
use Rattle.cg_frames.specs.declared.layout.Layout.{Layout}
use Rattle.cg_frames.specs.declared.misread.Misread.{Misread}
use Rattle.cg_types.specs.ResultSteps.{◌>>=◌}
use Rattle.cg_frames.specs.Fields.{Field, bytes_at, number_at, endpoint_at, ranged_at, plain_at, name_at, count_at}
use Rattle.cg_frames.specs.Lists.{digest_at, rising_at}
use Rattle.cg_entry.specs.Section.{two_bytes, four_bytes}
use Rattle.cg_frames.specs.Spelling.{endpoint, digest, members}
use Rattle.cg_entry.specs.Contents.{IsDigest}
use Rattle.cg_frames.proofs.FitsFields.{FitsMembers}
use Rattle.cg_frames.specs.Laws.{AreBytes}
use Rattle.cg_frames.proofs.ReadIsSpelledParts.{bind_ok, ok_is, goes_by, goes_on_by, endpoint_parts, digest_parts, rising_parts, none_read, rising_taken, count_within, counted_parts}

pub front_bytes : (n : ℕ) (bytes : List ℕ) → AreBytes bytes → AreBytes (take n bytes)
front_bytes n bytes small i = elim (cases_lt i n) [
  | inl lt ↦ subst (λ k. k < 2 ^ 8) (sym (get_or-take n bytes i 0 lt)) (small i)
  | inr ge ↦ subst (λ k. k < 2 ^ 8) (sym (get_or_past (take n bytes) i 0 (omega (arith, length-take n bytes)))) (omega arith)
]

pub later_bytes : (n : ℕ) (bytes : List ℕ) → AreBytes bytes → AreBytes (drop n bytes)
later_bytes n bytes small i = subst (λ k. k < 2 ^ 8) (sym (get_or-drop n bytes i 0)) (small (n + i))

-- The bytes begin with a spelling; the rest comes after it.
pub record Stands (spelled bytes rest : List ℕ) : Type 0 where
  pub whole : bytes ≡ spelled ++ rest
  pub bytes_behind : AreBytes rest

pub then : (first second bytes middle rest : List ℕ) → Stands first bytes middle → Stands second middle rest → Stands (first ++ second) bytes rest
then first second bytes middle rest s t =
    record { whole = s.whole ∙ ap (λ (ys : List ℕ). first ++ ys) t.whole ∙ sym (append_assoc first second rest); bytes_behind = t.bytes_behind }

-- ---- fields

pub record FrontFound (n : ℕ) (front bytes rest : List ℕ) : Type 0 where
  pub stands : Stands front bytes rest
  pub len : length front ≡ n
  pub are_bytes : AreBytes front

front_found : (n : ℕ) (bytes front rest : List ℕ) → AreBytes bytes → bytes_at n bytes ≡ Ok (front, rest) → FrontFound n front bytes rest
front_found n bytes front rest small h =
    let whole : Field (List ℕ) = Ok (take n bytes, drop n bytes) in
    let g = goes_by (nat_lt (length bytes) n) (record { cause = causes.Short; left = length bytes }) whole (front, rest) h in
    let enough = ltb-false (length bytes) n g.0 in
    subst (λ (p : List ℕ × List ℕ). FrontFound n p.0 bytes p.1) (ok_is (take n bytes, drop n bytes) (front, rest) g.1)
    (record { stands = record { whole = sym (take-append-drop n bytes); bytes_behind = later_bytes n bytes small }; len = omega (arith, length-take n bytes); are_bytes = front_bytes n bytes small })

one_is : (front : List ℕ) → length front ≡ 1 → AreBytes front → (front ≡ from_be_bytes w8 front ∷ []) × (from_be_bytes w8 front < 2 ^ 8)
one_is [] len small = absurd (omega arith)
one_is (b ∷ []) len small =
    let is : from_be_bytes w8 (b ∷ []) ≡ b = omega arith in
    let here : b < 2 ^ 8 = small 0 in
    (ap (λ (x : ℕ). x ∷ []) (sym is), omega arith)
one_is (b ∷ c ∷ more) len small = absurd (omega arith)

pub byte_found : (bytes : List ℕ) (n : ℕ) (rest : List ℕ) → AreBytes bytes → number_at w8 bytes ≡ Ok (n, rest) → Stands (n ∷ []) bytes rest × (n < 2 ^ 8)
byte_found bytes n rest small h =
    let a = bind_ok (bytes_at 1 bytes) (λ front. Ok (from_be_bytes w8 front.0, front.1)) (n, rest) h in
    let f = front_found 1 bytes a.0.0 a.0.1 small a.1 in
    let one = one_is a.0.0 f.len f.are_bytes in
    let at_front : Stands (from_be_bytes w8 a.0.0 ∷ []) bytes a.0.1 = subst (λ (ys : List ℕ). Stands ys bytes a.0.1) one.0 f.stands in
    subst (λ (p : ℕ × List ℕ). Stands (p.0 ∷ []) bytes p.1 × (p.0 < 2 ^ 8)) (ok_is (from_be_bytes w8 a.0.0, a.0.1) (n, rest) a.2) (at_front, one.1)

pub two_found : (bytes : List ℕ) (n : ℕ) (rest : List ℕ) → AreBytes bytes → number_at w16 bytes ≡ Ok (n, rest) → Stands (two_bytes n) bytes rest
unfolding two_bytes
two_found bytes n rest small h =
    let a = bind_ok (bytes_at 2 bytes) (λ front. Ok (from_be_bytes w16 front.0, front.1)) (n, rest) h in
    let f = front_found 2 bytes a.0.0 a.0.1 small a.1 in
    let is : to_be_bytes w16 (from_be_bytes w16 a.0.0) ≡ a.0.0 = be_bytes_2 a.0.0 (from_be_bytes w16 a.0.0) f.len f.are_bytes refl in
    let at_front : Stands (to_be_bytes w16 (from_be_bytes w16 a.0.0)) bytes a.0.1 = subst (λ (ys : List ℕ). Stands ys bytes a.0.1) (sym is) f.stands in
    subst (λ (p : ℕ × List ℕ). Stands (to_be_bytes w16 p.0) bytes p.1) (ok_is (from_be_bytes w16 a.0.0, a.0.1) (n, rest) a.2) at_front

four_found : (bytes : List ℕ) (n : ℕ) (rest : List ℕ) → AreBytes bytes → number_at w32 bytes ≡ Ok (n, rest) → Stands (four_bytes n) bytes rest
unfolding four_bytes
four_found bytes n rest small h =
    let a = bind_ok (bytes_at 4 bytes) (λ front. Ok (from_be_bytes w32 front.0, front.1)) (n, rest) h in
    let f = front_found 4 bytes a.0.0 a.0.1 small a.1 in
    let is : to_be_bytes w32 (from_be_bytes w32 a.0.0) ≡ a.0.0 = be_bytes_4 a.0.0 (from_be_bytes w32 a.0.0) f.len f.are_bytes refl in
    let at_front : Stands (to_be_bytes w32 (from_be_bytes w32 a.0.0)) bytes a.0.1 = subst (λ (ys : List ℕ). Stands ys bytes a.0.1) (sym is) f.stands in
    subst (λ (p : ℕ × List ℕ). Stands (to_be_bytes w32 p.0) bytes p.1) (ok_is (from_be_bytes w32 a.0.0, a.0.1) (n, rest) a.2) at_front

pub record RangedFound (least n : ℕ) (bytes rest : List ℕ) : Type 0 where
  pub stands : Stands (four_bytes n) bytes rest
  pub low : least ≤ n
  pub small : n < NUMBER_LIMIT

not_false : (b : Bool) → not b ≡ true → b ≡ false
not_false false e = refl
not_false true e = absurd cc

pub ranged_found : (cause : Cause) (least : ℕ) (bytes : List ℕ) (n : ℕ) (rest : List ℕ) → AreBytes bytes → ranged_at cause least bytes ≡ Ok (n, rest) → RangedFound least n bytes rest
ranged_found cause least bytes n rest small h =
    let fault : Misread = record { cause = cause; left = length bytes } in
    let a = bind_ok (number_at w32 bytes) (λ n. cond (not (nat_lt n.0 least) && nat_lt n.0 NUMBER_LIMIT) (Ok n) (Err fault)) (n, rest) h in
    let g = goes_on_by (not (nat_lt a.0.0 least) && nat_lt a.0.0 NUMBER_LIMIT) fault (Ok a.0) (n, rest) a.2 in
    let low = ltb-false a.0.0 least (not_false (nat_lt a.0.0 least) (first_of (not (nat_lt a.0.0 least)) (nat_lt a.0.0 NUMBER_LIMIT) g.0)) in
    let high = ltb-true a.0.0 NUMBER_LIMIT (second_of (not (nat_lt a.0.0 least)) (nat_lt a.0.0 NUMBER_LIMIT) g.0) in
    subst (λ (p : ℕ × List ℕ). RangedFound least p.0 bytes p.1) (ok_is a.0 (n, rest) g.1)
    (record { stands = four_found bytes a.0.0 a.0.1 small a.1; low = low; small = high })

-- a number that is at least 1 and in its range
pub in_range : (n : ℕ) (bytes rest : List ℕ) → RangedFound 1 n bytes rest → (0 < n) × (n < NUMBER_LIMIT)
in_range n bytes rest r = (omega (arith, r.low), r.small)

-- ---- an endpoint and a digest

port_small : (bytes : List ℕ) → AreBytes bytes → from_be_bytes w16 bytes < 2 ^ 16
port_small bytes small = omega (arith, small 0, small 1)

address_small : (bytes : List ℕ) → AreBytes bytes → from_be_bytes w32 bytes < 2 ^ 32
address_small bytes small = omega (arith, small 0, small 1, small 2, small 3)

pub positive : (n : ℕ) → (n == 0) ≡ false → 0 < n
positive zero e = absurd cc
positive (suc n) e = omega arith

endpoint_spelled : (address port : ℕ) → port < 2 ^ 16 → endpoint (endpoint_of address port) ≡ four_bytes address ++ two_bytes port
endpoint_spelled address port small =
    let a : address_of (endpoint_of address port) ≡ address = omega arith in
    let p : port_of (endpoint_of address port) ≡ port = omega arith in
    (λ i. four_bytes (a i) ++ two_bytes (p i))

endpoint_valid : (address port : ℕ) → address < 2 ^ 32 → port < 2 ^ 16 → 0 < port → IsEndpoint (endpoint_of address port)
endpoint_valid address port high low some = (omega arith, omega arith)

abbrev address_in : List ℕ → ℕ
address_in front = from_be_bytes w32 (take 4 front)

abbrev port_in : List ℕ → ℕ
port_in front = from_be_bytes w16 (drop 4 front)

six_spelled : (front : List ℕ) → length front ≡ 6 → AreBytes front → four_bytes (address_in front) ++ two_bytes (port_in front) ≡ front
unfolding two_bytes four_bytes
six_spelled front len small =
    let a = be_bytes_4 (take 4 front) (address_in front) (omega (arith, length-take 4 front)) (front_bytes 4 front small) refl in
    let p = be_bytes_2 (drop 4 front) (port_in front) (omega (arith, length-drop 4 front)) (later_bytes 4 front small) refl in
    (λ i. a i ++ p i) ∙ take-append-drop 4 front

six_is : (front : List ℕ) → length front ≡ 6 → AreBytes front → (port_in front == 0) ≡ false
    → (endpoint (endpoint_of (address_in front) (port_in front)) ≡ front) × IsEndpoint (endpoint_of (address_in front) (port_in front))
six_is front len small some =
    let high = address_small (take 4 front) (front_bytes 4 front small) in
    let low = port_small (drop 4 front) (later_bytes 4 front small) in
    (endpoint_spelled (address_in front) (port_in front) low ∙ six_spelled front len small, endpoint_valid (address_in front) (port_in front) high low (positive (port_in front) some))

pub record EndpointFound (e : ℕ) (bytes rest : List ℕ) : Type 0 where
  pub stands : Stands (endpoint e) bytes rest
  pub valid : IsEndpoint e

pub endpoint_found : (last : Option ℕ) (bytes : List ℕ) (e : ℕ) (rest : List ℕ) → AreBytes bytes → endpoint_at last bytes ≡ Ok (e, rest) → EndpointFound e bytes rest
endpoint_found last bytes e rest small h =
    let p = endpoint_parts last bytes e rest h in
    let f = front_found 6 bytes p.front rest small p.read in
    let six = six_is p.front f.len f.are_bytes p.some in
    subst (λ (e : ℕ). EndpointFound e bytes rest) p.value
    (record { stands = subst (λ (ys : List ℕ). Stands ys bytes rest) (sym six.0) f.stands; valid = six.1 })

pub digest_found : (last : Option ℕ) (bytes : List ℕ) (d : Digest) (rest : List ℕ) → AreBytes bytes → digest_at last bytes ≡ Ok (d, rest) → Stands (digest d) bytes rest × IsDigest d
digest_found last bytes d rest small h =
    let p = digest_parts last bytes d rest h in
    let e = endpoint_found last bytes d.endpoint p.from_generation small p.endpoint in
    let g = ranged_found causes.Generation 1 p.from_generation d.generation p.from_newest e.stands.bytes_behind p.generation in
    let v = ranged_found causes.Version 1 p.from_newest d.newest rest g.stands.bytes_behind p.newest in (
      then (endpoint d.endpoint ++ four_bytes d.generation) (four_bytes d.newest) bytes p.from_newest rest (then (endpoint d.endpoint) (four_bytes d.generation) bytes p.from_generation p.from_newest e.stands g.stands) v.stands,
      record { endpoint = e.valid; generation = in_range d.generation p.from_generation p.from_newest g; newest = in_range d.newest p.from_newest rest v },
    )

-- ---- members, each of which is spelled so and fits

pub rising_found : {X : Type 0} (key : X → ℕ) (spell : X → List ℕ) (one : Option ℕ → List ℕ → Field X) (Fits : X → Type 0)
    → ((last : Option ℕ) (bytes : List ℕ) (x : X) (rest : List ℕ) → AreBytes bytes → one last bytes ≡ Ok (x, rest) → Stands (spell x) bytes rest × Fits x)
    → (n : ℕ) (last : Option ℕ) (bytes : List ℕ) (xs : List X) (rest : List ℕ) → AreBytes bytes → rising_at key one n last bytes ≡ Ok (xs, rest) → Stands (flat_map spell xs) bytes rest × AllByRecursion Fits xs
rising_found key spell one Fits found zero last bytes xs rest small h =
    let p = none_read key one last bytes xs rest h in
    subst (λ ys. Stands (flat_map spell ys) bytes rest × AllByRecursion Fits ys) p.0
    (record { whole = p.1; bytes_behind = subst AreBytes p.1 small }, tt)
rising_found key spell one Fits found (suc n) last bytes xs rest small h =
    let p = rising_parts key one n last bytes xs rest h in
    let first = found last bytes p.first p.from small p.first_read in
    let others = rising_found key spell one Fits found n (Some (key p.first)) p.from p.others rest first.0.bytes_behind p.others_read in
    let both = then (spell p.first) (flat_map spell p.others) bytes p.from rest first.0 others.0 in
    subst (λ ys. Stands (flat_map spell ys) bytes rest × AllByRecursion Fits ys) p.is
    (subst (λ (ys : List ℕ). Stands ys bytes rest) (sym (flat_map-cons spell p.first p.others)) both, (first.1, others.1))

-- ---- plain text, and a name

pub record PlainFound (n : ℕ) (text bytes rest : List ℕ) : Type 0 where
  pub stands : Stands text bytes rest
  pub len : length text ≡ n
  pub is_plain : plain text ≡ true

pub plain_found : (n : ℕ) (cause : Cause) (bytes text rest : List ℕ) → AreBytes bytes → plain_at n cause bytes ≡ Ok (text, rest) → PlainFound n text bytes rest
plain_found n cause bytes text rest small h =
    let fault : Misread = record { cause = cause; left = length bytes } in
    let a = bind_ok (bytes_at n bytes) (λ front. cond (plain front.0) (Ok front) (Err fault)) (text, rest) h in
    let w = goes_on_by (plain a.0.0) fault (Ok a.0) (text, rest) a.2 in
    let f = front_found n bytes a.0.0 a.0.1 small a.1 in
    subst (λ (p : List ℕ × List ℕ). PlainFound n p.0 bytes p.1) (ok_is a.0 (text, rest) w.1) (record { stands = f.stands; len = f.len; is_plain = w.0 })

pub neither : (b c : Bool) → (b || c) ≡ false → (b ≡ false) × (c ≡ false)
neither false false e = (refl, refl)
neither true c e = absurd cc
neither false true e = absurd cc

pub name_found : (bytes name rest : List ℕ) → AreBytes bytes → name_at bytes ≡ Ok (name, rest) → Stands (length name ∷ name) bytes rest × IsClusterName name
unfolding name_at
name_found bytes name rest small h =
    let fault : Misread = record { cause = causes.Name; left = length bytes } in
    let a = bind_ok (number_at w8 bytes) (λ len. cond (len.0 == 0 || nat_lt NAME_LIMIT len.0) (Err fault) (plain_at len.0 causes.Name len.1)) (name, rest) h in
    let g = goes_by (a.0.0 == 0 || nat_lt NAME_LIMIT a.0.0) fault (plain_at a.0.0 causes.Name a.0.1) (name, rest) a.2 in
    let b = byte_found bytes a.0.0 a.0.1 small a.1 in
    let f = plain_found a.0.0 causes.Name a.0.1 name rest b.0.bytes_behind g.1 in
    let limits = neither (a.0.0 == 0) (nat_lt NAME_LIMIT a.0.0) g.0 in
    let some : 0 < a.0.0 = positive a.0.0 limits.0 in
    let most : a.0.0 ≤ NAME_LIMIT = ltb-false NAME_LIMIT a.0.0 limits.1 in
    let long : length name ≡ a.0.0 = f.len in
    let behind : Stands (a.0.0 ∷ name) bytes rest = then (a.0.0 ∷ []) name bytes a.0.1 rest b.0 f.stands in (
      subst (λ (n : ℕ). Stands (n ∷ name) bytes rest) (sym long) behind,
      record { is_plain = f.is_plain; some = omega arith; fits = omega arith },
    )

-- ---- members with their count

pub record MembersFound {X : Type 0} (key : X → ℕ) (spell : X → List ℕ) (Fits : X → Type 0) (layout : Layout) (bytes : List ℕ) (xs : List X) (rest : List ℕ) : Type 0 where
  pub stands : Stands (members spell xs) bytes rest
  pub listed : FitsMembers layout (map key xs)
  pub fit : AllByRecursion Fits xs

pub members_found : {X : Type 0} (key : X → ℕ) (spell : X → List ℕ) (one : Option ℕ → List ℕ → Field X) (Fits : X → Type 0)
    → ((last : Option ℕ) (bytes : List ℕ) (x : X) (rest : List ℕ) → AreBytes bytes → one last bytes ≡ Ok (x, rest) → Stands (spell x) bytes rest × Fits x)
    → ((last : Option ℕ) (bytes : List ℕ) (x : X) (after : List ℕ) → one last bytes ≡ Ok (x, after) → is_past last (key x) ≡ true)
    → (layout : Layout) (at : List ℕ) (count : ℕ) (from : List ℕ) (xs : List X) (rest : List ℕ) → AreBytes at → count_at layout at ≡ Ok (count, from) → rising_at key one count None from ≡ Ok (xs, rest) → MembersFound key spell Fits layout at xs rest
members_found {X = X} key spell one Fits found past layout at count from xs rest small counted read =
    let within = count_within layout at count from counted in
    let two = two_found at count from small within.0 in
    let all = rising_found key spell one Fits found count None from xs rest two.bytes_behind read in
    let taken = rising_taken key one past count None from xs rest read in
    let front : Stands (two_bytes (length xs)) at from = subst (λ (n : ℕ). Stands (two_bytes n) at from) (sym taken.1) two in
    let few : length (map key xs) ≤ layout.members = omega (arith, within.1, taken.1, length-map {A = X} {B = ℕ}) in
    record {
      stands = then (two_bytes (length xs)) (flat_map spell xs) at from rest front all.0;
      listed = record { rise = taken.0; few = few };
      fit = all.1;
    }

pub listed_found : {X : Type 0} (key : X → ℕ) (spell : X → List ℕ) (one : Option ℕ → List ℕ → Field X) (Fits : X → Type 0)
    → ((last : Option ℕ) (bytes : List ℕ) (x : X) (rest : List ℕ) → AreBytes bytes → one last bytes ≡ Ok (x, rest) → Stands (spell x) bytes rest × Fits x)
    → ((last : Option ℕ) (bytes : List ℕ) (x : X) (after : List ℕ) → one last bytes ≡ Ok (x, after) → is_past last (key x) ≡ true)
    → (layout : Layout) (at : List ℕ) (xs : List X) (rest : List ℕ) → AreBytes at → (count_at layout at >>= λ count. rising_at key one count.0 None count.1) ≡ Ok (xs, rest) → MembersFound key spell Fits layout at xs rest
listed_found key spell one Fits found past layout at xs rest small h =
    let c = counted_parts key one layout at xs rest h in
    members_found key spell one Fits found past layout at c.0.0 c.0.1 xs rest small c.1 c.2
