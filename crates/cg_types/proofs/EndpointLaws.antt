-- A text is an endpoint's exactly if it is the one that the endpoint writes.
use Rattle.std.proofs.Common.{◌≡◌, ◌≢◌, IfSome, IfNone, ℕ, ◌+◌, ◌*◌, ◌/◌, ◌%◌, ◌<◌, ◌≤◌, Bool, true, false, cond, ◌==◌, suc, zero, List, [], ◌∷◌, ◌++◌, Option, Some, None, refl, sym, ap, ◌∙◌, subst, arith, decimal, eq-eqb, eqb-true}
use Rattle.std.specs.Prelude.{nat_lt, IsUtf8, IsAscii}
use Rattle.std.specs.List.{list_all}
use Rattle.std.specs.Char.{is_ascii_digit}
use Rattle.std.proofs.lemmas.Bool.{and_parts}
use Rattle.std.proofs.lemmas.Fmt.{IsAscii-decimal}
use Rattle.std.proofs.lemmas.Grind.{common_steps}
use Rattle.std.proofs.lemmas.Option.{same_Some}
use Rattle.std.proofs.lemmas.Str.{IsAscii-append, IsUtf8-from_ascii}
use Rattle.cg_types.specs.Words.{cut_at, with_first, number_of}
use Rattle.cg_types.specs.Numbers.{IsEndpoint, address_of, port_of}
use Rattle.cg_types.specs.EndpointText.{text_of_parts, endpoint_of_parts, endpoint_text, endpoint_in, octet_before, port_in}
use Rattle.cg_types.specs.OptionSteps.{◌>>=◌}
use Rattle.cg_types.proofs.WordLemmas.{number_of-some, number_of-decimal, digits_of_decimal}

-- the value of a step that did not fail
pub bind_some : {A B : Type 0} (o : Option A) (f : A → Option B) (y : B) → (o >>= f) ≡ Some y → (x : A) × (o ≡ Some x) × (f x ≡ Some y)
bind_some None f y e = absurd cc
bind_some (Some x) f y e = (x, refl, e)

-- ---- parts

abbrev IsCut : ℕ → List ℕ → List ℕ × List ℕ → Type 0
IsCut c text p = text ≡ p.0 ++ (c ∷ p.1)

cut_first : (c b : ℕ) (bs : List ℕ) (rest : Option (List ℕ × List ℕ)) (p : List ℕ × List ℕ) → ((q : List ℕ × List ℕ) → rest ≡ Some q → IsCut c bs q) → with_first b rest ≡ Some p → IsCut c (b ∷ bs) p
cut_first c b bs None p h e = absurd cc
cut_first c b bs (Some q) p h e = subst (IsCut c (b ∷ bs)) (same_Some (b ∷ q.0, q.1) p e) (ap (λ (l : List ℕ). b ∷ l) (h q refl))

cut_step : (t : Bool) (c b : ℕ) (bs : List ℕ) (rest : Option (List ℕ × List ℕ)) (p : List ℕ × List ℕ) → (b == c) ≡ t → ((q : List ℕ × List ℕ) → rest ≡ Some q → IsCut c bs q)
    → cond t (Some ([], bs)) (with_first b rest) ≡ Some p → IsCut c (b ∷ bs) p
cut_step true c b bs rest p is h e = subst (IsCut c (b ∷ bs)) (same_Some ([], bs) p e) (ap (λ (k : ℕ). k ∷ bs) (eqb-true b c is))
cut_step false c b bs rest p is h e = cut_first c b bs rest p h e

-- the parts of a cut text make the text
pub cut_at-some : (c : ℕ) (text : List ℕ) (p : List ℕ × List ℕ) → cut_at c text ≡ Some p → text ≡ p.0 ++ (c ∷ p.1)
cut_at-some c [] p e = absurd cc
cut_at-some c (b ∷ bs) p e = cut_step (b == c) c b bs (cut_at c bs) p refl (cut_at-some c bs) e

other_by : (t : Bool) (c d : ℕ) → (d == c) ≡ t → is_ascii_digit c ≡ false → is_ascii_digit d ≡ true → (d == c) ≡ false
other_by false c d is none digit = is
other_by true c d is none digit = let same : is_ascii_digit d ≡ is_ascii_digit c = ap is_ascii_digit (eqb-true d c is) in absurd cc

-- digits are cut off before a byte that is none
pub cut_at-digits : (c : ℕ) (ds rest : List ℕ) → is_ascii_digit c ≡ false → list_all is_ascii_digit ds ≡ true → cut_at c (ds ++ (c ∷ rest)) ≡ Some (ds, rest)
cut_at-digits c [] rest none h = rw (eq-eqb c c refl) refl
cut_at-digits c (d ∷ ds) rest none h =
    let parts = and_parts (is_ascii_digit d) (list_all is_ascii_digit ds) h in
    rw (other_by (d == c) c d refl none parts.0, cut_at-digits c ds rest none parts.1) refl

-- ---- numbers before a byte

pub octet_before-text : (c n : ℕ) (rest : List ℕ) → is_ascii_digit c ≡ false → n < 256 → octet_before c (decimal n ++ (c ∷ rest)) ≡ Some (n, rest)
unfolding octet_before
octet_before-text c n rest none lt = rw (cut_at-digits c (decimal n) rest none (digits_of_decimal n (omega arith)), number_of-decimal 255 n (omega arith) (omega arith)) refl

pub octet_before-some : (c : ℕ) (text : List ℕ) (p : ℕ × List ℕ) → octet_before c text ≡ Some p → (text ≡ decimal p.0 ++ (c ∷ p.1)) × (p.0 < 256)
unfolding octet_before
octet_before-some c text p e =
    let b = bind_some (cut_at c text) (λ q. number_of 255 q.0 >>= λ n. Some (n, q.1)) p e in
    let n = bind_some (number_of 255 b.0.0) (λ n. Some (n, b.0.1)) p b.2 in
    let number = number_of-some 255 b.0.0 n.0 (omega arith) n.1 in
    let parts = cut_at-some c text b.0 b.1 in
    let octet : n.0 < 256 = omega (arith, number.1) in
    subst (λ (q : ℕ × List ℕ). (text ≡ decimal q.0 ++ (c ∷ q.1)) × (q.0 < 256)) (same_Some (n.0, b.0.1) p n.2)
    (parts ∙ ap (λ (l : List ℕ). l ++ (c ∷ b.0.1)) number.0, octet)

pub port_in-text : (n : ℕ) → 1 ≤ n → n ≤ 65535 → port_in (decimal n) ≡ Some n
unfolding port_in
port_in-text n low high = rw (number_of-decimal 65535 n (omega arith) high) (grind (arith, common_steps))

some_guard : (b : Bool) (x y : ℕ) → cond b (Some x) None ≡ Some y → (b ≡ true) × (x ≡ y)
some_guard true x y e = (refl, cc)
some_guard false x y e = absurd cc

pub port_in-some : (text : List ℕ) (n : ℕ) → port_in text ≡ Some n → (text ≡ decimal n) × (1 ≤ n) × (n ≤ 65535)
unfolding port_in
port_in-some text n e =
    let b = bind_some (number_of 65535 text) (λ k. cond (nat_lt 0 k) (Some k) None) n e in
    let number = number_of-some 65535 text b.0 (omega arith) b.1 in
    let g = some_guard (nat_lt 0 b.0) b.0 n b.2 in
    let positive : 0 < b.0 = grind (arith, common_steps, g.0) in
    subst (λ (k : ℕ). (text ≡ decimal k) × (1 ≤ k) × (k ≤ 65535)) g.1 (number.0, omega (arith, positive), number.1)

-- ---- endpoints

-- the parts of an endpoint made of them
pub record Parted (a b c d port : ℕ) (e : ℕ) : Type 0 where
  pub first : address_of e / 16777216 ≡ a
  pub second : address_of e / 65536 % 256 ≡ b
  pub third : address_of e / 256 % 256 ≡ c
  pub fourth : address_of e % 256 ≡ d
  pub last : port_of e ≡ port

joined_parted : (a b c d port : ℕ) → a < 256 → b < 256 → c < 256 → d < 256 → port < 65536 → Parted a b c d port (endpoint_of_parts a b c d port)
joined_parted a b c d port ha hb hc hd hp =
    let address : address_of (endpoint_of_parts a b c d port) ≡ ((a * 256 + b) * 256 + c) * 256 + d = omega arith in
    record { first = omega arith; second = omega arith; third = omega arith; fourth = omega arith; last = omega arith }

text_of_parted : (a b c d port e : ℕ) → Parted a b c d port e → endpoint_text e ≡ text_of_parts a b c d port
unfolding endpoint_text
text_of_parted a b c d port e p = rw (p.first, p.second, p.third, p.fourth, p.last) refl

-- four bytes and a port make an endpoint
joined_valid : (a b c d port : ℕ) → a < 256 → b < 256 → c < 256 → d < 256 → 1 ≤ port → port < 65536 → IsEndpoint (endpoint_of_parts a b c d port)
joined_valid a b c d port ha hb hc hd low hp = (omega arith, omega arith)

-- the endpoint read of a dotted text
dotted_read : (a b c d port : ℕ) → a < 256 → b < 256 → c < 256 → d < 256 → 1 ≤ port → port ≤ 65535 → endpoint_in (text_of_parts a b c d port) ≡ Some (endpoint_of_parts a b c d port)
unfolding endpoint_in
dotted_read a b c d port ha hb hc hd low high =
    rw (octet_before-text 46 a _ refl ha, octet_before-text 46 b _ refl hb, octet_before-text 46 c _ refl hc, octet_before-text 58 d _ refl hd, port_in-text port low high) refl

-- the text that an endpoint writes is read as that endpoint
pub endpoint_in-text : (e : ℕ) → IsEndpoint e → endpoint_in (endpoint_text e) ≡ Some e
unfolding endpoint_text
endpoint_in-text e is =
    let a = address_of e / 16777216 in
    let whole : endpoint_of_parts a (address_of e / 65536 % 256) (address_of e / 256 % 256) (address_of e % 256) (port_of e) ≡ e = omega arith in
    dotted_read a (address_of e / 65536 % 256) (address_of e / 256 % 256) (address_of e % 256) (port_of e) (omega (arith, is.0)) (omega arith) (omega arith) (omega arith) (omega (arith, is.1)) (omega arith)
    ∙ ap (λ (n : ℕ). Some n) whole

-- a text read as an endpoint is the one that the endpoint writes
pub endpoint_in-some : (text : List ℕ) (e : ℕ) → endpoint_in text ≡ Some e → IsEndpoint e × (text ≡ endpoint_text e)
unfolding endpoint_in
endpoint_in-some text e found =
    let a = bind_some (octet_before 46 text) _ e found in
    let b = bind_some (octet_before 46 a.0.1) _ e a.2 in
    let c = bind_some (octet_before 46 b.0.1) _ e b.2 in
    let d = bind_some (octet_before 58 c.0.1) _ e c.2 in
    let p = bind_some (port_in d.0.1) _ e d.2 in
    let pa = octet_before-some 46 text a.0 a.1 in
    let pb = octet_before-some 46 a.0.1 b.0 b.1 in
    let pc = octet_before-some 46 b.0.1 c.0 c.1 in
    let pd = octet_before-some 58 c.0.1 d.0 d.1 in
    let pp = port_in-some d.0.1 p.0 p.1 in
    let same : endpoint_of_parts a.0.0 b.0.0 c.0.0 d.0.0 p.0 ≡ e = same_Some (endpoint_of_parts a.0.0 b.0.0 c.0.0 d.0.0 p.0) e p.2 in
    let whole : text ≡ text_of_parts a.0.0 b.0.0 c.0.0 d.0.0 p.0 =
    pa.0 ∙ ap (λ (l : List ℕ). decimal a.0.0 ++ (46 ∷ l)) (pb.0 ∙ ap (λ (l : List ℕ). decimal b.0.0 ++ (46 ∷ l)) (pc.0 ∙ ap (λ (l : List ℕ). decimal c.0.0 ++ (46 ∷ l))
    (pd.0 ∙ ap (λ (l : List ℕ). decimal d.0.0 ++ (58 ∷ l)) pp.0))) in
    let parted = joined_parted a.0.0 b.0.0 c.0.0 d.0.0 p.0 pa.1 pb.1 pc.1 pd.1 (omega (arith, pp.2)) in
    let valid = joined_valid a.0.0 b.0.0 c.0.0 d.0.0 p.0 pa.1 pb.1 pc.1 pd.1 pp.1 (omega (arith, pp.2)) in
    subst (λ (x : ℕ). IsEndpoint x × (text ≡ endpoint_text x)) same (valid, whole ∙ sym (text_of_parted a.0.0 b.0.0 c.0.0 d.0.0 p.0 _ parted))

-- its bytes are all ASCII
ending_ascii : (c : ℕ) (rest : List ℕ) → c < 128 → IsAscii rest → IsAscii (c ∷ rest)
ending_ascii c rest lt h zero = lt
ending_ascii c rest lt h (suc i) = h i

part_ascii : (n c : ℕ) (rest : List ℕ) → n < 256 → c < 128 → IsAscii rest → IsAscii (decimal n ++ (c ∷ rest))
part_ascii n c rest small lt h = IsAscii-append (decimal n) (c ∷ rest) (IsAscii-decimal n (omega arith)) (ending_ascii c rest lt h)

pub endpoint_text-utf8 : (e : ℕ) → IsEndpoint e → IsUtf8 (endpoint_text e)
unfolding endpoint_text
endpoint_text-utf8 e is =
    IsUtf8-from_ascii (endpoint_text e)
    (part_ascii (address_of e / 16777216) 46 _ (omega (arith, is.0)) (omega arith) (part_ascii (address_of e / 65536 % 256) 46 _ (omega arith) (omega arith)
    (part_ascii (address_of e / 256 % 256) 46 _ (omega arith) (omega arith) (part_ascii (address_of e % 256) 58 _ (omega arith) (omega arith)
    (IsAscii-decimal (port_of e) (omega arith))))))

-- a caller's view of an endpoint that is there, or is not
pub endpoint_found : (text : List ℕ) (r : Option ℕ) → r ≡ endpoint_in text → IfSome r (λ e. text ≡ endpoint_text e)
endpoint_found text None e = tt
endpoint_found text (Some x) e = (endpoint_in-some text x (sym e)).1

pub endpoint_missed : (text : List ℕ) (r : Option ℕ) → r ≡ endpoint_in text → IfNone r ((x : ℕ) → IsEndpoint x → text ≢ endpoint_text x)
endpoint_missed text (Some x) e = tt
endpoint_missed text None e = λ x is same. let found : endpoint_in text ≡ Some x = ap endpoint_in same ∙ endpoint_in-text x is in cc
