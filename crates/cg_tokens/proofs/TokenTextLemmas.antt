-- A text is read as tokens exactly if it is the one that is written of them.
use Rattle.std.proofs.Common.{◌≡◌, ◌≢◌, ℕ, zero, suc, ◌+◌, ◌*◌, ◌/◌, ◌%◌, ◌^◌, ◌<◌, ◌≤◌, Bool, true, false, cond, ◌==◌, List, [], ◌∷◌, ◌++◌, length, take, get_or, map, Option, Some, None, refl, sym, ap, ◌∙◌, arith, eq-eqb, eqb-true, add-one}
use Rattle.std.specs.Prelude.{◌&&◌, nat_le, is_some, All}
use Rattle.std.specs.List.{list_all, filter_map, join_with_byte}
use Rattle.std.specs.Char.{digit_char, digit_value}
use Rattle.std.specs.Str.Parse.{digits_value}
use Rattle.std.proofs.Math.Seq.{take-suc}
use Rattle.std.proofs.Math.Nat.{pow-suc}
use Rattle.std.proofs.lemmas.Bool.{and_parts, false≢true, le-leb}
use Rattle.std.proofs.lemmas.Bool.Decides.{nat_tests}
use Rattle.std.proofs.lemmas.Grind.{common_steps}
use Rattle.std.proofs.lemmas.Int.Digits.{digits_value_more, digits_value_push}
use Rattle.std.proofs.lemmas.List.{length_push, take_all, length-map}
use Rattle.std.proofs.lemmas.List.Elements.{All-head, All-tail}
use Rattle.std.proofs.lemmas.List.Folds.{list_all-append}
use Rattle.std.proofs.lemmas.List.Splits.{join_with_byte-slice_split, slice_split_none, slice_split_at}
use Rattle.std.proofs.lemmas.List.Sums.{AllPass-from_list_all}
use Rattle.cg_types.specs.Rising.{rise_past}
use Rattle.cg_tokens.specs.declared.limits.TheConstants.{TOKEN_DIGITS, TOKEN_LIMIT, TOKEN_COUNT_LIMIT, COMMA}
use Rattle.cg_tokens.specs.Tokens.{IsToken, hexadecimal, token_text}
use Rattle.cg_tokens.specs.Text.{is_lower_digit, token_in, is_comma, pieces, are_tokens, tokens_of, tokens_text, AreTokens}
use Rattle.cg_tokens.proofs.TextLemmas.{lower_value}

-- ---- digits

char-value : (c : ℕ) → is_lower_digit c ≡ true → digit_char (digit_value c) ≡ c
char-value c h = grind (arith, common_steps)

value-char : (d : ℕ) → d < 16 → digit_value (digit_char d) ≡ d
value-char d lt = grind (arith, nat_tests)

lower-char : (d : ℕ) → d < 16 → is_lower_digit (digit_char d) ≡ true
lower-char d lt = grind (arith, nat_tests)

not_comma : (c : ℕ) → is_lower_digit c ≡ true → is_comma c ≡ false
not_comma c h = grind (arith, common_steps)

-- digits are those of their value
hexadecimal-value : (ds : List ℕ) (n : ℕ) → list_all is_lower_digit ds ≡ true → n ≤ length ds → hexadecimal n (digits_value 16 (take n ds)) ≡ take n ds
unfolding hexadecimal
hexadecimal-value ds zero h le = refl
hexadecimal-value ds (suc n) h le =
    let c = get_or ds n 0 in
    let lower : is_lower_digit c ≡ true = AllPass-from_list_all is_lower_digit ds h n 0 (omega arith) in
    let less = lower_value c lower in
    let more : digits_value 16 (take (suc n) ds) ≡ digits_value 16 (take n ds) * 16 + digit_value c = ap (λ (m : ℕ). digits_value 16 (take m ds)) (sym (add-one n)) ∙ digits_value_more 16 ds n (omega arith) in
    let front : (digits_value 16 (take n ds) * 16 + digit_value c) / 16 ≡ digits_value 16 (take n ds) = omega arith in
    let last : (digits_value 16 (take n ds) * 16 + digit_value c) % 16 ≡ digit_value c = omega arith in
    rw (more, front, last, char-value c lower) (ap (λ (text : List ℕ). text ++ c ∷ []) (hexadecimal-value ds n h (omega arith)) ∙ sym (take-suc ds n 0 (omega arith)))

length-hexadecimal : (k n : ℕ) → length (hexadecimal k n) ≡ k
unfolding hexadecimal
length-hexadecimal zero n = refl
length-hexadecimal (suc k) n = omega (arith, length_push (hexadecimal k (n / 16)) (digit_char (n % 16)), length-hexadecimal k (n / 16))

lower-hexadecimal : (k n : ℕ) → list_all is_lower_digit (hexadecimal k n) ≡ true
unfolding hexadecimal
lower-hexadecimal zero n = refl
lower-hexadecimal (suc k) n =
    let last = lower-char (n % 16) (omega arith) in
    rw (list_all-append is_lower_digit (hexadecimal k (n / 16)) (digit_char (n % 16) ∷ []), lower-hexadecimal k (n / 16), last) refl

value-hexadecimal : (k n : ℕ) → n < 16 ^ k → digits_value 16 (hexadecimal k n) ≡ n
unfolding hexadecimal
value-hexadecimal zero n lt = omega arith
value-hexadecimal (suc k) n lt =
    let power = pow-suc 16 k in
    let front = value-hexadecimal k (n / 16) (omega (arith, power)) in
    let last = value-char (n % 16) (omega arith) in
    rw (digits_value_push 16 (hexadecimal k (n / 16)) (digit_char (n % 16)), front, last) (omega arith)

-- ---- one token

guarded : (b : Bool) (x t : ℕ) → cond b (Some x) None ≡ Some t → (b ≡ true) × (x ≡ t)
guarded true x t e = (refl, cc)
guarded false x t e = absurd cc

-- a text that is read as a token is the token's text
token_in-some : (p : List ℕ) (t : ℕ) → token_in p ≡ Some t → p ≡ token_text t
unfolding token_in
token_in-some p t e =
    let g = guarded (length p == TOKEN_DIGITS && (list_all is_lower_digit p && nat_le (digits_value 16 p) TOKEN_LIMIT)) (digits_value 16 p) t e in
    let parts = and_parts (length p == TOKEN_DIGITS) (list_all is_lower_digit p && nat_le (digits_value 16 p) TOKEN_LIMIT) g.0 in
    let digits = and_parts (list_all is_lower_digit p) (nat_le (digits_value 16 p) TOKEN_LIMIT) parts.1 in
    let size = eqb-true (length p) TOKEN_DIGITS parts.0 in
    let whole = take_all TOKEN_DIGITS p (omega arith) in
    sym (ap (λ (n : ℕ). hexadecimal TOKEN_DIGITS n) (sym g.1) ∙ rw whole at (hexadecimal-value p TOKEN_DIGITS digits.0 (omega arith)))

-- and a token's text is read as that token
token_in-text : (t : ℕ) → IsToken t → token_in (token_text t) ≡ Some t
unfolding token_in
token_in-text t le =
    let value = value-hexadecimal TOKEN_DIGITS t (omega arith) in
    rw (eq-eqb (length (token_text t)) TOKEN_DIGITS (length-hexadecimal TOKEN_DIGITS t), lower-hexadecimal TOKEN_DIGITS t, value, le-leb t TOKEN_LIMIT le) refl

-- ---- texts of tokens

spelled_by : (o : Option ℕ) (p : List ℕ) (ps : List (List ℕ)) → token_in p ≡ o → is_some o ≡ true → ps ≡ map token_text (filter_map token_in ps) → p ∷ ps ≡ map token_text (filter_map token_in (p ∷ ps))
spelled_by None p ps e some h = absurd (false≢true some)
spelled_by (Some t) p ps e some h = rw e (rw (← h) (ap (λ (text : List ℕ). text ∷ ps) (token_in-some p t e)))

spelled : (ps : List (List ℕ)) → list_all (λ p. is_some (token_in p)) ps ≡ true → ps ≡ map token_text (filter_map token_in ps)
spelled [] h = refl
spelled (p ∷ ps) h =
    let parts = and_parts (is_some (token_in p)) (list_all (λ q. is_some (token_in q)) ps) h in
    spelled_by (token_in p) p ps refl parts.0 (spelled ps parts.1)

listed_by : (b : Bool) (xs tokens : List ℕ) → cond b (Some xs) None ≡ Some tokens → (b ≡ true) × (xs ≡ tokens)
listed_by true xs tokens e = (refl, cc)
listed_by false xs tokens e = absurd cc

-- a text that is read is the one that is written of its tokens
pub text_read : (text tokens : List ℕ) → Some tokens ≡ tokens_of text → text ≡ tokens_text tokens
text_read text tokens e =
    let g = listed_by (are_tokens (pieces text)) (filter_map token_in (pieces text)) tokens (sym e) in
    let ps = pieces text in
    let rest = and_parts (nat_le (length ps) TOKEN_COUNT_LIMIT) (list_all (λ p. is_some (token_in p)) ps && rise_past None (filter_map token_in ps)) g.0 in
    let each = and_parts (list_all (λ p. is_some (token_in p)) ps) (rise_past None (filter_map token_in ps)) rest.1 in
    sym (join_with_byte-slice_split COMMA text) ∙ ap (join_with_byte COMMA) (spelled ps each.0) ∙ ap tokens_text g.1

no_comma : (t : ℕ) → All (λ c. is_comma c ≡ false) (token_text t)
no_comma t k d lt = not_comma _ (AllPass-from_list_all is_lower_digit (token_text t) (lower-hexadecimal TOKEN_DIGITS t) k d lt)

pieces-text : (t : ℕ) (ts : List ℕ) → pieces (tokens_text (t ∷ ts)) ≡ map token_text (t ∷ ts)
pieces-text t [] = slice_split_none is_comma (token_text t) (no_comma t)
pieces-text t (u ∷ us) = slice_split_at is_comma (token_text t) COMMA (tokens_text (u ∷ us)) (no_comma t) (eq-eqb COMMA COMMA refl) ∙ ap (λ (ps : List (List ℕ)). token_text t ∷ ps) (pieces-text u us)

all_read : (ts : List ℕ) → All IsToken ts → list_all (λ p. is_some (token_in p)) (map token_text ts) ≡ true
all_read [] h = refl
all_read (t ∷ ts) h = rw (token_in-text t (All-head IsToken t ts h)) (all_read ts (All-tail IsToken t ts h))

read_again : (ts : List ℕ) → All IsToken ts → filter_map token_in (map token_text ts) ≡ ts
read_again [] h = refl
read_again (t ∷ ts) h = rw (token_in-text t (All-head IsToken t ts h)) (ap (λ (us : List ℕ). t ∷ us) (read_again ts (All-tail IsToken t ts h)))

-- the text of tokens is read as them
tokens_of-text : (tokens : List ℕ) → AreTokens tokens → tokens_of (tokens_text tokens) ≡ Some tokens
tokens_of-text [] h = absurd (omega (arith, h.some))
tokens_of-text (t ∷ ts) h =
    let few = le-leb (length (map token_text (t ∷ ts))) TOKEN_COUNT_LIMIT (omega (arith, h.few, length-map (t ∷ ts) token_text)) in
    rw (pieces-text t ts) (rw (few, all_read (t ∷ ts) h.in_range, read_again (t ∷ ts) h.in_range, h.rise) refl)

-- so a text that can't be read is not the text of any tokens
pub text_unread : (text : List ℕ) → None ≡ tokens_of text → (tokens : List ℕ) → AreTokens tokens → text ≢ tokens_text tokens
text_unread text e tokens h is = let read = tokens_of-text tokens h in let lost : tokens_of (tokens_text tokens) ≡ None = rw (← is) (sym e) in absurd cc
