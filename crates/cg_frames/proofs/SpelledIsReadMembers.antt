-- A request and a state that are spelled so are read, whatever follows.
use Rattle.std.proofs.Common.{◌≡◌, ℕ, ◌<◌, ◌≤◌, true, false, List, ◌∷◌, ◌++◌, length, Option, Some, None, Ok, refl, ap, ◌∙◌, append_assoc, arith}
use Rattle.std.specs.Prelude.{nat_lt, ◌==◌}
use Rattle.std.proofs.lemmas.Bool.{le-ltb, lt-ltb, ne_eqb}
use Rattle.cg_types.specs.declared.fault.Cause.{Cause}
use Rattle.cg_types.specs.declared.limits.TheConstants.{STATE_LIMIT, NUMBER_LIMIT}
use Rattle.cg_types.specs.Rising.{is_past}
use Rattle.cg_entry.specs.declared.state.State.{State}
use Rattle.cg_entry.specs.State.{pair}
use Rattle.cg_messages.specs.Values.{RequestValue}
use Rattle.cg_frames.specs.declared.layout.Layout.{Layout}
use Rattle.cg_entry.specs.declared.spelled.TheConstants.{TOMBSTONE}
use Rattle.cg_types.specs.ResultSteps.{◌>>=◌}
use Rattle.cg_frames.specs.Fields.{Field, held_at, key_from, key_at, version_above_at, value_at}
use Rattle.cg_frames.specs.Lists.{request_at, state_at}
use Rattle.cg_entry.specs.Section.{two_bytes, four_bytes, text, value, state}
use Rattle.cg_frames.specs.Spelling.{endpoint, request}
use Rattle.cg_messages.specs.Contents.{IsRequest}
use Rattle.cg_frames.proofs.FitsFields.{FitsValue, FitsState}
use Rattle.cg_types.specs.declared.fault.Cause.TheVariants as causes
use Rattle.cg_frames.proofs.SpelledIsReadLemmas.{bytes_again, byte_again, two_again, four_again, ranged_again, endpoint_again}

pub held_again : (cause : Cause) (n : ℕ) (rest : List ℕ) → n < NUMBER_LIMIT → held_at cause (four_bytes n ++ rest) ≡ Ok (n, rest)
held_again cause n rest lt =
    let low : nat_lt n 0 ≡ false = le-ltb n 0 (omega arith) in
    let high : nat_lt n NUMBER_LIMIT ≡ true = lt-ltb n NUMBER_LIMIT lt in
    rw (four_again n rest (omega arith), low, high) refl

pub request_again : (last : Option ℕ) (r : RequestValue) (rest : List ℕ) → IsRequest r → is_past last r.endpoint ≡ true → request_at last (request r ++ rest) ≡ Ok (r, rest)
unfolding request_at
request_again last r rest fits past =
    let regrouped : request r ++ rest ≡ endpoint r.endpoint ++ (four_bytes r.generation ++ (four_bytes r.version ++ rest)) = simp append_assoc in
    ap (request_at last) regrouped
    ∙ rw (endpoint_again last r.endpoint (four_bytes r.generation ++ (four_bytes r.version ++ rest)) fits.endpoint past, ranged_again causes.Generation r.generation (four_bytes r.version ++ rest) fits.generation.0 fits.generation.1, held_again causes.Version r.version rest fits.version) refl

value_again : (layout : Layout) (o : Option (List ℕ)) (rest : List ℕ) → FitsValue layout o → layout.text < TOMBSTONE → value_at layout (value o ++ rest) ≡ Ok (o, rest)
unfolding value_at
value_again layout (Some t) rest fits wide =
    let regrouped : text t ++ rest ≡ two_bytes (length t) ++ (t ++ rest) = append_assoc (two_bytes (length t)) t rest in
    let short : length t ≤ layout.text = fits.1 in
    let low : nat_lt layout.text (length t) ≡ false = le-ltb layout.text (length t) short in
    ap (value_at layout) regrouped
    ∙ rw (two_again (length t) (t ++ rest) (omega arith), low, bytes_again (length t) t rest refl, fits.0) refl
value_again layout None rest fits wide = rw (two_again TOMBSTONE rest (omega arith), lt-ltb layout.text TOMBSTONE wide, fits) refl

key_again : (last : Option ℕ) (key : ℕ) (rest : List ℕ) → 0 < key → key ≤ STATE_LIMIT → is_past last key ≡ true → key_at last (key ∷ rest) ≡ Ok (key, rest)
key_again last key rest some le past =
    let zero : (key == 0) ≡ false = ne_eqb key 0 (omega arith) in
    let high : nat_lt STATE_LIMIT key ≡ false = le-ltb STATE_LIMIT key le in
    let chosen : key_from last (key ∷ rest) key rest ≡ Ok (key, rest) = rw (zero, high, past) refl in
    ap (λ (r : Field ℕ). r >>= λ k. key_from last (key ∷ rest) k.0 k.1) (byte_again key rest) ∙ chosen

pub state_again : (layout : Layout) (above : ℕ) → layout.text < TOMBSTONE → (last : Option ℕ) (s : State) (rest : List ℕ) → FitsState layout above (pair s) → is_past last s.key ≡ true → state_at layout above last (state (pair s) ++ rest) ≡ Ok (s, rest)
unfolding state_at
state_again layout above wide last s rest fits past =
    let behind_key = four_bytes s.version ++ (value s.text ++ rest) in
    let regrouped : state (pair s) ++ rest ≡ s.key ∷ behind_key = ap (λ (ys : List ℕ). s.key ∷ ys) (append_assoc (four_bytes s.version) (value s.text) rest) in
    let newer : nat_lt above s.version ≡ true = lt-ltb above s.version fits.newer in
    ap (state_at layout above last) regrouped
    ∙ ap (λ (r : Field ℕ). r >>= λ k. version_above_at above k.1 >>= λ v. value_at layout v.1 >>= λ t. Ok (record { key = k.0; version = v.0; text = t.0 }, t.1)) (key_again last s.key behind_key fits.key.0 fits.key.1 past)
    ∙ rw (ranged_again causes.Version s.version (value s.text ++ rest) fits.version.0 fits.version.1, newer, value_again layout s.text rest fits.value wide) refl
