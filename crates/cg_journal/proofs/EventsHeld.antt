-- A line is read as an event with values that its types allow.
use Rattle.std.proofs.Common.{◌≡◌, ℕ, ◌≤◌, ◌^◌, Bool, true, false, cond, List, [], ◌∷◌, length, Option, Some, None, Ok, Err, Result, IfSome, refl, arith, decimal, ◌-◌}
use Rattle.std.specs.Prelude.{◌==◌, nat_lt, bytes_eq, codes}
use Rattle.std.specs.Str.{is_utf8}
use Rattle.std.proofs.lemmas.Bool.{ltb-false}
use Rattle.hex.specs.Hex.{decode_of, IsBytes}
use Rattle.hex.proofs.HexLemmas.{decode_of-ok}
use Rattle.hex.specs.declared.error.FromHexError.{FromHexError}
use Rattle.cg_types.specs.declared.fault.Fault.{Fault}
use Rattle.cg_types.specs.declared.fault.Fault.TheVariants.{TooLong, BadText}
use Rattle.cg_types.specs.declared.limits.TheConstants.{TEXT_LIMIT, STATE_LIMIT}
use Rattle.cg_types.specs.Numbers.{IsKey}
use Rattle.cg_types.specs.OptionSteps.{◌>>=◌}
use Rattle.cg_types.specs.Text.{plain, IsStateText}
use Rattle.cg_types.specs.Words.{cut_at, number_of, key_in}
use Rattle.cg_types.proofs.WordLemmas.{numbers_found, between_found}
use Rattle.cg_messages.specs.declared.message.Message.{Message}
use Rattle.cg_messages.specs.declared.message.Message.TheVariants as messages
use Rattle.cg_messages.specs.Messages.{IsMessage}
use Rattle.cg_core.specs.declared.event.Event.TheVariants as event
use Rattle.cg_frames.specs.declared.layout.TheConstants.{LAYOUTS}
use Rattle.cg_frames.specs.Choosing.{frame_among}
use Rattle.cg_frames.proofs.LawLemmas.{layouts_are_read}
use Rattle.cg_frames.proofs.ReadIsSpelledFrames.{all_found}
use Rattle.cg_engine.specs.Expected.{expected_syn, expected_ack, expected_ack2}
use Rattle.cg_text.specs.Gives.{readable}
use Rattle.cg_text.specs.Words.{count_in, count_before, key_before, state_text_in, text_in, state_text_of_utf8}
use Rattle.cg_text.specs.Words.{four_in}
use Rattle.cg_journal.specs.Reading.{whole_message, message_in, text_bytes_in, set_in, remove_in, tick_in, syn_in, ack_in, ack2_in, bare_event, event_behind, event_of_parts, event_in}
use Rattle.cg_journal.specs.Contents.{IsCount, AreWords, IsEvent}

-- ---- a property of each value of a step holds of the step's result

pub held_bind : {A B : Type 0} (P : A → Type 0) (Q : B → Type 0) (o : Option A) (f : A → Option B) → IfSome o P → ((a : A) → P a → IfSome (f a) Q) → IfSome (o >>= f) Q
held_bind P Q None f is go = tt
held_bind P Q (Some a) f is go = go a is

pub held_cond : {A : Type 0} (Q : A → Type 0) (b : Bool) (x y : Option A) → IfSome x Q → IfSome y Q → IfSome (cond b x y) Q
held_cond Q true x y p q = p
held_cond Q false x y p q = q

pub held_weaker : {A : Type 0} (P Q : A → Type 0) (o : Option A) → ((a : A) → P a → Q a) → IfSome o P → IfSome o Q
held_weaker P Q None go is = tt
held_weaker P Q (Some a) go is = go a is

pub held_any : {A : Type 0} (o : Option A) → IfSome o (λ _. Unit)
held_any None = tt
held_any (Some a) = tt

-- ---- words

abbrev Parts : Type 0
Parts = List ℕ × List ℕ

count_held : (text : List ℕ) → IfSome (count_in text) IsCount
unfolding count_in
count_held text =
    let most = 2 ^ 64 - 1 in
    held_weaker (λ (n : ℕ). (text ≡ decimal n) × (n ≤ most)) IsCount (number_of most text) (λ n is. omega (arith, is.1)) (numbers_found most text (number_of most text) (omega arith) refl)

count_before-held : (words : List ℕ) → IfSome (count_before words) (λ p. IsCount p.0)
unfolding count_before
count_before-held words =
    let Q : ℕ × List ℕ → Type 0 = λ p. IsCount p.0 in
    held_bind (λ (_ : Parts). Unit) Q (cut_at 32 words) (λ parts. count_in parts.0 >>= λ n. Some (n, parts.1)) (held_any (cut_at 32 words))
    (λ parts _. held_bind IsCount Q (count_in parts.0) (λ n. Some (n, parts.1)) (count_held parts.0) (λ n is. is))

key_held : (text : List ℕ) → IfSome (key_in text) IsKey
key_held text =
    held_weaker (λ (n : ℕ). (text ≡ decimal n) × (1 ≤ n) × (n ≤ STATE_LIMIT)) IsKey (key_in text) (λ n is. (omega (arith, is.1), is.2)) (between_found 1 STATE_LIMIT text (key_in text) (omega arith) refl)

key_before-held : (words : List ℕ) → IfSome (key_before words) (λ p. IsKey p.0)
unfolding key_before
key_before-held words =
    let Q : ℕ × List ℕ → Type 0 = λ p. IsKey p.0 in
    held_bind (λ (_ : Parts). Unit) Q (cut_at 32 words) (λ parts. key_in parts.0 >>= λ key. Some (key, parts.1)) (held_any (cut_at 32 words))
    (λ parts _. held_bind IsKey Q (key_in parts.0) (λ key. Some (key, parts.1)) (key_held parts.0) (λ n is. is))

four_held : (words : List ℕ) → IfSome (four_in words) AreWords
unfolding four_in
four_held words =
    let P : ℕ × List ℕ → Type 0 = λ p. IsCount p.0 in
    held_bind P AreWords (count_before words) (λ a. count_before a.1 >>= λ b. count_before b.1 >>= λ c. count_in c.1 >>= λ d. Some (a.0 ∷ b.0 ∷ c.0 ∷ d ∷ [])) (count_before-held words)
    (λ a p. held_bind P AreWords (count_before a.1) (λ b. count_before b.1 >>= λ c. count_in c.1 >>= λ d. Some (a.0 ∷ b.0 ∷ c.0 ∷ d ∷ [])) (count_before-held a.1)
    (λ b q. held_bind P AreWords (count_before b.1) (λ c. count_in c.1 >>= λ d. Some (a.0 ∷ b.0 ∷ c.0 ∷ d ∷ [])) (count_before-held b.1)
    (λ c r. held_bind IsCount AreWords (count_in c.1) (λ d. Some (a.0 ∷ b.0 ∷ c.0 ∷ d ∷ [])) (count_held c.1)
    (λ d s. record { four = omega arith; counts = (p, (q, (r, (s, tt)))) }))))

-- ---- texts

text_by : (text : List ℕ) (long is_plain : Bool) → nat_lt TEXT_LIMIT (length text) ≡ long → plain text ≡ is_plain
    → IfSome (readable (cond {A = Result (List ℕ) Fault} long (Err TooLong) (cond is_plain (Ok text) (Err BadText)))) IsStateText
text_by text true is_plain p q = tt
text_by text false false p q = tt
text_by text false true p q = record { is_plain = q; fits = ltb-false TEXT_LIMIT (length text) p }

utf8_by : (text : List ℕ) (utf8 : Bool) → IfSome (readable (state_text_of_utf8 (cond utf8 (Some text) None))) IsStateText
utf8_by text true = text_by text (nat_lt TEXT_LIMIT (length text)) (plain text) refl refl
utf8_by text false = tt

state_text-held : (bytes : List ℕ) → IfSome (readable (state_text_in bytes)) IsStateText
unfolding state_text_in text_in
state_text-held bytes = utf8_by bytes (is_utf8 bytes)

-- ---- messages

whole_by : (bytes : List ℕ) (r : Result (Option (Message × ℕ)) Fault) → IsBytes bytes → frame_among LAYOUTS bytes ≡ r → IfSome (whole_message bytes r) IsMessage
whole_by bytes (Ok None) small is = tt
whole_by bytes (Ok (Some m)) small is =
    let found = all_found LAYOUTS layouts_are_read bytes (Ok (Some m)) small is in
    held_cond IsMessage (m.1 == length bytes) (Some m.0) None found.2.fits.is tt
whole_by bytes (Err fault) small is = tt

message_by : (digits : List ℕ) (r : Result (List ℕ) FromHexError) → decode_of digits ≡ r
    → IfSome (readable r >>= λ bytes. whole_message bytes (frame_among LAYOUTS bytes)) IsMessage
message_by digits (Ok bytes) is = whole_by bytes (frame_among LAYOUTS bytes) (decode_of-ok digits bytes is).3 refl
message_by digits (Err e) is = tt

message_held : (digits : List ℕ) → IfSome (message_in digits) IsMessage
unfolding message_in
message_held digits = message_by digits (decode_of digits) refl

syn_of : (m : Message) → IsMessage m → IfSome (readable (expected_syn m) >>= λ syn. Some (event.Syn syn)) IsEvent
syn_of (messages.Syn m) is = is
syn_of (messages.Ack m) is = tt
syn_of (messages.Ack2 m) is = tt

ack_of : (now : ℕ) (m : Message) → IsCount now → IsMessage m → IfSome (readable (expected_ack m) >>= λ ack. Some (event.Ack now ack)) IsEvent
ack_of now (messages.Syn m) count is = tt
ack_of now (messages.Ack m) count is = (count, is)
ack_of now (messages.Ack2 m) count is = tt

ack2_of : (now : ℕ) (m : Message) → IsCount now → IsMessage m → IfSome (readable (expected_ack2 m) >>= λ ack2. Some (event.Ack2 now ack2)) IsEvent
ack2_of now (messages.Syn m) count is = tt
ack2_of now (messages.Ack m) count is = tt
ack2_of now (messages.Ack2 m) count is = (count, is)

-- ---- events

set_held : (words : List ℕ) → IfSome (set_in words) IsEvent
unfolding set_in
set_held words =
    held_bind (λ (p : ℕ × List ℕ). IsKey p.0) IsEvent (key_before words) (λ key. text_bytes_in key.1 >>= λ bytes. readable (state_text_in bytes) >>= λ text. Some (event.Set key.0 text)) (key_before-held words)
    (λ key p. held_bind (λ (_ : List ℕ). Unit) IsEvent (text_bytes_in key.1) (λ bytes. readable (state_text_in bytes) >>= λ text. Some (event.Set key.0 text)) (held_any (text_bytes_in key.1))
    (λ bytes _. held_bind IsStateText IsEvent (readable (state_text_in bytes)) (λ text. Some (event.Set key.0 text)) (state_text-held bytes) (λ text q. (p, q))))

remove_held : (words : List ℕ) → IfSome (remove_in words) IsEvent
unfolding remove_in
remove_held words = held_bind IsKey IsEvent (key_in words) (λ key. Some (event.Remove key)) (key_held words) (λ key p. p)

tick_held : (words : List ℕ) → IfSome (tick_in words) IsEvent
unfolding tick_in
tick_held words =
    held_bind (λ (p : ℕ × List ℕ). IsCount p.0) IsEvent (count_before words) (λ now. four_in now.1 >>= λ random. Some (event.Tick now.0 random)) (count_before-held words)
    (λ now p. held_bind AreWords IsEvent (four_in now.1) (λ random. Some (event.Tick now.0 random)) (four_held now.1) (λ random q. (p, q)))

syn_held : (words : List ℕ) → IfSome (syn_in words) IsEvent
unfolding syn_in
syn_held words = held_bind IsMessage IsEvent (message_in words) (λ m. readable (expected_syn m) >>= λ syn. Some (event.Syn syn)) (message_held words) syn_of

ack_held : (words : List ℕ) → IfSome (ack_in words) IsEvent
unfolding ack_in
ack_held words =
    held_bind (λ (p : ℕ × List ℕ). IsCount p.0) IsEvent (count_before words) (λ now. message_in now.1 >>= λ m. readable (expected_ack m) >>= λ ack. Some (event.Ack now.0 ack)) (count_before-held words)
    (λ now p. held_bind IsMessage IsEvent (message_in now.1) (λ m. readable (expected_ack m) >>= λ ack. Some (event.Ack now.0 ack)) (message_held now.1) (λ m q. ack_of now.0 m p q))

ack2_held : (words : List ℕ) → IfSome (ack2_in words) IsEvent
unfolding ack2_in
ack2_held words =
    held_bind (λ (p : ℕ × List ℕ). IsCount p.0) IsEvent (count_before words) (λ now. message_in now.1 >>= λ m. readable (expected_ack2 m) >>= λ ack2. Some (event.Ack2 now.0 ack2)) (count_before-held words)
    (λ now p. held_bind IsMessage IsEvent (message_in now.1) (λ m. readable (expected_ack2 m) >>= λ ack2. Some (event.Ack2 now.0 ack2)) (message_held now.1) (λ m q. ack2_of now.0 m p q))

bare_held : (line : List ℕ) → IfSome (bare_event line) IsEvent
unfolding bare_event
bare_held line =
    held_cond IsEvent (bytes_eq line (codes "beat")) (Some event.Beat) (cond (bytes_eq line (codes "open")) (Some event.Opening) None) tt
    (held_cond IsEvent (bytes_eq line (codes "open")) (Some event.Opening) None tt tt)

behind_held : (word words : List ℕ) → IfSome (event_behind word words) IsEvent
unfolding event_behind
behind_held word words =
    held_cond IsEvent (bytes_eq word (codes "set")) (set_in words) _ (set_held words)
    (held_cond IsEvent (bytes_eq word (codes "remove")) (remove_in words) _ (remove_held words)
    (held_cond IsEvent (bytes_eq word (codes "tick")) (tick_in words) _ (tick_held words)
    (held_cond IsEvent (bytes_eq word (codes "syn")) (syn_in words) _ (syn_held words)
    (held_cond IsEvent (bytes_eq word (codes "ack")) (ack_in words) _ (ack_held words)
    (held_cond IsEvent (bytes_eq word (codes "ack2")) (ack2_in words) None (ack2_held words) tt)))))

parts_held : (line : List ℕ) (parts : Option Parts) → IfSome (event_of_parts line parts) IsEvent
parts_held line None = bare_held line
parts_held line (Some p) = behind_held p.0 p.1

pub event_held : (line : List ℕ) → IfSome (event_in line) IsEvent
unfolding event_in
event_held line = parts_held line (cut_at 32 line)
