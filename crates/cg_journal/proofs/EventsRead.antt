-- The line written of an event is read as that event.
use Rattle.std.proofs.Common.{◌≡◌, ℕ, Bool, true, false, cond, not, List, [], ◌∷◌, ◌++◌, length, Option, Some, None, Ok, Err, Result, refl, sym, ap, ◌∙◌, append_assoc, append-nil, arith, decimal, eq-eqb, ne_eqb}
use Rattle.std.specs.Prelude.{◌==◌, nat_lt, bytes_eq, codes}
use Rattle.std.specs.List.{flat_map, AllByRecursion}
use Rattle.std.specs.Str.{is_utf8}
use Rattle.std.proofs.lemmas.Bool.{and_parts, le-ltb}
use Rattle.hex.specs.Hex.{decode_of, encode_lower, lower_digits}
use Rattle.hex.proofs.HexLemmas.{decode_of-encode_lower, length-encode_with}
use Rattle.hex.specs.declared.error.FromHexError.{FromHexError}
use Rattle.cg_types.specs.declared.fault.Fault.{Fault}
use Rattle.cg_types.specs.declared.fault.Fault.TheVariants.{TooLong, BadText}
use Rattle.cg_types.specs.declared.limits.TheConstants.{TEXT_LIMIT}
use Rattle.cg_types.specs.Numbers.{IsKey}
use Rattle.cg_types.specs.OptionSteps.{◌>>=◌}
use Rattle.cg_types.specs.Text.{plain, printable, IsStateText}
use Rattle.cg_types.specs.Words.{key_in}
use Rattle.cg_types.proofs.WordLemmas.{number_of-decimal}
use Rattle.cg_messages.specs.declared.message.Message.{Message}
use Rattle.cg_messages.specs.declared.message.Message.TheVariants as messages
use Rattle.cg_messages.specs.Messages.{IsMessage}
use Rattle.cg_core.specs.declared.event.Event.{Event}
use Rattle.cg_core.specs.declared.event.Event.TheVariants as event
use Rattle.cg_frames.specs.declared.layout.TheConstants.{WRITTEN, LAYOUTS}
use Rattle.cg_frames.specs.Layouts.{IsWritten}
use Rattle.cg_frames.specs.Spelling.{frame}
use Rattle.cg_frames.specs.Fits.{Fits}
use Rattle.cg_frames.specs.Choosing.{frame_among}
use Rattle.cg_frames.proofs.FitsLemmas.{message_fits}
use Rattle.cg_frames.proofs.LawLemmas.{frame_is_read_among, layouts_are}
use Rattle.cg_text.specs.Gives.{readable}
use Rattle.cg_text.specs.Words.{count_in, count_before, key_before, state_text_in, text_in, state_text_of_utf8}
use Rattle.cg_text.specs.Words.{four_in}
use Rattle.cg_journal.specs.Text.{text_digits, frame_digits, further_word, set_line, remove_line, tick_line, syn_line, ack_line, ack2_line, event_line}
use Rattle.cg_journal.specs.Reading.{whole_message, message_in, text_bytes_in, set_in, remove_in, tick_in, syn_in, ack_in, ack2_in, bare_event, event_behind, event_of_parts, event_in}
use Rattle.cg_journal.specs.Contents.{IsCount, AreWords, IsEvent}
use Rattle.cg_journal.proofs.WordsRead.{lacks, lacks-append, lacks-number, lacks-decimal, lacks-hex, cut_at-word, is_no_dash, key_in-decimal}
use Rattle.cg_journal.proofs.BytesRead.{bytes_of_small, plain_small, frame_bytes}
use Rattle.cg_journal.proofs.LinesRead.{ended}

-- ---- the line of an event, without its line feed

abbrev pub event_words : Event → List ℕ
event_words event.Beat = codes "beat"
event_words (event.Set key text) = codes "set" ++ 32 ∷ (decimal key ++ 32 ∷ text_digits text)
event_words (event.Remove key) = codes "remove" ++ 32 ∷ decimal key
event_words (event.Tick now words) = codes "tick" ++ 32 ∷ (decimal now ++ flat_map further_word words)
event_words event.Opening = codes "open"
event_words (event.Syn m) = codes "syn" ++ 32 ∷ frame_digits (messages.Syn m)
event_words (event.Ack now m) = codes "ack" ++ 32 ∷ (decimal now ++ 32 ∷ frame_digits (messages.Ack m))
event_words (event.Ack2 now m) = codes "ack2" ++ 32 ∷ (decimal now ++ 32 ∷ frame_digits (messages.Ack2 m))

pub event_line-ended : (e : Event) → event_line e ≡ ended (event_words e)
unfolding set_line remove_line tick_line syn_line ack_line ack2_line
event_line-ended event.Beat = refl
event_line-ended (event.Set key text) = ap (λ (l : List ℕ). codes "set " ++ l) (sym (append_assoc (decimal key) (32 ∷ text_digits text) (10 ∷ [])))
event_line-ended (event.Remove key) = refl
event_line-ended (event.Tick now words) = ap (λ (l : List ℕ). codes "tick " ++ l) (sym (append_assoc (decimal now) (flat_map further_word words) (10 ∷ [])))
event_line-ended event.Opening = refl
event_line-ended (event.Syn m) = refl
event_line-ended (event.Ack now m) = ap (λ (l : List ℕ). codes "ack " ++ l) (sym (append_assoc (decimal now) (32 ∷ frame_digits (messages.Ack m)) (10 ∷ [])))
event_line-ended (event.Ack2 now m) = ap (λ (l : List ℕ). codes "ack2 " ++ l) (sym (append_assoc (decimal now) (32 ∷ frame_digits (messages.Ack2 m)) (10 ∷ [])))

-- ---- words

count_in-decimal : (n : ℕ) → IsCount n → count_in (decimal n) ≡ Some n
unfolding count_in
count_in-decimal n is = number_of-decimal _ n (omega arith) (omega arith)

count_before-word : (n : ℕ) (rest : List ℕ) → IsCount n → count_before (decimal n ++ 32 ∷ rest) ≡ Some (n, rest)
unfolding count_before
count_before-word n rest is = rw (cut_at-word 32 (decimal n) rest (lacks-decimal 32 n refl is), count_in-decimal n is) refl

key_before-word : (n : ℕ) (rest : List ℕ) → IsKey n → key_before (decimal n ++ 32 ∷ rest) ≡ Some (n, rest)
unfolding key_before
key_before-word n rest is =
    ap (λ (o : Option (List ℕ × List ℕ)). o >>= λ parts. key_in parts.0 >>= λ key. Some (key, parts.1)) (cut_at-word 32 (decimal n) rest (lacks-decimal 32 n refl (omega (arith, is.1))))
    ∙ ap (λ (o : Option ℕ). o >>= λ key. Some (key, rest)) (key_in-decimal n is)

-- ---- texts

text_digits-lack : (c : ℕ) → not (0 == c) ≡ true → not (45 == c) ≡ true → lacks c lower_digits ≡ true → (text : List ℕ) → lacks c (text_digits text) ≡ true
text_digits-lack c some dash h [] = rw dash refl
text_digits-lack c some dash h (b ∷ bytes) = lacks-hex c some h (b ∷ bytes)

digits_read : (digits bytes : List ℕ) → bytes_eq digits (codes "-") ≡ false → (length digits == 0) ≡ false → decode_of digits ≡ Ok bytes → text_bytes_in digits ≡ Some bytes
unfolding text_bytes_in
digits_read digits bytes word some read =
    ap (λ (b : Bool). cond b (Some []) (cond (length digits == 0) None (readable (decode_of digits)))) word
    ∙ ap (λ (b : Bool). cond b None (readable (decode_of digits))) some
    ∙ ap (λ (r : Result (List ℕ) FromHexError). readable r) read

text_again : (text : List ℕ) → plain text ≡ true → text_bytes_in (text_digits text) ≡ Some text
unfolding text_bytes_in
text_again [] h = refl
text_again (b ∷ bytes) h =
    let text = b ∷ bytes in
    let digits = encode_lower text in
    let some : (length digits == 0) ≡ false = ne_eqb (length digits) 0 (omega (arith, length-encode_with lower_digits text)) in
    digits_read digits text (is_no_dash digits (lacks-hex 45 refl refl text)) some (decode_of-encode_lower text (bytes_of_small text (plain_small text h)))

state_text_again : (text : List ℕ) → IsStateText text → state_text_in text ≡ Ok text
unfolding state_text_in text_in
state_text_again text is =
    let utf8 : is_utf8 text ≡ true = (and_parts (is_utf8 text) (printable text) is.is_plain).0 in
    let short : nat_lt TEXT_LIMIT (length text) ≡ false = le-ltb TEXT_LIMIT (length text) is.fits in
    ap (λ (b : Bool). state_text_of_utf8 (cond b (Some text) None)) utf8
    ∙ ap (λ (b : Bool). cond b (Err TooLong) (cond (plain text) (Ok text) (Err BadText))) short
    ∙ ap (λ (b : Bool). cond {A = Result (List ℕ) Fault} b (Ok text) (Err BadText)) is.is_plain

set_again : (key : ℕ) (text : List ℕ) → IsKey key → IsStateText text → set_in (decimal key ++ 32 ∷ text_digits text) ≡ Some (event.Set key text)
unfolding set_in
set_again key text number is =
    ap (λ (o : Option (ℕ × List ℕ)). o >>= λ key. text_bytes_in key.1 >>= λ bytes. readable (state_text_in bytes) >>= λ text. Some (event.Set key.0 text)) (key_before-word key (text_digits text) number)
    ∙ ap (λ (o : Option (List ℕ)). o >>= λ bytes. readable (state_text_in bytes) >>= λ text. Some (event.Set key text)) (text_again text is.is_plain)
    ∙ ap (λ (r : Result (List ℕ) Fault). readable r >>= λ text. Some (event.Set key text)) (state_text_again text is)

remove_again : (key : ℕ) → IsKey key → remove_in (decimal key) ≡ Some (event.Remove key)
unfolding remove_in
remove_again key number = ap (λ (o : Option ℕ). o >>= λ key. Some (event.Remove key)) (key_in-decimal key number)

-- ---- ticks

abbrev four_text : ℕ → ℕ → ℕ → ℕ → List ℕ
four_text a b c d = decimal a ++ 32 ∷ (decimal b ++ 32 ∷ (decimal c ++ 32 ∷ decimal d))

words_text : (a b c d : ℕ) → flat_map further_word (a ∷ b ∷ c ∷ d ∷ []) ≡ 32 ∷ four_text a b c d
unfolding further_word
words_text a b c d =
    ap (λ (l : List ℕ). 32 ∷ (decimal a ++ 32 ∷ (decimal b ++ 32 ∷ (decimal c ++ 32 ∷ l)))) (append-nil (decimal d))

four_again : (a b c d : ℕ) → IsCount a → IsCount b → IsCount c → IsCount d → four_in (four_text a b c d) ≡ Some (a ∷ b ∷ c ∷ d ∷ [])
unfolding four_in
four_again a b c d p q r s =
    rw (count_before-word a (decimal b ++ 32 ∷ (decimal c ++ 32 ∷ decimal d)) p, count_before-word b (decimal c ++ 32 ∷ decimal d) q, count_before-word c (decimal d) r, count_in-decimal d s) refl

tick_by : (now : ℕ) (behind text words : List ℕ) → IsCount now → behind ≡ 32 ∷ text → four_in text ≡ Some words → tick_in (decimal now ++ behind) ≡ Some (event.Tick now words)
unfolding tick_in
tick_by now behind text words is spelled read =
    ap (λ (l : List ℕ). count_before (decimal now ++ l) >>= λ now. four_in now.1 >>= λ random. Some (event.Tick now.0 random)) spelled
    ∙ ap (λ (o : Option (ℕ × List ℕ)). o >>= λ now. four_in now.1 >>= λ random. Some (event.Tick now.0 random)) (count_before-word now text is)
    ∙ ap (λ (o : Option (List ℕ)). o >>= λ random. Some (event.Tick now random)) read

tick_again : (now : ℕ) (words : List ℕ) → IsCount now → AreWords words → tick_in (decimal now ++ flat_map further_word words) ≡ Some (event.Tick now words)
tick_again now [] is are = absurd (omega (arith, are.four))
tick_again now (a ∷ []) is are = absurd (omega (arith, are.four))
tick_again now (a ∷ b ∷ []) is are = absurd (omega (arith, are.four))
tick_again now (a ∷ b ∷ c ∷ []) is are = absurd (omega (arith, are.four))
tick_again now (a ∷ b ∷ c ∷ d ∷ []) is are =
    tick_by now (flat_map further_word (a ∷ b ∷ c ∷ d ∷ [])) (four_text a b c d) (a ∷ b ∷ c ∷ d ∷ []) is (words_text a b c d) (four_again a b c d are.counts.0 are.counts.1.0 are.counts.1.1.0 are.counts.1.1.1.0)
tick_again now (a ∷ b ∷ c ∷ d ∷ e ∷ rest) is are = absurd (omega (arith, are.four))

-- ---- messages

written : IsWritten WRITTEN
written = record { members = omega arith; text = omega arith; tombstones = refl }

message_again : (m : Message) → IsMessage m → message_in (frame_digits m) ≡ Some m
unfolding message_in
message_again m is =
    let fits : Fits WRITTEN m = message_fits WRITTEN written m is in
    let bytes = frame WRITTEN m in
    let found : frame_among LAYOUTS bytes ≡ Ok (Some (m, length bytes)) = ap (frame_among LAYOUTS) (sym (append-nil bytes)) ∙ frame_is_read_among LAYOUTS layouts_are.each WRITTEN refl m [] fits in
    let small = frame_bytes WRITTEN (omega arith) m fits in
    ap (λ (r : Result (List ℕ) FromHexError). readable r >>= λ bytes. whole_message bytes (frame_among LAYOUTS bytes)) (decode_of-encode_lower bytes small)
    ∙ ap (whole_message bytes) found
    ∙ ap (λ (b : Bool). cond b (Some m) None) (eq-eqb (length bytes) (length bytes) refl)

frame_digits-lack : (c : ℕ) → not (0 == c) ≡ true → lacks c lower_digits ≡ true → (m : Message) → lacks c (frame_digits m) ≡ true
frame_digits-lack c some h m = lacks-hex c some h (frame WRITTEN m)

-- ---- events

behind_word : (word rest : List ℕ) → lacks 32 word ≡ true → event_in (word ++ 32 ∷ rest) ≡ event_behind word rest
unfolding event_in
behind_word word rest h = ap (event_of_parts (word ++ 32 ∷ rest)) (cut_at-word 32 word rest h)

pub event_again : (e : Event) → IsEvent e → event_in (event_words e) ≡ Some e
unfolding event_in bare_event event_behind syn_in ack_in ack2_in
event_again event.Beat is = refl
event_again (event.Set key text) is = behind_word (codes "set") (decimal key ++ 32 ∷ text_digits text) refl ∙ set_again key text is.0 is.1
event_again (event.Remove key) is = behind_word (codes "remove") (decimal key) refl ∙ remove_again key is
event_again (event.Tick now words) is = behind_word (codes "tick") (decimal now ++ flat_map further_word words) refl ∙ tick_again now words is.0 is.1
event_again event.Opening is = refl
event_again (event.Syn m) is = behind_word (codes "syn") (frame_digits (messages.Syn m)) refl ∙ rw (message_again (messages.Syn m) is) refl
event_again (event.Ack now m) is =
    behind_word (codes "ack") (decimal now ++ 32 ∷ frame_digits (messages.Ack m)) refl
    ∙ rw (count_before-word now (frame_digits (messages.Ack m)) is.0, message_again (messages.Ack m) is.1) refl
event_again (event.Ack2 now m) is =
    behind_word (codes "ack2") (decimal now ++ 32 ∷ frame_digits (messages.Ack2 m)) refl
    ∙ rw (count_before-word now (frame_digits (messages.Ack2 m)) is.0, message_again (messages.Ack2 m) is.1) refl

-- ---- no line feed is in them

words-lack : (words : List ℕ) → AllByRecursion IsCount words → lacks 10 (flat_map further_word words) ≡ true
unfolding further_word
words-lack [] all = refl
words-lack (w ∷ words) all = lacks-append 10 (decimal w) (flat_map further_word words) (lacks-decimal 10 w refl all.0) (words-lack words all.1)

pub event_words-lack : (e : Event) → IsEvent e → lacks 10 (event_words e) ≡ true
event_words-lack event.Beat is = refl
event_words-lack (event.Set key text) is = lacks-number 10 key 32 (text_digits text) refl refl (omega (arith, is.0.1)) (text_digits-lack 10 refl refl refl text)
event_words-lack (event.Remove key) is = lacks-decimal 10 key refl (omega (arith, is.1))
event_words-lack (event.Tick now words) is = lacks-append 10 (decimal now) (flat_map further_word words) (lacks-decimal 10 now refl is.0) (words-lack words is.1.counts)
event_words-lack event.Opening is = refl
event_words-lack (event.Syn m) is = frame_digits-lack 10 refl refl (messages.Syn m)
event_words-lack (event.Ack now m) is = lacks-number 10 now 32 (frame_digits (messages.Ack m)) refl refl is.0 (frame_digits-lack 10 refl refl (messages.Ack m))
event_words-lack (event.Ack2 now m) is = lacks-number 10 now 32 (frame_digits (messages.Ack2 m)) refl refl is.0 (frame_digits-lack 10 refl refl (messages.Ack2 m))
