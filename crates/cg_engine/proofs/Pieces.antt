-- Chunks of one message.
use Rattle.std.proofs.Common.{◌≡◌, ℕ, ◌+◌, ◌<◌, ◌≤◌, List, [], ◌∷◌, ◌++◌, length, take, drop, Option, None, Some, Result, Ok, Err, refl, sym, ap, ◌∙◌, subst, inl, inr, arith, append-nil, length-append, length-drop}
use Rattle.std.specs.Prelude.{◌⊎◌, IsOk, IsErr, IfSome, map}
use Rattle.std.specs.Option.{option_to_list}
use Rattle.std.specs.Io.KnownBytes.{Consumes}
use Rattle.std.proofs.KnownBytes.{Consumes-trans}
use Rattle.std.proofs.lemmas.Bool.{cases_lt}
use Rattle.std.proofs.lemmas.List.{length-take-le}
use Rattle.std.specs.List.{flat_map, AllByRecursion}
use Rattle.cg_types.specs.declared.fault.Fault.{Fault}
use Rattle.cg_types.specs.declared.fault.Fault.TheVariants as fault
use Rattle.cg_messages.specs.declared.message.Message.{Message}
use Rattle.cg_frames.specs.declared.layout.Layout.{Layout}
use Rattle.cg_frames.specs.declared.layout.TheConstants.{WRITTEN, LAYOUTS}
use Rattle.cg_frames.specs.Choosing.{expected_layout, frame_among, NeedsMore}
use Rattle.cg_frames.specs.Reading.{size_of, frame_at, with_size}
use Rattle.cg_frames.specs.Feeding.{Standing, SplitsFrom, HasAtMostOne, IsSpellable, fault_standing, lack_of, spelling, wants_of}
use Rattle.cg_frames.proofs.ChoosingLemmas.{due_all}
use Rattle.cg_frames.proofs.FrontLemmas.{over_is, whole_is}
use Rattle.cg_engine.specs.declared.receiving.TheConstants.{MOST_TURNS, PIECE_LIMIT}
use Rattle.cg_frames.specs.Faults.{IsBadFrame}
use Rattle.cg_links.specs.declared.counted.Counted.{Counted}
use Rattle.cg_links.specs.Counted.{KeepsCounts}
use Rattle.cg_links.proofs.Counts.{KeepsCounts-trans}
use Rattle.cg_engine.specs.Received.{IsSpelledBy, IsNextPiece, held_of, FailsToReceive}

-- ---- the results of a chunk

-- If no message is whole, the rest is all bytes.
whole_of_none : (bytes rest : List ℕ) (spelled : List (Layout × Message)) → [] ≡ map (λ s. s.1) spelled → bytes ≡ flat_map spelling spelled ++ rest → bytes ≡ rest
whole_of_none bytes rest [] none whole = whole
whole_of_none bytes rest (s ∷ ss) none whole = absurd cc

-- If no message was whole and there was no fault, all bytes are held.
pub all_held : (s t : Standing) (piece : List ℕ) → IsOk s → SplitsFrom LAYOUTS s piece (record { messages = []; rest = t }) → fault_standing t ≡ None
    → (t ≡ Ok (held_of s ++ piece)) × NeedsMore LAYOUTS (held_of s ++ piece)
all_held (Err f) t piece sound splits none = absurd cc
all_held (Ok held) (Err f) piece sound splits none = absurd cc
all_held (Ok held) (Ok now) piece sound splits none =
    let same : held ++ piece ≡ now = whole_of_none _ _ _ splits.messages splits.whole ∙ splits.stands.0 in
    (ap Ok (sym same), subst (NeedsMore LAYOUTS) (sym same) splits.stands.1)

one_of : (bytes rest : List ℕ) (m : Message) (spelled : List (Layout × Message)) → m ∷ [] ≡ map (λ s. s.1) spelled → bytes ≡ flat_map spelling spelled ++ rest → rest ≡ []
    → AllByRecursion (IsSpellable LAYOUTS) spelled → IsSpelledBy bytes m
one_of bytes rest m [] one whole none fit = absurd cc
one_of bytes rest m (s ∷ []) one whole none fit =
    let same : m ≡ s.1 = cc in
    subst (IsSpelledBy bytes) (sym same) (record {
      layout = s.0;
      allowed = fit.0;
      spelled = whole ∙ ap (λ (l : List ℕ). (spelling s ++ []) ++ l) none ∙ append-nil (spelling s ++ []) ∙ append-nil (spelling s);
    })
one_of bytes rest m (s ∷ t ∷ ss) one whole none fit = absurd cc

-- One message was whole, and nothing is held after it.
pub one_whole : (s t : Standing) (piece : List ℕ) (m : Message) → IsOk s → SplitsFrom LAYOUTS s piece (record { messages = m ∷ []; rest = t }) → t ≡ Ok []
    → IsSpelledBy (held_of s ++ piece) m
one_whole (Err f) t piece m sound splits none = absurd cc
one_whole (Ok held) (Err f) piece m sound splits none = absurd cc
one_whole (Ok held) (Ok now) piece m sound splits none =
    let nothing : now ≡ [] = cc in
    one_of _ _ m _ splits.messages splits.whole (splits.stands.0 ∙ nothing) splits.fit

-- The message taken off the end of the list is the one that was whole.
pub popped : (s t : Standing) (piece : List ℕ) (ms rest : List Message) (o : Option Message) → IsOk s → SplitsFrom LAYOUTS s piece (record { messages = ms; rest = t }) → HasAtMostOne ms t
    → ms ≡ rest ++ option_to_list o → IfSome o (IsSpelledBy (held_of s ++ piece))
popped s t piece ms rest None sound splits few is = tt
popped s t piece [] [] (Some m) sound splits few is = absurd cc
popped s t piece [] (r ∷ rs) (Some m) sound splits few is = absurd cc
popped s t piece (x ∷ []) [] (Some m) sound splits few is =
    let same : x ≡ m = cc in
    subst (IsSpelledBy (held_of s ++ piece)) same (one_whole s t piece x sound splits few)
popped s t piece (x ∷ []) (r ∷ []) (Some m) sound splits few is = absurd cc
popped s t piece (x ∷ []) (r ∷ q ∷ rs) (Some m) sound splits few is = absurd cc
popped s t piece (x ∷ (y ∷ ms)) rest (Some m) sound splits few is = absurd few

-- A fault with no message before it is the fault of the bytes.
pub fault_found : (s t : Standing) (piece : List ℕ) (f : Fault) → IsOk s → SplitsFrom LAYOUTS s piece (record { messages = []; rest = t }) → fault_standing t ≡ Some f
    → frame_among LAYOUTS (held_of s ++ piece) ≡ Err f
fault_found (Err f) t piece g sound splits is = absurd cc
fault_found (Ok held) (Ok now) piece g sound splits is = absurd cc
fault_found (Ok held) (Err f) piece g sound splits is =
    let same : f ≡ g = cc in
    ap (frame_among LAYOUTS) (whole_of_none _ _ _ splits.messages splits.whole) ∙ splits.stands ∙ ap Err same

-- No message comes before a fault if there is at most one.
pub none_before : (ms : List Message) (t : Standing) (f : Fault) → HasAtMostOne ms t → fault_standing t ≡ Some f → ms ≡ []
none_before [] t f few is = refl
none_before (m ∷ []) (Ok held) f few is = absurd cc
none_before (m ∷ []) (Err g) f few is = absurd cc
none_before (m ∷ (n ∷ ms)) t f few is = absurd few

-- ---- the number of bytes before a message is whole

with_size_none : (n : ℕ) (r : Result Message Fault) → with_size n r ≡ Ok None → ⊥
with_size_none n (Ok x) e = cc
with_size_none n (Err f) e = cc

refused : (f : Fault) (r : Result (Option (Message × ℕ)) Fault) → r ≡ Err f → r ≡ Ok None → ⊥
refused f r e none = cc

partial_in : (layout : Layout) (bytes : List ℕ) → frame_at layout bytes ≡ Ok None → length bytes < 4 + layout.length
partial_in layout bytes partial = elim (cases_lt (length bytes) 4) [
  | inl few ↦ omega arith
  | inr long ↦ elim (cases_lt layout.length (size_of bytes)) [
    | inl high ↦ absurd (refused _ _ (over_is layout bytes long high) partial)
    | inr low ↦ elim (cases_lt (length (drop 4 bytes)) (size_of bytes)) [
      | inl few ↦ omega (arith, length-drop 4 bytes)
      | inr enough ↦ absurd (with_size_none _ _ (sym (whole_is layout bytes long low enough) ∙ partial))
    ]
  ]
]

due_is_short : (bytes : List ℕ) → (expected_layout LAYOUTS bytes).length ≤ WRITTEN.length
due_is_short bytes = due_all (λ l. l.length ≤ WRITTEN.length) LAYOUTS bytes (omega arith) (omega arith, (omega arith, (omega arith, tt)))

pub partial_is_short : (bytes : List ℕ) → NeedsMore LAYOUTS bytes → length bytes < MOST_TURNS
partial_is_short bytes partial = omega (arith, partial_in (expected_layout LAYOUTS bytes) bytes partial, due_is_short bytes)

-- the bytes that a read gave are the next chunk
pub next_piece : (s : Standing) (n : ℕ) (came rest : List ℕ) → s ≡ Ok (held_of s) → NeedsMore LAYOUTS (held_of s) → 0 < n → n ≤ length came → length came ≤ wants_of s → length came ≤ PIECE_LIMIT
    → IsNextPiece (held_of s) (take n (came ++ rest))
next_piece s n came rest sound partial some within fits few =
    let long : length (take n (came ++ rest)) ≡ n = length-take-le n (came ++ rest) (omega (arith, within, length-append came rest)) in
    let lacks : wants_of s ≡ lack_of (held_of s) = ap wants_of sound in
    record {
      partial = partial;
      some = omega (arith, long, some);
      fits = omega (arith, long, within, fits, lacks);
      few = omega (arith, long, within, few);
    }

-- A chunk was not taken, because memory ran out or because it completes a fault.
pub piece_refused : {L : Type 0} (a b c : Option (List ℕ)) (x y z : Counted L) (held piece : List ℕ) (f : Fault) → Consumes a b held → Consumes b c piece → KeepsCounts x y → KeepsCounts y z
    → IsNextPiece held piece → ((f ≡ fault.OutOfMemory) × (held ≡ [] → IsErr (frame_among LAYOUTS piece) → ⊥)) ⊎ (IsBadFrame f × (frame_among LAYOUTS (held ++ piece) ≡ Err f))
    → FailsToReceive a c x z f
piece_refused a b c x y z held piece f first second kept more next (inl memory) = inl (record {
  fault = memory.0;
  held = held;
  piece = piece;
  next = next;
  read = Consumes-trans a b c held piece first second;
  unhidden = memory.1;
  kept = KeepsCounts-trans x y z kept more;
})
piece_refused a b c x y z held piece f first second kept more next (inr bad) = inr (inr (inr (record {
  held = held;
  piece = piece;
  next = next;
  read = Consumes-trans a b c held piece first second;
  bad = bad.0;
  found = bad.1;
  kept = KeepsCounts-trans x y z kept more;
})))
