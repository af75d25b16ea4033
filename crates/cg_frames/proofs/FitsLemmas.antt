-- Properties of list members, one by one, and messages that fit.
use Rattle.std.proofs.Common.{◌≡◌, ℕ, ◌≤◌, Bool, true, false, cond, List, [], ◌∷◌, length, map, Option, Some, None, IfSome, refl, sym, ap, ◌∙◌, arith}
use Rattle.std.specs.Prelude.{nat_lt}
use Rattle.cg_types.specs.declared.limits.TheConstants.{STATE_LIMIT}
use Rattle.cg_types.specs.Text.{IsStateText}
use Rattle.cg_types.proofs.RisingLemmas.{rise_sorted}
use Rattle.std.specs.List.{AllByRecursion, filter}
use Rattle.std.specs.FinMap.{entries, entries_sorted, from_sorted, entries-from_sorted, same_entries_map}
use Rattle.std.specs.Ordering.{nat_cmp}
use Rattle.std.proofs.lemmas.Bool.{ltb-true, lt-ltb}
use Rattle.cg_entry.specs.declared.digest.Digest.{Digest}
use Rattle.cg_entry.specs.Versioned.{Versioned, States}
use Rattle.cg_entry.specs.Entry.{newer_than}
use Rattle.cg_entry.proofs.DeltaLemmas.{entries-newer_than}
use Rattle.cg_messages.specs.declared.owner_delta.OwnerDelta.{OwnerDelta}
use Rattle.cg_messages.specs.declared.message.Message.{Message}
use Rattle.cg_messages.specs.declared.message.Message.TheVariants.{Syn, Ack, Ack2}
use Rattle.cg_messages.specs.Values.{RequestValue}
use Rattle.cg_messages.specs.Members.{AreListed, endpoints_of_deltas}
use Rattle.cg_entry.specs.Contents.{IsState}
use Rattle.cg_messages.specs.Contents.{IsOwnerDelta}
use Rattle.cg_messages.specs.Messages.{IsMessage}
pub use Rattle.cg_entry.proofs.ContentLemmas.{all_pairs}
use Rattle.cg_frames.specs.declared.layout.Layout.{Layout}
use Rattle.cg_frames.specs.Layouts.{IsRead, IsWritten}
use Rattle.cg_frames.specs.Fits.{IsShort, AreFew, HasShortTexts, AreWithin, Fits}
use Rattle.cg_frames.proofs.FitsFields.{FitsValue, FitsState, FitsDelta, FitsMembers, FitsFields}
use Rattle.cg_frames.proofs.SpelledIsReadLemmas.{length_keys}
use Rattle.cg_entry.proofs.FewLemmas.{states_few}

-- there are no more states than keys
pub few_entries : (d : OwnerDelta) → IsOwnerDelta d → length (entries d.delta.states) ≤ STATE_LIMIT
few_entries d is =
    let es = entries d.delta.states in
    states_few IsState (λ e state. state.key) es is.delta.states (rise_sorted es (entries_sorted d.delta.states))

-- ---- a layout that allows what messages hold can spell each of them

text_short : (layout : Layout) → IsWritten layout → (o : Option (List ℕ)) → IfSome o IsStateText → IsShort layout o
text_short layout written None is = written.tombstones
text_short layout written (Some t) is = omega (arith, is.fits, written.text)

texts_short : (layout : Layout) → IsWritten layout → (es : List (ℕ × Versioned)) → AllByRecursion IsState es
    → AllByRecursion (λ (s : ℕ × Versioned). IsShort layout s.1.text) es
texts_short layout written [] all = tt
texts_short layout written (s ∷ es) all = (text_short layout written s.1.text all.0.text, texts_short layout written es all.1)

deltas_short : (layout : Layout) → IsWritten layout → (ds : List OwnerDelta) → AllByRecursion IsOwnerDelta ds → AllByRecursion (HasShortTexts layout) ds
deltas_short layout written [] all = tt
deltas_short layout written (d ∷ ds) all = (texts_short layout written (entries d.delta.states) all.0.delta.states, deltas_short layout written ds all.1)

few_members : {X : Type 0} (key : X → ℕ) (layout : Layout) → IsWritten layout → (xs : List X) → AreListed (map key xs) → AreFew layout xs
few_members key layout written xs are = omega (arith, are.few, length_keys key xs, written.members)

deltas_within : (layout : Layout) → IsWritten layout → (ds : List OwnerDelta) → AreListed (endpoints_of_deltas ds) → AllByRecursion IsOwnerDelta ds → AreWithin layout ds
deltas_within layout written ds are all = record {
  few = few_members (λ (d : OwnerDelta). d.endpoint) layout written ds are;
  short = deltas_short layout written ds all;
}

pub message_fits : (layout : Layout) → IsWritten layout → (m : Message) → IsMessage m → Fits layout m
message_fits layout written (Syn m) is =
    record { is = is; within = few_members (λ (d : Digest). d.endpoint) layout written m.digests is.listed }
message_fits layout written (Ack m) is = record {
  is = is;
  within = (
    few_members (λ (r : RequestValue). r.endpoint) layout written m.requests is.asked,
    deltas_within layout written m.deltas is.listed is.deltas,
  );
}
message_fits layout written (Ack2 m) is = record { is = is; within = deltas_within layout written m.deltas is.listed is.deltas }

-- ---- messages that fit, fit field by field

filtered : {X : Type 0} (p : X → Bool) (xs : List X) → length (filter p xs) ≤ length xs
filtered p [] = omega arith
filtered p (x ∷ xs) = elim (p x) as (λ b. length (cond b (x ∷ filter p xs) (filter p xs)) ≤ length (x ∷ xs)) [
  | true ↦ omega (arith, filtered p xs)
  | false ↦ omega (arith, filtered p xs)
]

same_others : {X : Type 0} (x : X) (xs ys : List X) → x ∷ xs ≡ x ∷ ys → xs ≡ ys
same_others x xs ys e = cc

kept : {X : Type 0} (p : X → Bool) (x : X) (xs : List X) → filter p (x ∷ xs) ≡ x ∷ xs → (p x ≡ true) × (filter p xs ≡ xs)
kept p x xs e = elim (p x) as (λ b. cond b (x ∷ filter p xs) (filter p xs) ≡ x ∷ xs → (b ≡ true) × (filter p xs ≡ xs)) [
  | true ↦ λ e. (refl, same_others x (filter p xs) xs e)
  | false ↦ λ e. absurd (omega (arith, filtered p xs, ap length e))
] e

value_fields : (layout : Layout) (o : Option (List ℕ)) → IfSome o IsStateText → IsShort layout o → FitsValue layout o
value_fields layout None is short = short
value_fields layout (Some t) is short = (is.is_plain, short)

-- the states of a delta, each of which is above the version that the delta is above
states_fields : (layout : Layout) (above : ℕ) (es : List (ℕ × Versioned)) → filter (λ s. nat_lt above s.1.version) es ≡ es → AllByRecursion IsState es
    → AllByRecursion (λ (s : ℕ × Versioned). IsShort layout s.1.text) es → AllByRecursion (FitsState layout above) es
states_fields layout above [] e all short = tt
states_fields layout above (s ∷ es) e all short =
    let k = kept (λ (s : ℕ × Versioned). nat_lt above s.1.version) s es e in
    (record { key = all.0.key; version = all.0.version; newer = ltb-true above s.1.version k.0; value = value_fields layout s.1.text all.0.text short.0 }, states_fields layout above es k.1 all.1 short.1)

delta_fields : (layout : Layout) (d : OwnerDelta) → IsOwnerDelta d → HasShortTexts layout d → FitsDelta layout d
delta_fields layout d is short =
    let above = d.delta.above in
    let m = d.delta.states in
    let newer : filter (λ s. nat_lt above s.1.version) (entries m) ≡ entries m = sym (entries-newer_than above m) ∙ ap entries is.delta.carries.newer in
    record {
      endpoint = is.endpoint;
      generation = is.delta.generation;
      above = is.delta.above;
      heartbeat = is.delta.heartbeat;
      states = states_fields layout above (entries m) newer is.delta.states short;
      something = is.delta.carries.something;
    }

deltas_fields : (layout : Layout) (ds : List OwnerDelta) → AllByRecursion IsOwnerDelta ds → AllByRecursion (HasShortTexts layout) ds → AllByRecursion (FitsDelta layout) ds
deltas_fields layout [] all short = tt
deltas_fields layout (d ∷ ds) all short = (delta_fields layout d all.0 short.0, deltas_fields layout ds all.1 short.1)

members_fields : {X : Type 0} (key : X → ℕ) (layout : Layout) (xs : List X) → AreListed (map key xs) → AreFew layout xs → FitsMembers layout (map key xs)
members_fields key layout xs are few = record { rise = are.rise; few = omega (arith, few, length_keys key xs) }

pub fields_of : (layout : Layout) (m : Message) → Fits layout m → FitsFields layout m
fields_of layout (Syn m) fits = record {
  name = fits.is.cluster.is_named;
  partitioner = fits.is.cluster.is_byte;
  listed = members_fields (λ (d : Digest). d.endpoint) layout m.digests fits.is.listed fits.within;
  digests = fits.is.digests;
}
fields_of layout (Ack m) fits = record {
  asked = members_fields (λ (r : RequestValue). r.endpoint) layout m.requests fits.is.asked fits.within.0;
  requests = fits.is.requests;
  listed = members_fields (λ (d : OwnerDelta). d.endpoint) layout m.deltas fits.is.listed fits.within.1.few;
  deltas = deltas_fields layout m.deltas fits.is.deltas fits.within.1.short;
}
fields_of layout (Ack2 m) fits = record {
  listed = members_fields (λ (d : OwnerDelta). d.endpoint) layout m.deltas fits.is.listed fits.within.few;
  deltas = deltas_fields layout m.deltas fits.is.deltas fits.within.short;
}

-- ---- messages that fit field by field, fit: they hold what a layout allows that is read

all_kept : (layout : Layout) (above : ℕ) (es : List (ℕ × Versioned)) → AllByRecursion (FitsState layout above) es → filter (λ s. nat_lt above s.1.version) es ≡ es
all_kept layout above [] all = refl
all_kept layout above (s ∷ es) all =
    let newer = λ (t : ℕ × Versioned). nat_lt above t.1.version in
    ap (λ b. cond b (s ∷ filter newer es) (filter newer es)) (lt-ltb above s.1.version all.0.newer) ∙ ap (λ (ys : List (ℕ × Versioned)). s ∷ ys) (all_kept layout above es all.1)

newer_all : (layout : Layout) (above : ℕ) (m : States) → AllByRecursion (FitsState layout above) (entries m) → newer_than above m ≡ m
newer_all layout above m all =
    ap (λ (es : List (ℕ × Versioned)). from_sorted {R = nat_cmp} es) (all_kept layout above (entries m) all)
    ∙ same_entries_map (from_sorted {R = nat_cmp} (entries m)) m (entries-from_sorted nat_cmp (entries m) (entries_sorted m))

value_is : (layout : Layout) → IsRead layout → (o : Option (List ℕ)) → FitsValue layout o → IfSome o IsStateText
value_is layout read None fits = tt
value_is layout read (Some t) fits = record { is_plain = fits.0; fits = omega (arith, fits.1, read.text) }

value_short : (layout : Layout) (o : Option (List ℕ)) → FitsValue layout o → IsShort layout o
value_short layout None fits = fits
value_short layout (Some t) fits = fits.1

states_are : (layout : Layout) → IsRead layout → (above : ℕ) (es : List (ℕ × Versioned)) → AllByRecursion (FitsState layout above) es → AllByRecursion IsState es
states_are layout read above [] all = tt
states_are layout read above (s ∷ es) all =
    (record { key = all.0.key; version = all.0.version; text = value_is layout read s.1.text all.0.value }, states_are layout read above es all.1)

texts_are_short : (layout : Layout) (above : ℕ) (es : List (ℕ × Versioned)) → AllByRecursion (FitsState layout above) es → AllByRecursion (λ (s : ℕ × Versioned). IsShort layout s.1.text) es
texts_are_short layout above [] all = tt
texts_are_short layout above (s ∷ es) all = (value_short layout s.1.text all.0.value, texts_are_short layout above es all.1)

delta_is : (layout : Layout) → IsRead layout → (d : OwnerDelta) → FitsDelta layout d → IsOwnerDelta d
delta_is layout read d fits = record {
  endpoint = fits.endpoint;
  delta = record {
    generation = fits.generation;
    above = fits.above;
    heartbeat = fits.heartbeat;
    states = states_are layout read d.delta.above (entries d.delta.states) fits.states;
    carries = record { newer = newer_all layout d.delta.above d.delta.states fits.states; something = fits.something };
  };
}

deltas_are : (layout : Layout) → IsRead layout → (ds : List OwnerDelta) → AllByRecursion (FitsDelta layout) ds → AllByRecursion IsOwnerDelta ds
deltas_are layout read [] all = tt
deltas_are layout read (d ∷ ds) all = (delta_is layout read d all.0, deltas_are layout read ds all.1)

deltas_have_short : (layout : Layout) (ds : List OwnerDelta) → AllByRecursion (FitsDelta layout) ds → AllByRecursion (HasShortTexts layout) ds
deltas_have_short layout [] all = tt
deltas_have_short layout (d ∷ ds) all = (texts_are_short layout d.delta.above (entries d.delta.states) all.0.states, deltas_have_short layout ds all.1)

members_are : (layout : Layout) → IsRead layout → (endpoints : List ℕ) → FitsMembers layout endpoints → AreListed endpoints
members_are layout read endpoints fits = record { rise = fits.rise; few = omega (arith, fits.few, read.members) }

members_few : {X : Type 0} (key : X → ℕ) (layout : Layout) (xs : List X) → FitsMembers layout (map key xs) → AreFew layout xs
members_few key layout xs fits = omega (arith, fits.few, length_keys key xs)

deltas_are_within : (layout : Layout) (ds : List OwnerDelta) → FitsMembers layout (endpoints_of_deltas ds) → AllByRecursion (FitsDelta layout) ds → AreWithin layout ds
deltas_are_within layout ds listed all =
    record { few = members_few (λ (d : OwnerDelta). d.endpoint) layout ds listed; short = deltas_have_short layout ds all }

pub fits_of : (layout : Layout) → IsRead layout → (m : Message) → FitsFields layout m → Fits layout m
fits_of layout read (Syn m) fits = record {
  is = record {
    cluster = record { is_named = fits.name; is_byte = fits.partitioner };
    listed = members_are layout read (map (λ (d : Digest). d.endpoint) m.digests) fits.listed;
    digests = fits.digests;
  };
  within = members_few (λ (d : Digest). d.endpoint) layout m.digests fits.listed;
}
fits_of layout read (Ack m) fits = record {
  is = record {
    asked = members_are layout read (map (λ (r : RequestValue). r.endpoint) m.requests) fits.asked;
    requests = fits.requests;
    listed = members_are layout read (endpoints_of_deltas m.deltas) fits.listed;
    deltas = deltas_are layout read m.deltas fits.deltas;
  };
  within = (
    members_few (λ (r : RequestValue). r.endpoint) layout m.requests fits.asked,
    deltas_are_within layout m.deltas fits.listed fits.deltas,
  );
}
fits_of layout read (Ack2 m) fits = record {
  is = record { listed = members_are layout read (endpoints_of_deltas m.deltas) fits.listed; deltas = deltas_are layout read m.deltas fits.deltas };
  within = deltas_are_within layout m.deltas fits.listed fits.deltas;
}
