-- Tables and messages go on to spell a world that changes.
use Rattle.std.proofs.Common.{◌≡◌, ◌≢◌, ℕ, ◌+◌, ◌≤◌, List, [], ◌∷◌, ◌++◌, length, refl, sym, ◌∙◌, ap, subst, arith, Bool, true, false, Option, Some, None, add-one}
use Rattle.std.specs.Prelude.{cond, is_some, nat_eq}
use Rattle.std.specs.Option.{option_map, option_and_then}
use Rattle.std.specs.Ordering.{nat_cmp}
use Rattle.std.specs.Cmp.{nat_cmp_total}
use Rattle.std.specs.FinMap as table
use Rattle.std.specs.FinMap.{get-insert, get-empty}
use Rattle.cg_entry.specs.Values.{EntryValue}
use Rattle.cg_entry.specs.Entry.{starting_entry, delta_above}
use Rattle.cg_entry.specs.History.{at_place}
use Rattle.cg_entry.specs.Place.{Span, IsSpan}
use Rattle.cg_entry.specs.Spelling.{version_of, version_at, delta_of}
use Rattle.cg_entry.proofs.PlaceLemmas.{at_place_last}
use Rattle.cg_table.specs.Values.{Entries}
use Rattle.cg_table.specs.Table.{lone_table, digest_of}
use Rattle.cg_table.specs.Spelling.{SpellsPlaces}
use Rattle.cg_places.specs.Places.{Ask, IsAsk}
use Rattle.cg_places.specs.PlaceMessages.{PlaceMessage, Stand, places_after}
use Rattle.cg_places.specs.MessageSpelling.{request_of}
use Rattle.cg_messages.specs.Members.{about}
use Rattle.cg_places.specs.PlaceWorld.{PlaceWorld, world_after, put_at, grown, runs, with_start, with_entry, with_message, with_spans}
use Rattle.cg_places.specs.Laws.{Continues}
use Rattle.cg_places.specs.Spelling.{SpellsNode, SpellsNodes, SpellingStays, IsReplaced, Follow, TablesFollow, IsChangedAt}
use Rattle.cg_places.proofs.PutLemmas.{put_at-each, put_at_here, put_at_other, same_number, test_same, test_other}
use Rattle.cg_places.proofs.GrowthLemmas.{AllContinue, continues_itself, grown_continue, grown_length}
use Rattle.cg_places.proofs.WorldLemmas.{IsSound, actions_sound}
use Rattle.cg_places.proofs.OwnerLemmas.{grown_runs, runs_on, same_test}

-- ---- histories that go on

same_version : {h k : List EntryValue} → Continues h k → (p : ℕ) → p ≤ length h → version_at k p ≡ version_at h p
same_version c p l = ap version_of (c.same p l)

same_delta : {h k : List EntryValue} → Continues h k → (o : Option Span) → ((span : Span) → o ≡ Some span → IsSpan h span) → option_and_then (delta_of k) o ≡ option_and_then (delta_of h) o
same_delta c None is = refl
same_delta {h} {k} c (Some span) is =
    let s = is span refl in
    ap (λ v. option_and_then (delta_above v) (at_place k span.to)) (same_version c span.from (omega (arith, s.rises, s.stands)))
    ∙ ap (option_and_then (delta_above (version_at h span.from))) (c.same span.to s.stands)

same_request : (owner : ℕ) {h k : List EntryValue} → Continues h k → (o : Option Ask) → ((ask : Ask) → o ≡ Some ask → IsAsk h ask) → option_map (request_of owner k) o ≡ option_map (request_of owner h) o
same_request owner c None is = refl
same_request owner c (Some ask) is = ap (λ v. Some (record { endpoint = owner; generation = ask.generation; version = v })) (same_version c ask.from (is ask refl).stands)

places_stay : (old new : ℕ → List EntryValue) → AllContinue old new → (entries : Entries) (places : ℕ → ℕ) → SpellsPlaces old entries places → SpellsPlaces new entries places
places_stay old new c entries places s = record {
  at = λ owner. s.at owner ∙ sym ((c owner).same (places owner) (s.stand owner));
  stand = λ owner. omega (arith, s.stand owner, (c owner).longer);
}

pub spelling_stays : SpellingStays
spelling_stays old new c = record {
  tables = places_stay old new c;
  digests = λ digests places l s. record { at = λ owner. s.at owner ∙ ap (option_map (λ e. digest_of (owner, e))) (sym ((c owner).same (places owner) (l owner))) };
  asks = λ requests asks are s. record { at = λ owner. s.at owner ∙ sym (same_request owner (c owner) (asks owner) (are owner)) };
  spans = λ deltas spans are s. record { at = λ owner. s.at owner ∙ ap (option_map (about owner)) (sym (same_delta (c owner) (spans owner) (are owner))) };
}

-- ---- a table that is replaced

module _ (tables later : ℕ → Option Entries) (w v : PlaceWorld) (node : ℕ) (entries : Entries) (s : SpellsNodes tables w) (k : IsChangedAt w v node entries) (r : IsReplaced tables later node entries) where
  -- at the node, and at the others
  at_each : (P : ℕ → Type 0) → P node → ((n : ℕ) → n ≢ node → P n) → (n : ℕ) → P n
  at_each P at_node at_other n = put_at-each (λ m u. P m) (λ m. m) node node at_node at_other n

  pub replaced_spells : SpellsNodes later v
  replaced_spells = record {
    running = at_each (λ n. is_some (later n) ≡ runs v n)
        (ap is_some r.here ∙ sym (k.running node ∙ ap (λ b. cond b true (runs w node)) (test_same node)))
        (λ n apart. ap is_some (r.elsewhere n apart) ∙ s.running n ∙ sym (k.running n ∙ ap (λ b. cond b true (runs w n)) (test_other n node apart)));
    spelled = at_each (λ n. (es : Entries) → later n ≡ Some es → SpellsNode v n es)
        (λ es e. let is = r.here in let same : entries ≡ es = cc in subst (λ es. SpellsNode v node es) same k.here)
        (λ n apart es e. subst (λ row. SpellsPlaces v.histories es row) (sym (k.elsewhere n apart)) (places_stay w.histories v.histories k.histories es (w.places n) (s.spelled n es (sym (r.elsewhere n apart) ∙ e))));
  }

-- a table to which the node's own entry is put
own_put : (w : PlaceWorld) (node : ℕ) (entry : EntryValue) (entries : Entries) (row : ℕ → ℕ) → Stand w.histories row → ((owner : ℕ) → owner ≢ node → table.get entries owner ≡ at_place (w.histories owner) (row owner))
    → SpellsPlaces (grown w.histories node entry) (table.insert entries node entry) (put_at row node (length (w.histories node) + 1))
own_put w node entry entries row stand there = record {
  at = λ owner. get-insert nat_cmp_total entries node entry owner ∙ ap (λ b. cond b (Some entry) (table.get entries owner)) (same_test owner node) ∙ go owner (nat_eq owner node) refl;
  stand = stand_put;
}
  where
    stand_put : Stand (grown w.histories node entry) (put_at row node (length (w.histories node) + 1))
    stand_put = put_at-each (λ owner p. p ≤ length (grown w.histories node entry owner)) row node (length (w.histories node) + 1)
        (omega (arith, grown_length w.histories node entry)) (λ owner apart. omega (arith, stand owner, (grown_continue w.histories node entry owner).longer))

    last : at_place (w.histories node ++ entry ∷ []) (length (w.histories node) + 1) ≡ Some entry
    last = rw add-one (at_place_last (w.histories node) entry)

    here : Some entry ≡ at_place (grown w.histories node entry node) (put_at row node (length (w.histories node) + 1) node)
    here = sym last ∙ ap (λ h. at_place h (length (w.histories node) + 1)) (sym (put_at_here w.histories node (w.histories node ++ entry ∷ [])))
        ∙ ap (at_place (grown w.histories node entry node)) (sym (put_at_here row node (length (w.histories node) + 1)))

    go : (owner : ℕ) (b : Bool) → nat_eq owner node ≡ b → cond b (Some entry) (table.get entries owner) ≡ at_place (grown w.histories node entry owner) (put_at row node (length (w.histories node) + 1) owner)
    go owner true e = subst (λ k. Some entry ≡ at_place (grown w.histories node entry k) (put_at row node (length (w.histories node) + 1) k)) (sym (same_number owner node e)) here
    go owner false e =
        let apart : owner ≢ node = λ same. (let t : nat_eq owner node ≡ true = ap (λ k. nat_eq k node) same ∙ test_same node in cc) in
        there owner apart ∙ ap (λ h. at_place h (row owner)) (sym (put_at_other w.histories node (w.histories node ++ entry ∷ []) owner apart))
        ∙ ap (at_place (grown w.histories node entry owner)) (sym (put_at_other row node (length (w.histories node) + 1) owner apart))

pub entry_changes : (w : PlaceWorld) (node : ℕ) (entry : EntryValue) (entries : Entries) → SpellsNode w node entries → IsChangedAt w (with_entry w node entry) node (table.insert entries node entry)
unfolding with_entry
entry_changes w node entry entries s = record {
  histories = grown_continue w.histories node entry;
  running = grown_runs w node entry;
  here = subst (SpellsPlaces (grown w.histories node entry) (table.insert entries node entry)) (sym (put_at_here w.places node (put_at (w.places node) node (length (w.histories node) + 1))))
      (own_put w node entry entries (w.places node) s.stand (λ owner apart. s.at owner));
  elsewhere = λ n apart. put_at_other w.places node (put_at (w.places node) node (length (w.histories node) + 1)) n apart;
}

pub start_changes : (w : PlaceWorld) (node generation : ℕ) → IsChangedAt w (with_start w node generation) node (lone_table node (starting_entry generation)).entries
unfolding with_start
start_changes w node generation = record {
  histories = grown_continue w.histories node (starting_entry generation);
  running = grown_runs w node (starting_entry generation);
  here = subst (SpellsPlaces (grown w.histories node (starting_entry generation)) (lone_table node (starting_entry generation)).entries) (sym (put_at_here w.places node (put_at (λ owner. 0) node (length (w.histories node) + 1))))
      (own_put w node (starting_entry generation) table.empty (λ owner. 0) (λ owner. omega arith) (λ owner apart. get-empty nat_cmp owner));
  elsewhere = λ n apart. put_at_other w.places node (put_at (λ owner. 0) node (length (w.histories node) + 1)) n apart;
}

pub spans_change : (w : PlaceWorld) (node : ℕ) (spans : ℕ → Option Span) (entries : Entries) → runs w node ≡ true → SpellsPlaces w.histories entries (places_after node (w.places node) spans) → IsChangedAt w (with_spans w node spans) node entries
unfolding with_spans
spans_change w node spans entries running s = record {
  histories = λ owner. continues_itself (w.histories owner);
  running = λ n. sym (runs_on w node n running);
  here = subst (SpellsPlaces w.histories entries) (sym (put_at_here w.places node (λ owner. places_after node (w.places node) spans owner))) (record { at = s.at; stand = s.stand });
  elsewhere = λ n apart. put_at_other w.places node (λ owner. places_after node (w.places node) spans owner) n apart;
}

pub message_changes : (w : PlaceWorld) (node : ℕ) (message : PlaceMessage) (entries : Entries) → runs w node ≡ true → SpellsNode w node entries → IsChangedAt w (with_message w message) node entries
unfolding with_message
message_changes w node message entries running s = record {
  histories = λ owner. continues_itself (w.histories owner);
  running = λ n. sym (runs_on w node n running);
  here = s;
  elsewhere = λ n apart. refl;
}

-- the node runs
pub running_here : (w v : PlaceWorld) (node : ℕ) (entries : Entries) → IsChangedAt w v node entries → runs v node ≡ true
running_here w v node entries k = k.running node ∙ ap (λ b. cond b true (runs w node)) (test_same node)

message_spelled : (tables : ℕ → Option Entries) (w : PlaceWorld) (message : PlaceMessage) → SpellsNodes tables w → SpellsNodes tables (with_message w message)
unfolding with_message
message_spelled tables w message s = record { running = s.running; spelled = s.spelled }

pub follow : (tables : ℕ → Option Entries) (w : PlaceWorld) → IsSound w → SpellsNodes tables w → Follow tables w
follow tables w sound s = record {
  start = λ node generation later r. replaced_spells tables later w (with_start w node generation) node _ s (start_changes w node generation) r;
  entry = λ node entries entry later there r. replaced_spells tables later w (with_entry w node entry) node _ s (entry_changes w node entry entries (s.spelled node entries there)) r;
  message = λ message. message_spelled tables w message s;
  spans = λ node spans entries later running spelled r. replaced_spells tables later w (with_spans w node spans) node entries s (spans_change w node spans entries running spelled) r;
}

pub tables_follow : TablesFollow
tables_follow actions tables s = follow tables (world_after actions) (actions_sound actions) s
