-- The laws of tables that spell places of nodes.
use Rattle.std.proofs.Common.{◌≡◌, ℕ, List, sym, ◌∙◌, ap}
use Rattle.std.specs.Cmp.{nat_cmp_total}
use Rattle.std.specs.FinMap.{same_map, nat_cmp-IsAntisymmetric}
use Rattle.cg_entry.specs.History.{at_place}
use Rattle.cg_table.specs.Values.{Entries}
use Rattle.cg_table.specs.Merge.{merge_of}
use Rattle.cg_table.specs.Spelling.{SpellsPlaces}
use Rattle.cg_table.proofs.DigestLemmas.{equal_digests_equal_entries}
use Rattle.cg_table.proofs.MergeLemmas.{merge_is_the_join}
use Rattle.cg_tokens.specs.Ring.{ring}
use Rattle.cg_places.specs.PlaceWorld.{PlaceWorld, PlaceAction, world_after}
use Rattle.cg_places.specs.Spelling.{SpellsNode}
use Rattle.cg_places.specs.Join.{join}
use Rattle.cg_places.specs.TableLaws.{TablesAreJoined, EqualSourcesEqualTables, EqualDigestsEqualTables, MergesAreJoined, TablesFindRoom}
use Rattle.cg_places.proofs.WorldLemmas.{actions_sound, places_join}
use Rattle.cg_places.proofs.OwnerLemmas.{actions_knows, spelled_small}
use Rattle.cg_places.proofs.RoomLemmas.{room_for_deltas, room_for_merge}
use Rattle.cg_places.proofs.PlaceLaws.{equal_sources_equal_places}

pub tables_are_joined : TablesAreJoined
tables_are_joined actions node entries s =
    let w : PlaceWorld = world_after actions in
    let sound = actions_sound actions in
    record {
      joined = λ owner. s.at owner ∙ ap (at_place (w.histories owner)) (places_join w sound node owner);
      whole = λ owner entry e. (w.places node owner, sound.stands node owner, sym (s.at owner) ∙ e);
      small = spelled_small w entries (w.places node) (actions_knows actions) s;
    }

-- equal entries have equal rings
alike : (one other : Entries) → one ≡ other → (one ≡ other) × (ring one ≡ ring other)
alike one other e = (e, ap ring e)

pub equal_sources_equal_tables : EqualSourcesEqualTables
equal_sources_equal_tables actions a b one other sa sb same =
    alike one other (same_map nat_cmp_total nat_cmp-IsAntisymmetric one other
    (λ owner. sa.at owner ∙ ap (at_place ((world_after actions).histories owner)) (equal_sources_equal_places actions a b owner (same owner)) ∙ sym (sb.at owner)))

pub equal_digests_equal_tables : EqualDigestsEqualTables
equal_digests_equal_tables actions a b one other sa sb same =
    alike one other (equal_digests_equal_entries (world_after actions).histories (actions_sound actions).histories one other ((world_after actions).places a) ((world_after actions).places b) sa sb same)

-- two merged tables spell the join of their places
pub two_joined : (actions : List PlaceAction) (a b : ℕ) (one two : Entries) → SpellsNode (world_after actions) a one → SpellsNode (world_after actions) b two
    → SpellsPlaces (world_after actions).histories (merge_of one two) (join ((world_after actions).places a) ((world_after actions).places b))
two_joined actions a b one two sa sb =
    let w : PlaceWorld = world_after actions in
    let sound = actions_sound actions in
    merge_is_the_join w.histories sound.histories one two (w.places a) (w.places b) sa sb

pub merges_are_joined : MergesAreJoined
merges_are_joined actions a b c one two three sa sb sc =
    let w : PlaceWorld = world_after actions in
    let sound = actions_sound actions in
    let all : SpellsPlaces w.histories (merge_of (merge_of one two) three) (join (join (w.places a) (w.places b)) (w.places c)) =
    merge_is_the_join w.histories sound.histories (merge_of one two) three (join (w.places a) (w.places b)) (w.places c) (two_joined actions a b one two sa sb) sc in
    record { joined = all; small = spelled_small w (merge_of (merge_of one two) three) (join (join (w.places a) (w.places b)) (w.places c)) (actions_knows actions) all }

pub tables_find_room : TablesFindRoom
tables_find_room actions = record { deliveries = room_for_deltas (world_after actions) (actions_knows actions); merges = room_for_merge (world_after actions) (actions_knows actions) }
