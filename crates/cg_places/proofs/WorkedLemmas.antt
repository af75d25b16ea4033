-- The worked runs, computed.
use Rattle.std.proofs.Common.{refl}
use Rattle.cg_places.specs.PlaceWorld.{nobody, with_start, with_entry, with_message, with_spans, after_action}
use Rattle.cg_places.specs.WorkedPlaces.{WorkedPlaces}

pub worked_places : WorkedPlaces
unfolding nobody with_start with_entry with_message with_spans after_action
worked_places = record {
  opener = refl;
  answerer = refl;
  three_messages = refl;
  gap = refl;
  itself = refl;
  nothing_taken = refl;
  rebuilt = refl;
  taken = refl;
  messages = refl;
  not_rising = refl;
  no_message = refl;
  no_node = refl;
  nothing_held = refl;
  nothing_sent = refl;
  nothing_started = refl;
}
