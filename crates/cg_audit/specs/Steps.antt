-- Steps as items.
use Rattle.std.specs.Option.{option_map}
use Rattle.cg_messages.specs.Borrowed.{borrowed_message}
use Rattle.cg_audit.specs.Items.{RunItem}
use Rattle.cg_audit.specs.declared.step.Step.{Step}

-- the item of a step
abbrev pub run_item : Step → RunItem
run_item s = record {
  endpoint = s.item.endpoint;
  generation = s.item.generation;
  number = s.item.number;
  handled = option_map borrowed_message s.handled;
  sent = option_map borrowed_message s.sent;
}
