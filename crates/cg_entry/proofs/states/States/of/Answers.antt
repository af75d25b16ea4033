use Rattle.std.proofs.Common.{◌∙◌, ap}
use Rattle.cg_entry.specs.State.{listed_bytes}
use Rattle.cg_entry.proofs.FewLemmas.{bytes_few}
use Rattle.cg_entry.proofs.states.States.of.Goals as goal

pub size_of_texts-text_bytes-requires : goal.size_of_texts-text_bytes-requires
size_of_texts-text_bytes-requires c = bytes_few c.deref.result.now c.args.items.items c.deref.ensures.value c.requires.rise c.requires.valid

pub invariant_of-result : goal.invariant_of-result
invariant_of-result c = record {
  rise = c.requires.rise;
  valid = c.requires.valid;
  counted = c.size_of_texts-text_bytes.ensures ∙ ap listed_bytes c.deref.ensures.value;
}
