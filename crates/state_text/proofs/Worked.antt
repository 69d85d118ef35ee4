-- The worked texts, computed.
use Rattle.std.proofs.Common.{refl}
use Rattle.std.specs.Fmt.{digits}
use Rattle.pair_machine.specs.Counts.{flow_of}
use Rattle.pair_machine.specs.Machine.{step}
use Rattle.state_text.specs.StateText.{state_text}
use Rattle.state_text.specs.WorkedTexts.{WorkedTexts}

pub worked_texts : WorkedTexts
unfolding step flow_of state_text digits
worked_texts = record {
  all_made = refl;
  chunks_wait = refl;
  move_under_way = refl;
  two_sources_merged = refl;
}
