-- The worked texts, computed.
use Rattle.std.proofs.Common.{refl}
use Rattle.std.specs.Fmt.{digits}
use Rattle.pair_machine.specs.Counts.{flow_of}
use Rattle.trio_machine.specs.Machine.{step}
use Rattle.trio_state.specs.GroupsText.{groups_text}
use Rattle.trio_state.specs.WorkedTexts.{WorkedTexts}

pub worked_texts : WorkedTexts
unfolding step flow_of groups_text digits
worked_texts = record {
  opens = refl;
  third_leads = refl;
  none_leads = refl;
}
