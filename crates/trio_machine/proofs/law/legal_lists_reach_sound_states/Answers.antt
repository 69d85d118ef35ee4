use Rattle.trio_machine.proofs.Laws.{reached_is_sound}
use Rattle.trio_machine.proofs.law.legal_lists_reach_sound_states.Goals as goal

pub returns : goal.returns
returns c = reached_is_sound
