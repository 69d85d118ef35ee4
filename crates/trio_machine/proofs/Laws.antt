-- The laws of every plan, from those of every flow of groups.
use Rattle.std.proofs.Common.{refl, subst}
use Rattle.pair_machine.specs.Counts.{flow_of}
use Rattle.pair_machine.specs.Flow.{Flow, IsFlow}
use Rattle.pair_machine.proofs.CountLaws.{in_order}
use Rattle.pair_machine.proofs.PlanFlow.{plan_is_flow}
use Rattle.trio_machine.specs.Flow.{trio_flow}
use Rattle.trio_machine.specs.Laws.{LegalListsReachSoundStates, LostGroupsAreGone, OutputIsAFront, SoundStatesGiveWhatIsAsked, SoundStatesOwe, StepsKeepSound, TheOpeningIsSound, TrioPlansAreFlows}
use Rattle.trio_machine.specs.Messages.{Takes}
use Rattle.trio_machine.specs.Machine.{egress_in}
use Rattle.trio_machine.specs.Sound.{IsSound}
use Rattle.trio_machine.specs.declared.node.TrioNode.TheVariants as node
use Rattle.trio_machine.proofs.SoundKept.{lost_are_gone, opening_sound, sound_always, sound_asks, sound_kept, sound_owed}
use Rattle.trio_machine.proofs.Steps.{HoldsOnOk}

-- how many replicas there are is nothing to a flow's other numbers
pub as_trio : (f : Flow) → IsFlow f → IsFlow (record f { replicas = 3 })
as_trio f h = record {
  some_stage = h.some_stage;
  first_sources = h.first_sources;
  last_targets = h.last_targets;
  next_parts = h.next_parts;
  used_none = h.used_none;
  used_next = h.used_next;
  more_left = h.more_left;
  made_most = h.made_most;
  makes_most = h.makes_most;
}

pub trio_is_flow : TrioPlansAreFlows
unfolding flow_of
trio_is_flow plan inputs p = record { flow = as_trio (flow_of plan inputs) (plan_is_flow plan inputs p.within); three = refl; one_source = p.one_source }

pub the_opening_is_sound : TheOpeningIsSound
the_opening_is_sound plan inputs p = opening_sound (trio_flow plan inputs) (trio_is_flow plan inputs p)

pub steps_keep_sound : StepsKeepSound
steps_keep_sound plan inputs p s t e there old is = subst (HoldsOnOk (IsSound (trio_flow plan inputs))) is (sound_kept (trio_flow plan inputs) (trio_is_flow plan inputs p) s old e there)

pub sound_states_owe : SoundStatesOwe
sound_states_owe plan inputs p s sound = sound_owed (trio_flow plan inputs) s sound

pub reached_is_sound : LegalListsReachSoundStates
reached_is_sound plan inputs p es t legal =
    let sound = sound_always (trio_flow plan inputs) (trio_is_flow plan inputs p) es t legal.there legal.leads in
    record { sound = sound; owed = sound_owed (trio_flow plan inputs) t sound }

pub lost_groups_are_gone : LostGroupsAreGone
lost_groups_are_gone plan inputs p s sound q lost c there = lost_are_gone (trio_flow plan inputs) s sound q lost c there

pub sound_gives : SoundStatesGiveWhatIsAsked
sound_gives plan inputs p s sound = record {
  nodes = λ n. (sound.nodes n).bound;
  messages = λ n from m among. (sound_asks (trio_flow plan inputs) s n (Takes from m) sound among).1;
}

pub output_is_a_front : OutputIsAFront
output_is_a_front plan inputs p es t legal = record {
  most = ((reached_is_sound plan inputs p es t legal).sound.nodes node.Egress).bound.count;
  front = (in_order plan inputs).front (egress_in (t.nodes node.Egress)).count;
}
