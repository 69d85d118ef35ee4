-- What holds of the machine of groups, for every plan of one source within its limits, all inputs and every list of events.
use Rattle.std.specs.Prelude.{◌≡◌, ◌≤◌, List, Ok, length, take, ℕ, ◌<◌}
use Rattle.tuple_edge.specs.Input.{Input}
use Rattle.plan_reader.specs.PlanView.{PlanView}
use Rattle.pair_machine.specs.Boundary.{egress_partition}
use Rattle.pair_machine.specs.CountLaws.{output_first}
use Rattle.pair_machine.specs.Lists.{Among}
use Rattle.pair_machine.specs.Numbers.{Partition}
use Rattle.pair_machine.specs.Output.{output}
use Rattle.trio_machine.specs.Asked.{TakenAsks}
use Rattle.trio_machine.specs.Flow.{IsTrioFlow, IsTrioPlan, trio_flow}
use Rattle.trio_machine.specs.Legal.{IsLegal}
use Rattle.trio_machine.specs.Lengths.{NodeBound}
use Rattle.trio_machine.specs.Links.{IsThere}
use Rattle.trio_machine.specs.Machine.{State, egress_in, opening, step}
use Rattle.trio_machine.specs.Messages.{Message}
use Rattle.trio_machine.specs.Numbers.{Gone, group_size}
use Rattle.trio_machine.specs.Reports.{replicas_of}
use Rattle.trio_machine.specs.Sound.{IsLost, IsOwed, IsSound}
use Rattle.trio_machine.specs.declared.event.TrioEvent.{TrioEvent}
use Rattle.trio_machine.specs.declared.node.TrioNode.{TrioNode}
use Rattle.trio_machine.specs.declared.node.TrioNode.TheVariants as node

-- the numbers of every plan of one source are those of a flow of groups
abbrev pub TrioPlansAreFlows : Type 0
TrioPlansAreFlows = (plan : PlanView) (inputs : List Input) → IsTrioPlan plan → IsTrioFlow (trio_flow plan inputs)

-- ---- soundness

-- the opening of every plan of one source is sound, whatever the inputs
abbrev pub TheOpeningIsSound : Type 0
TheOpeningIsSound = (plan : PlanView) (inputs : List Input) → IsTrioPlan plan → IsSound (trio_flow plan inputs) opening

-- every step keeps Sound, from any sound state, whether groups are lost or not
abbrev pub StepsKeepSound : Type 0
StepsKeepSound = (plan : PlanView) (inputs : List Input) → IsTrioPlan plan → (s t : State) (e : TrioEvent) → IsThere (trio_flow plan inputs) e → IsSound (trio_flow plan inputs) s
    → step (trio_flow plan inputs) s e ≡ Ok t → IsSound (trio_flow plan inputs) t

-- in a sound state the buffers hold what takeover owes
abbrev pub SoundStatesOwe : Type 0
SoundStatesOwe = (plan : PlanView) (inputs : List Input) → IsTrioPlan plan → (s : State) → IsSound (trio_flow plan inputs) s → IsOwed (trio_flow plan inputs) s

-- so a state that a legal list reaches is sound, and the buffers hold it there
pub record IsReached (plan : PlanView) (inputs : List Input) (t : State) : Type 0 where
  pub sound : IsSound (trio_flow plan inputs) t
  pub owed : IsOwed (trio_flow plan inputs) t

-- so it is after every legal list of every plan of one source, however many groups it loses
abbrev pub LegalListsReachSoundStates : Type 0
LegalListsReachSoundStates = (plan : PlanView) (inputs : List Input) → IsTrioPlan plan → (es : List TrioEvent) (t : State) → IsLegal (trio_flow plan inputs) es t → IsReached plan inputs t

-- a sound state gives what a node's step asks of the node's numbers, and of each message that was sent to it
pub record GivesWhatIsAsked (plan : PlanView) (inputs : List Input) (s : State) : Type 0 where
  pub nodes : (n : TrioNode) → NodeBound (trio_flow plan inputs) n (s.nodes n)
  pub messages : (n from : TrioNode) (m : Message) → Among m (s.sent from n) → TakenAsks (trio_flow plan inputs) n from m

-- so every state that events reach gives it: the code may rely on it at each of its steps
abbrev pub SoundStatesGiveWhatIsAsked : Type 0
SoundStatesGiveWhatIsAsked = (plan : PlanView) (inputs : List Input) → IsTrioPlan plan → (s : State) → IsSound (trio_flow plan inputs) s → GivesWhatIsAsked plan inputs s

-- a group is lost only where all its replicas are gone: it survives two failures
abbrev pub LostGroupsAreGone : Type 0
LostGroupsAreGone = (plan : PlanView) (inputs : List Input) → IsTrioPlan plan → (s : State) → IsSound (trio_flow plan inputs) s → (p : Partition) → IsLost s p → (c : ℕ) → c < group_size → replicas_of s p c ≡ Gone

-- ---- the output

-- what egress has merged is at most its whole list, and the rows among it are the first rows of the output
pub record HasFrontOut (plan : PlanView) (inputs : List Input) (t : State) : Type 0 where
  pub most : (egress_in (t.nodes node.Egress)).count ≤ (trio_flow plan inputs).total (egress_partition (trio_flow plan inputs))
  pub front : output_first plan inputs (egress_in (t.nodes node.Egress)).count ≡ take (length (output_first plan inputs (egress_in (t.nodes node.Egress)).count)) (output plan inputs)

-- so it is after every legal list
abbrev pub OutputIsAFront : Type 0
OutputIsAFront = (plan : PlanView) (inputs : List Input) → IsTrioPlan plan → (es : List TrioEvent) (t : State) → IsLegal (trio_flow plan inputs) es t → HasFrontOut plan inputs t
