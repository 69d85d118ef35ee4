-- The drain after a run: with the events before it, it is one legal list within the script.
use Rattle.std.proofs.Common.{◌≡◌, ◌≤◌, sym, ap, ◌∙◌, subst}
use Rattle.tuple_edge.specs.declared.node.NodeId.{NodeId}
use Rattle.tuple_edge.specs.declared.node.NodeId.TheVariants as node
use Rattle.pair_machine.specs.CountLaws.{output_first}
use Rattle.pair_machine.specs.Counts.{flow_of}
use Rattle.pair_machine.specs.Drain.{IsDrainable, RunsAreDrained, SafeRunsAreDrained, SoundStatesAreDrainable, drain}
use Rattle.pair_machine.specs.Flow.{Flow}
use Rattle.pair_machine.specs.Machine.{State, egress_in}
use Rattle.pair_machine.specs.Numbers.{Node, Partition}
use Rattle.pair_machine.specs.Sound.{IsServed, IsSound}
use Rattle.pair_machine.proofs.DrainWhole.{drain_whole, drains_free}
use Rattle.pair_machine.proofs.Journal.{journals_go_on, with_sent}
use Rattle.pair_machine.proofs.Legal.{at_the_end}
use Rattle.pair_machine.proofs.MachineLaws.{plan_safe}
use Rattle.pair_machine.proofs.PlanFlow.{plan_is_flow}
use Rattle.pair_machine.proofs.SoundKept.{opening_sound, sound_owed, sound_run}
use Rattle.pair_machine.proofs.StepTurns.{HoldsOnOk}

pub sound_drains : SoundStatesAreDrainable
sound_drains plan inputs h s sound = record { owed = sound_owed (flow_of plan inputs) s sound; within = sound.bound.nodes }

-- what the drain needs, and who serves, is a matter of the nodes alone
same_drains : (f : Flow) (s u : State) → u.nodes ≡ s.nodes → IsDrainable f s → IsDrainable f u
same_drains f s u e d = subst (λ nodes. IsDrainable f (with_sent nodes u.sent)) (sym e)
    (record { owed = record { ingress = d.owed.ingress; producers = d.owed.producers; consumers = d.owed.consumers; egress = d.owed.egress }; within = d.within })

same_served : (s u : State) (p : Partition) → u.nodes ≡ s.nodes → IsServed s p → IsServed u p
same_served s u p e h = subst (λ nodes. IsServed (with_sent nodes u.sent) p) (sym e) h

pub runs_drained : RunsAreDrained
runs_drained plan inputs h script es s u legal within same served =
    let f = flow_of plan inputs in
    let sound : IsSound f s = subst (HoldsOnOk (IsSound f)) legal.leads (sound_run f (plan_is_flow plan inputs h) es _ legal.there (opening_sound f (plan_is_flow plan inputs h))) in
    let d = drain_whole plan inputs h u (same_drains f s u same (sound_drains plan inputs h s sound)) served in
    let free = drains_free f u in
    let on = journals_go_on f script s d.reached u es (drain f u) legal within free.no_message free.no_order same d.legal in
    let count = ap (λ (nodes : NodeId → Node). (egress_in (nodes node.Egress)).count) on.nodes in
    record { reached = on.state; legal = on.legal; within = on.within; done = count ∙ d.done; output = ap (output_first plan inputs) count ∙ d.output }

pub safe_runs_drained : SafeRunsAreDrained
safe_runs_drained plan inputs h script safe es s u legal within same =
    let f = flow_of plan inputs in
    let served = at_the_end f (λ t. (p : Partition) → 1 ≤ p.stage → IsServed t p) es s (plan_safe plan inputs h script safe es s legal within) legal.leads in
    runs_drained plan inputs h script es s u legal within same (λ p l. same_served s u p same (served p l.first))
