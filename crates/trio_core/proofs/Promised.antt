-- What holds of a core after any events.
use Rattle.std.proofs.Common.{Option, None, Some, refl, subst, sym}
use Rattle.std.specs.Option.{option_and_then}
use Rattle.ingress_egress.specs.EgressView.{IsFrontOf}
use Rattle.pair_machine.specs.Output.{output}
use Rattle.trio_machine.specs.Laws.{HasFrontOut}
use Rattle.trio_machine.specs.declared.node.TrioNode.TheVariants as node
use Rattle.trio_machine.proofs.Laws.{output_is_a_front, reached_is_sound}
use Rattle.trio_core.specs.CoreView.{CoreView, StationView, found, inputs_of}
use Rattle.trio_core.specs.Ends.{egress_in}
use Rattle.trio_core.specs.Promises.{EmitsAFront, HoldsWhatIsOwed, rows_of}
use Rattle.trio_core.specs.Stands.{IsCore, IsThere, MemberStands}
use Rattle.trio_core.specs.declared.member.Member.{Member}
use Rattle.trio_core.specs.declared.member.Member.TheVariants as member

pub emits_a_front : (core : CoreView) → IsCore core → EmitsAFront core
emits_a_front core is = at_egress (found node.Egress core.stations) (is.stands node.Egress tt)
  where
    front : HasFrontOut core.plan (inputs_of core) is.state
    front = output_is_a_front core.plan (inputs_of core) is.plan is.events is.state is.legal

    of_member : (m : Member) → MemberStands core.plan (inputs_of core) m (is.state.nodes node.Egress) → IsFrontOf (rows_of (egress_in m)) (output core.plan (inputs_of core))
    of_member (member.Ingress i) h = refl
    of_member (member.Replica r) h = refl
    of_member (member.Control c) h = refl
    of_member (member.Egress e) h = subst (λ rows. IsFrontOf rows (output core.plan (inputs_of core))) (sym h.emitted) (sym front.front)

    at_egress : (o : Option StationView) → IsThere core.plan (inputs_of core) node.Egress o is.state → IsFrontOf (rows_of (option_and_then (λ (at : StationView). egress_in at.member) o)) (output core.plan (inputs_of core))
    at_egress None h = absurd h
    at_egress (Some at) h = of_member at.member h.member

pub holds_what_is_owed : (core : CoreView) → IsCore core → HoldsWhatIsOwed core
holds_what_is_owed core is = (is.state, is.stands, (reached_is_sound core.plan (inputs_of core) is.plan is.events is.state is.legal).owed)
