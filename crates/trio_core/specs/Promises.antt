-- What holds of a core after any events, whether groups are lost or not.
use Rattle.std.specs.Prelude.{List, [], Option, None, Some}
use Rattle.std.specs.Option.{option_and_then}
use Rattle.tuple_edge.specs.declared.row.Row.{Row}
use Rattle.ingress_egress.specs.EgressView.{EgressView, IsFrontOf}
use Rattle.pair_machine.specs.Output.{output}
use Rattle.trio_machine.specs.Machine.{State}
use Rattle.trio_machine.specs.Sound.{IsOwed}
use Rattle.trio_machine.specs.declared.node.TrioNode.TheVariants as node
use Rattle.trio_core.specs.CoreView.{CoreView, StationView, flow_in, found, inputs_of}
use Rattle.trio_core.specs.Ends.{egress_in}
use Rattle.trio_core.specs.Stands.{StandsFor}

-- egress of a core
abbrev pub egress_of : CoreView → Option EgressView
egress_of core = option_and_then (λ (at : StationView). egress_in at.member) (found node.Egress core.stations)

-- the rows that egress has emitted, if it is there
abbrev pub rows_of : Option EgressView → List Row
rows_of None = []
rows_of (Some e) = e.emitted

-- the rows that egress of a core has emitted
abbrev pub emitted_by : CoreView → List Row
emitted_by core = rows_of (egress_of core)

-- what egress emitted is a front of the plan's output: its first rows, each once and in order
abbrev pub EmitsAFront : CoreView → Type 0
EmitsAFront core = IsFrontOf (emitted_by core) (output core.plan (inputs_of core))

-- the buffers hold what takeover owes
abbrev pub HoldsWhatIsOwed : CoreView → Type 0
HoldsWhatIsOwed core = (s : State) × StandsFor core s × IsOwed (flow_in core) s
