-- How many packets a node sent to each receiver.
use Rattle.std.specs.Prelude.{ℕ, ◌≡◌, List, length, unwrap_or}
use Rattle.std.specs.BTreeMap.{BTreeMap, get}
use Rattle.std.specs.List.{flat_map}
use Rattle.tuple_edge.specs.Node.{node_cmp}
use Rattle.tuple_edge.specs.declared.node.NodeId.{NodeId}
use Rattle.tuple_edge.specs.declared.packet.Body.{Body}
use Rattle.pair_machine.specs.Links.{link}
use Rattle.flux_core.specs.CoreView.{CoreView, station}
use Rattle.flux_core.specs.Sent.{bodies_to}
use Rattle.state_text.specs.StateText.{sent_line}

-- the count that a map has for one receiver; where it has none, none went there
abbrev pub count_in : BTreeMap NodeId ℕ → NodeId → ℕ
count_in counts to = unwrap_or (get node_cmp counts to) 0

-- how many of these packets go to one receiver
abbrev pub packets_to : NodeId → List (NodeId × Body) → ℕ
packets_to to packets = length (bodies_to to packets)

-- a map has for each receiver how many of these packets went there
abbrev pub AreCounted : BTreeMap NodeId ℕ → List (NodeId × Body) → Type 0
AreCounted counts packets = (to : NodeId) → count_in counts to ≡ packets_to to packets

-- what is written of the links out of a node to these nodes, as contracts see the node's packets
abbrev pub links_shown : CoreView → List NodeId → NodeId → List ℕ
links_shown core nodes from = flat_map (λ to. sent_line (link from to) (packets_to to (station core from).sent)) nodes
