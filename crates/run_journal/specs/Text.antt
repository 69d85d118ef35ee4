-- The canonical text of events.
use Rattle.std.specs.Prelude.{ℕ, ◌≡◌, ◌≤◌, ◌+◌, true, All, List, [], ◌∷◌, ◌++◌, codes, length}
use Rattle.std.specs.Fmt.{decimal}
use Rattle.std.specs.List.{flat_map}
use Rattle.tuple_edge.specs.declared.event.Event.{Event}
use Rattle.tuple_edge.specs.declared.event.Event.TheVariants as event
use Rattle.tuple_edge.specs.declared.node.LinkId.{LinkId}
use Rattle.tuple_edge.specs.declared.node.NodeId.{NodeId}
use Rattle.tuple_edge.specs.declared.node.NodeId.TheVariants as node
use Rattle.tuple_edge.specs.declared.node.Which.{Which}
use Rattle.tuple_edge.specs.declared.node.Which.TheVariants as which
use Rattle.text_words.specs.Lines.{Word}
use Rattle.text_words.specs.Text.{line_text}
use Rattle.plan_reader.specs.Nodes.{has_edge, has_link, has_node, has_replica}
use Rattle.plan_reader.specs.PlanView.{PlanView}
use Rattle.run_journal.specs.Limits.{max_events, max_events_bytes, max_index}
use Rattle.run_journal.specs.declared.lined.Lined.{Lined}

-- ---- names

-- the letter of a replica
abbrev pub letter_of : Which → Word
letter_of which.A = codes "a"
letter_of which.B = codes "b"

-- the name of a node of the pair that runs this partition of this stage
abbrev pub member_name : ℕ → ℕ → Word → Word
member_name stage part letter = decimal stage ++ (codes "." ++ (decimal part ++ (codes "." ++ letter)))

-- the name of a node
abbrev pub node_name : NodeId → Word
node_name node.Ingress = codes "in"
node_name (node.Replica stage part which) = member_name stage part (letter_of which)
node_name (node.Control stage part) = member_name stage part (codes "c")
node_name node.Egress = codes "out"

-- the name of a link: the names of the nodes at its ends, with `>` between them
abbrev pub link_name : LinkId → Word
link_name link = node_name link.from ++ (codes ">" ++ node_name link.to)

-- ---- lines

-- the words of an event: what it is, and which nodes or which packet it is of
abbrev pub event_words : Event → List Word
event_words (event.Take link index) = codes "take" ∷ link_name link ∷ decimal index ∷ []
event_words (event.Work n) = codes "work" ∷ node_name n ∷ []
event_words event.Make = codes "make" ∷ []
event_words (event.Kill n) = codes "kill" ∷ node_name n ∷ []
event_words (event.AskStop n) = codes "askstop" ∷ node_name n ∷ []
event_words (event.AskBack n) = codes "askback" ∷ node_name n ∷ []
event_words (event.Pull from to) = codes "pull" ∷ node_name from ∷ node_name to ∷ []

-- the canonical text of events: the fixed line, and each event in a line of its own
unfoldable pub events_text : List Event → List ℕ
events_text events = line_text (codes "events" ∷ codes "1" ∷ []) ++ flat_map (λ e. line_text (event_words e)) events

-- events in lines one after another, from this one on
abbrev pub lined_from : ℕ → List Event → List Lined
lined_from line [] = []
lined_from line (e ∷ events) = record { line = line; event = e } ∷ lined_from (line + 1) events

-- ---- limits

-- an event names what a plan has
abbrev pub IsNamed : PlanView → Event → Type 0
IsNamed plan (event.Take link index) = (has_link plan link ≡ true) × (index ≤ max_index)
IsNamed plan (event.Work n) = has_node plan n ≡ true
IsNamed plan event.Make = Unit {0}
IsNamed plan (event.Kill n) = has_replica plan n ≡ true
IsNamed plan (event.AskStop n) = has_replica plan n ≡ true
IsNamed plan (event.AskBack n) = has_replica plan n ≡ true
IsNamed plan (event.Pull from to) = has_edge plan from to ≡ true

-- events that a text can say to a plan
pub record AreSayable (plan : PlanView) (events : List Event) : Type 0 where
  pub few : length events ≤ max_events
  pub short : length (events_text events) ≤ max_events_bytes
  pub named : All (IsNamed plan) events
