-- The course of a node: its events in order, with the packet that each one took and the packets that it sent. A course is true where
-- the machine, told the messages that the taken packets stand for, does the same, and sends messages for which the packets sent stand.
use Rattle.std.specs.Prelude.{◌≡◌, ◌<◌, ◌==◌, ℕ, List, [], ◌∷◌, ◌++◌, Option, None, Some, Result, Ok, Err, if◌then◌else◌}
use Rattle.tuple_edge.specs.declared.event.Event.{Event}
use Rattle.tuple_edge.specs.declared.event.Event.TheVariants as event
use Rattle.tuple_edge.specs.declared.event.Stamped.{Stamped}
use Rattle.tuple_edge.specs.declared.node.LinkId.{LinkId}
use Rattle.tuple_edge.specs.declared.node.NodeId.{NodeId}
use Rattle.tuple_edge.specs.declared.packet.Body.{Body}
use Rattle.tuple_edge.specs.declared.packet.Packet.{Packet}
use Rattle.pair_machine.specs.Numbers.{Node, is_node}
use Rattle.pair_machine.specs.Messages.{Message, Envelope, Act, Takes, Works, Makes, Dies, AsksStop, AsksBack, Refusal}
use Rattle.pair_machine.specs.Flow.{Flow}
use Rattle.pair_machine.specs.Lists.{Each}
use Rattle.pair_machine.specs.Links.{IsThere, link}
use Rattle.pair_machine.specs.Machine.{at_node, does, messages_to, new_node, nth_from_one}

-- one event of a node: its clock, the packet that it took, and the packets that it sent to each node
pub record Moment : Type 0 where
  pub clock : ℕ
  pub event : Event
  pub took : Option Packet
  pub gave : NodeId → List Packet

-- all packets sent to n by a course that begins with its first moment
abbrev pub given : NodeId → List Moment → List Packet
given n [] = []
given n (m ∷ ms) = m.gave n ++ given n ms

-- the same, by moments of which the newest stands first
abbrev pub given_back : NodeId → List Moment → List Packet
given_back n [] = []
given_back n (m ∷ ms) = given_back n ms ++ m.gave n

-- the whole course: moments of which the newest stands first, and those after them
abbrev pub onto : List Moment → List Moment → List Moment
onto [] later = later
onto (m ∷ before) later = onto before (m ∷ later)

-- ---- replay

-- what was sent before stands in front of what a step sends; a refusal stays a refusal
abbrev pub also : List Envelope → Result (Node × List Envelope) Refusal → Result (Node × List Envelope) Refusal
also out (Ok d) = Ok (d.0, out ++ d.1)
also out (Err e) = Err e

-- one more act, at the numbers that the acts before it left; after a refusal no act changes anything
abbrev pub acted_on : Flow → NodeId → Act → Result (Node × List Envelope) Refusal → Result (Node × List Envelope) Refusal
acted_on f n a (Ok d) = also d.1 (does f n a d.0)
acted_on f n a (Err e) = Err e

-- a node's numbers after acts, of which the newest stands first, and all that they send
abbrev pub replay : Flow → NodeId → List Act → Result (Node × List Envelope) Refusal
replay f n [] = Ok (new_node n, [])
replay f n (a ∷ acts) = acted_on f n a (replay f n acts)

-- the elements of two lists are related one by one
abbrev pub Pairwise : {X Y : Type 0} → (X → Y → Type 0) → List X → List Y → Type 0
Pairwise R [] [] = Unit {0}
Pairwise R [] (y ∷ ys) = ⊥
Pairwise R (x ∷ xs) [] = ⊥
Pairwise R (x ∷ xs) (y ∷ ys) = R x y × Pairwise R xs ys

-- packets sent to a node stand for messages to it
abbrev pub ArePacketsOf : (LinkId → Body → Message → Type 0) → LinkId → List Packet → List Message → Type 0
ArePacketsOf Stands l packets messages = Pairwise (λ packet message. Stands l packet.body message) packets messages

-- packets that a node sends stand for envelopes, one by one: each has the same receiver, and its body stands for the message there
abbrev pub ArePacketsFor : (LinkId → Body → Message → Type 0) → NodeId → List (NodeId × Body) → List Envelope → Type 0
ArePacketsFor Stands sender packets envelopes = Pairwise (λ packet e. (packet.0 ≡ e.to) × Stands (link sender e.to) packet.1 e.message) packets envelopes

-- those to one node, in order, each with the sender's clock
abbrev pub packets_to : ℕ → NodeId → List (NodeId × Body) → List Packet
packets_to clock to [] = []
packets_to clock to (p ∷ ps) = if is_node p.0 to then record { at = clock; body = p.1 } ∷ packets_to clock to ps else packets_to clock to ps

-- ---- true courses; what a body stands for on a link, and what is asked of a node's numbers and its act, are handed in

module _ (f : Flow) (Stands : LinkId → Body → Message → Type 0) (Asks : NodeId → Node → Act → Type 0) where
  -- the act that an event asks for, with the packet that was taken
  abbrev pub ActFor : NodeId → Event → Option Packet → Act → Type 0
  ActFor n (event.Take l k) None a = ⊥
  ActFor n (event.Take l k) (Some packet) a = (m : Message) × (a ≡ Takes l.from m) × Stands l packet.body m
  ActFor n (event.Work k) o a = a ≡ Works
  ActFor n event.Make o a = a ≡ Makes
  ActFor n (event.Kill k) o a = a ≡ Dies
  ActFor n (event.AskStop k) o a = a ≡ AsksStop
  ActFor n (event.AskBack k) o a = a ≡ AsksBack
  ActFor n (event.Pull from to) o a = ⊥

  -- the acts that the moments of a course ask for, one for each, in order
  abbrev pub ActsFor : NodeId → List Moment → List Act → Type 0
  ActsFor n [] [] = Unit {0}
  ActsFor n [] (a ∷ acts) = ⊥
  ActsFor n (m ∷ ms) [] = ⊥
  ActsFor n (m ∷ ms) (a ∷ acts) = ActFor n m.event m.took a × ActsFor n ms acts

  -- what is asked of an act at the numbers that were reached; nothing is asked where none were, as a replay was refused
  abbrev pub AskedAt : NodeId → Act → Result (Node × List Envelope) Refusal → Type 0
  AskedAt n a (Ok d) = Asks n d.0 a
  AskedAt n a (Err e) = Unit {0}

  -- each act meets what is asked, at the numbers that the acts before it left
  abbrev pub AllAsked : NodeId → List Act → Type 0
  AllAsked n [] = Unit {0}
  AllAsked n (a ∷ acts) = AskedAt n a (replay f n acts) × AllAsked n acts

  -- the replay meets no refusal, and the packets sent stand for its messages
  abbrev pub Replayed : NodeId → List Moment → Result (Node × List Envelope) Refusal → Type 0
  Replayed n before (Ok d) = (to : NodeId) → ArePacketsOf Stands (link n to) (given_back to before) (messages_to to d.1)
  Replayed n before (Err e) = ⊥

  -- whatever messages its packets stand for, each front of the course is replayed right
  abbrev pub IsReplayedRight : NodeId → List Moment → Type 0
  IsReplayedRight n course = (before later : List Moment) → onto before later ≡ course → (acts : List Act) → ActsFor n before acts → AllAsked n acts → Replayed n before (replay f n acts)

  -- a course is true
  pub record IsTrueCourse (n : NodeId) (course : List Moment) : Type 0 where
    pub here : Each (λ m. at_node m.event ≡ n) course
    pub there : Each (λ m. IsThere f m.event) course
    pub stamped : Each (λ m. (to : NodeId) → Each (λ g. g.at ≡ m.clock) (m.gave to)) course
    pub right : IsReplayedRight n course

-- ---- courses that agree

-- the packet that an event took is the one that its sender's course has at that index, sent at a lesser clock; a pull is in no course
abbrev pub TookSent : (NodeId → List Moment) → ℕ → Event → Option Packet → Type 0
TookSent courses c (event.Take l k) None = ⊥
TookSent courses c (event.Take l k) (Some p) = (nth_from_one (given l.to (courses l.from)) k ≡ Some p) × (p.at < c)
TookSent courses c (event.Pull from to) o = ⊥
TookSent courses c e o = Unit {0}

-- all courses agree: each packet taken is the one sent at its index, and was sent before
abbrev pub Agree : (NodeId → List Moment) → Type 0
Agree courses = (n : NodeId) → Each (λ m. TookSent courses m.clock m.event m.took) (courses n)

-- ---- a course by what a node keeps: its history, the packets taken on each in-link, and the packets sent on each out-link

-- those of a node's packets that it sent at clock c
abbrev pub sent_at : ℕ → List Packet → List Packet
sent_at c [] = []
sent_at c (p ∷ ps) = if p.at == c then p ∷ sent_at c ps else sent_at c ps

-- which packet came to a node from which node under which index; on an exact link an index is a place among those that came
abbrev pub Arrivals : Type 0
Arrivals = NodeId → ℕ → Option Packet

-- the packet that an event takes
abbrev pub taken_at : Arrivals → Event → Option Packet
taken_at arrived (event.Take l k) = arrived l.from k
taken_at arrived e = None

-- an entry of a history as a moment: with the packet that arrived for it, and the packets sent at its clock
abbrev pub moment_of : Arrivals → (sent : NodeId → List Packet) → Stamped → Moment
moment_of arrived sent h = record { clock = h.clock; event = h.event; took = taken_at arrived h.event; gave = λ to. sent_at h.clock (sent to) }

-- a history as a course: a moment for each entry, in the same order
abbrev pub course_of : Arrivals → (sent : NodeId → List Packet) → List Stamped → List Moment
course_of arrived sent [] = []
course_of arrived sent (h ∷ hs) = moment_of arrived sent h ∷ course_of arrived sent hs

-- a packet was taken where the event takes one, and it was sent before
abbrev pub TookBefore : ℕ → Event → Option Packet → Type 0
TookBefore c (event.Take l k) None = ⊥
TookBefore c (event.Take l k) (Some p) = p.at < c
TookBefore c (event.Pull from to) o = ⊥
TookBefore c e o = Unit {0}

module _ (f : Flow) (Stands : LinkId → Body → Message → Type 0) (Asks : NodeId → Node → Act → Type 0) where
  -- the numbers that were reached are such; where a replay was refused they are not
  abbrev pub StandsAt : (Node → Type 0) → Result (Node × List Envelope) Refusal → Type 0
  StandsAt P (Ok d) = P d.0
  StandsAt P (Err e) = ⊥

  -- what a node keeps of its history: it is a true course
  pub record IsTrueHistory (n : NodeId) (arrived : Arrivals) (sent : NodeId → List Packet) (history : List Stamped) : Type 0 where
    pub here : Each (λ h. at_node h.event ≡ n) history
    pub there : Each (λ h. IsThere f h.event) history
    pub before : Each (λ h. TookBefore h.clock h.event (taken_at arrived h.event)) history
    pub whole : (to : NodeId) → given to (course_of arrived sent history) ≡ sent to
    pub right : IsReplayedRight f Stands Asks n (course_of arrived sent history)

  -- and what it keeps of itself: whatever messages the packets stand for, it stands for the numbers after them, as P says
  pub record IsTrueNode (n : NodeId) (P : Node → Type 0) (arrived : Arrivals) (sent : NodeId → List Packet) (history : List Stamped) : Type 0 where
    pub kept : IsTrueHistory n arrived sent history
    pub stands : (before : List Moment) → onto before [] ≡ course_of arrived sent history → (acts : List Act) → ActsFor f Stands Asks n before acts → AllAsked f Stands Asks n acts → StandsAt P (replay f n acts)

  -- Before each event of a node's history its numbers meet N of that event: whatever messages its packets until then stand for, the replay of
  -- what came before gives such numbers.
  abbrev pub MeetsBeforeEach : (Event → Node → Type 0) → NodeId → Arrivals → (NodeId → List Packet) → List Stamped → Type 0
  MeetsBeforeEach N n arrived sent history = (before : List Moment) (m : Moment) (later : List Moment) → onto before (m ∷ later) ≡ course_of arrived sent history
      → (acts : List Act) → ActsFor f Stands Asks n before acts → AllAsked f Stands Asks n acts → StandsAt (N m.event) (replay f n acts)

  -- What one event owes: at whatever numbers the node stands for, the machine's step is one, the node stands for the numbers after it,
  -- and what it sent stands for the machine's messages.
  abbrev pub IsStep : NodeId → (P P_after : Node → Type 0) → Event → Option Packet → (NodeId → List Packet) → Type 0
  IsStep n P P_after e o new = (a : Act) → ActFor f Stands Asks n e o a → (x : Node) → P x → Asks n x a →
      (d : Node × List Envelope) × (does f n a x ≡ Ok d) × P_after d.0 × ((to : NodeId) → ArePacketsOf Stands (link n to) (new to) (messages_to to d.1))

-- what came on a link under an index is what was sent there at that place, also where some was lost, repeated or overtaken
abbrev pub IsSentAtItsIndex : (ℕ → Option Packet) → List Packet → Type 0
IsSentAtItsIndex arrived sent = (k : ℕ) (p : Packet) → arrived k ≡ Some p → nth_from_one sent k ≡ Some p
