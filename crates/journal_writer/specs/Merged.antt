-- The logs of nodes as one list: by clock, and the events of one clock in the order of nodes.
use Rattle.std.specs.Prelude.{◌≡◌, ◌≤◌, ℕ, List, [], ◌∷◌, Option, Some, None, map, min}
use Rattle.std.specs.declared.cmp.Ordering.TheVariants.{Less}
use Rattle.tuple_edge.specs.Node.{node_cmp}
use Rattle.tuple_edge.specs.declared.event.Event.{Event}
use Rattle.tuple_edge.specs.declared.event.Stamped.{Stamped}
use Rattle.tuple_edge.specs.declared.node.NodeId.{NodeId}
use Rattle.pair_machine.specs.Joint.{AreRising, Logged, logged_events, put_history}
use Rattle.pair_machine.specs.Lists.{Each}

-- a log, or what of it is still to be read: its node, and the events in order
abbrev pub Named : Type 0
Named = NodeId × List Stamped

-- the events of logs, each with its node, by clock and node
abbrev pub merged : List Named → List Logged
merged [] = []
merged (l ∷ logs) = put_history l.0 l.1 (merged logs)

-- the events of logs, by clock and node
abbrev pub merged_events : List Named → List Event
merged_events logs = logged_events (merged logs)

-- each node stands before those that come after it in the order of nodes
abbrev pub AreAscending : List NodeId → Type 0
AreAscending [] = Unit {0}
AreAscending (n ∷ ns) = Each (λ m. node_cmp n m ≡ Less) ns × AreAscending ns

-- logs in the order of their nodes, in each of which the clocks rise
pub record AreMergeable (logs : List Named) : Type 0 where
  pub ascending : AreAscending (map (λ (l : Named). l.0) logs)
  pub rising : Each (λ (l : Named). AreRising l.1) logs

-- ---- the next clock

-- the clock of the first event
abbrev pub first_clock : List Stamped → Option ℕ
first_clock [] = None
first_clock (s ∷ ss) = Some s.clock

-- the lesser of two clocks, where there are any
abbrev pub earlier : Option ℕ → Option ℕ → Option ℕ
earlier None b = b
earlier (Some m) None = Some m
earlier (Some m) (Some n) = Some (min m n)

-- the least of this clock and the first ones of logs
abbrev pub least_from : Option ℕ → List Named → Option ℕ
least_from a [] = a
least_from a (l ∷ logs) = least_from (earlier a (first_clock l.1)) logs

-- the first event, if there is one, has this clock or a later one
abbrev pub BeginsFrom : ℕ → List Stamped → Type 0
BeginsFrom clock [] = Unit {0}
BeginsFrom clock (s ∷ ss) = clock ≤ s.clock

-- no log begins before this clock
abbrev pub AllBeginFrom : ℕ → List Named → Type 0
AllBeginFrom clock logs = Each (λ (l : Named). BeginsFrom clock l.1) logs
