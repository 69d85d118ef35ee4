-- What contracts see of a log, and of the senders that it knows.
use Rattle.std.specs.Prelude.{◌≡◌, ℕ, zero, suc, ◌+◌, ◌++◌, List, [], ◌∷◌, map}
use Rattle.tuple_edge.specs.declared.event.Event.{Event}
use Rattle.tuple_edge.specs.declared.event.Event.TheVariants as event
use Rattle.tuple_edge.specs.declared.event.History.{History}
use Rattle.tuple_edge.specs.declared.event.Stamped.{Stamped}
use Rattle.tuple_edge.specs.declared.node.NodeId.{NodeId}
use Rattle.event_log.specs.declared.entry.Entry.{Entry}

-- a log: whose it is, the events in order, and how many more fit without memory
pub record LogView : Type 0 where
  pub node : NodeId
  pub entries : List Stamped
  pub spare : ℕ

-- logs as lists with their nodes
abbrev pub named_logs : List LogView → List (NodeId × List Stamped)
named_logs logs = map (λ l. (l.node, l.entries)) logs

-- histories as lists with their nodes
abbrev pub named_histories : List History → List (NodeId × List Stamped)
named_histories histories = map (λ h. (h.node, h.entries.items)) histories

-- an event so many times, one after another, with the clocks that follow on this one
abbrev pub repeated_after : Event → ℕ → ℕ → List Stamped
repeated_after e clock zero = []
repeated_after e clock (suc times) = record { clock = clock + 1; event = e } ∷ repeated_after e (clock + 1) times

-- so many pieces of work of a node, likewise
abbrev pub works_after : NodeId → ℕ → ℕ → List Stamped
works_after node clock times = repeated_after (event.Work node) clock times

-- so many makes, likewise
abbrev pub makes_after : ℕ → ℕ → List Stamped
makes_after clock times = repeated_after event.Make clock times

-- the senders from which a node took: their names, the index of the last take from each, and how many more fit without memory
pub record SendersView : Type 0 where
  pub nodes : List NodeId
  pub taken : List ℕ
  pub spare : ℕ

-- the senders are as they were, or there are more, from which nothing was taken yet
pub record AreMet (before after : SendersView) : Type 0 where
  pub more : List NodeId
  pub nodes : after.nodes ≡ before.nodes ++ more
  pub taken : after.taken ≡ before.taken ++ map (λ sender. 0) more

-- the entries of a log in order, what comes where the last one comes again, and how many more fit without memory
pub record EntriesView : Type 0 where
  pub entries : List Entry
  pub again : Entry
  pub spare : ℕ
