-- The entries of histories, as the code holds them.
use Rattle.std.specs.Prelude.{List, map}
use Rattle.tuple_edge.specs.declared.event.History.{History}
use Rattle.pair_machine.specs.Joint.{Logged}
use Rattle.run_journal.specs.declared.histories.Placed.{Placed}

-- an entry of a history, as a log has it
abbrev pub logged : Placed → Logged
logged entry = record { at = entry.node; stamped = entry.stamped }

-- the entries of a history, each with its node
abbrev pub entries_of : History → List Placed
entries_of h = map (λ s. record { node = h.node; stamped = s }) h.entries.items
