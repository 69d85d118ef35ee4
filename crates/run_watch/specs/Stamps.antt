-- What is told at an event, by what is seen of its node.
use Rattle.std.specs.Prelude.{◌≡◌, ℕ, List, ◌++◌, Option}
use Rattle.tuple_edge.specs.declared.event.Event.{Event}
use Rattle.tuple_edge.specs.declared.node.NodeId.{NodeId}
use Rattle.tuple_edge.specs.declared.node.Which.TheVariants.{A, B}
use Rattle.tuple_edge.specs.Input.{Input}
use Rattle.plan_reader.specs.PlanView.{PlanView}
use Rattle.pair_machine.specs.Machine.{State}
use Rattle.run_watch.specs.Happenings.{each, happened, named, recalled}
use Rattle.run_watch.specs.Watching.{emitted_in, made_in}
use Rattle.run_watch.specs.declared.glimpse.Glimpse.{Glimpse}
use Rattle.run_watch.specs.declared.happening.Happening.{Happening}
use Rattle.run_watch.specs.declared.happening.Told.{Told}
use Rattle.run_watch.specs.declared.trace.At.{At}
use Rattle.run_watch.specs.declared.trace.Fall.{Fall}

-- a happening, told where the run is
abbrev pub stamped : At → Happening → Told
stamped at h = record { place = at.place; line = at.line; made = at.made; emitted = at.emitted; happening = h }

-- what happens at an event, by what is seen of its node before and after it, and by what is known of its pair
abbrev pub seen_happenings : (place : ℕ) → (falls : NodeId → Fall) → Event → NodeId → (before after : Glimpse) → (pair : Option Happening) → List Happening
seen_happenings place falls e n before after pair =
    each (happened e before after) ++ each (named place falls n before after) ++ each (recalled n A before after) ++ each (recalled n B before after) ++ each pair

-- that is where the run is, at the event of a place and a line after which it is in this state
abbrev pub IsAt : PlanView → List Input → At → (place line : ℕ) → State → Type 0
IsAt plan inputs at place line t = at ≡ record { place = place; line = line; made = made_in t; emitted = emitted_in plan inputs t }
