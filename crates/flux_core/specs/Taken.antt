-- What a link has at a place.
use Rattle.std.specs.Prelude.{◌≡◌, ℕ, List, None, Some, length}
use Rattle.tuple_edge.specs.declared.node.LinkId.{LinkId}
use Rattle.tuple_edge.specs.declared.packet.Body.{Body}
use Rattle.pair_machine.specs.Machine.{nth_from_one}
use Rattle.node_tasks.specs.declared.task.Task.TheVariants as task
use Rattle.flux_core.specs.declared.asked.Asked.{Asked}
use Rattle.flux_core.specs.declared.asked.Asked.TheVariants as asked
use Rattle.flux_core.specs.declared.error.ApplyError.{ApplyError}
use Rattle.flux_core.specs.declared.error.ApplyError.TheVariants as error

-- it is asked to take the packet that stands at this place among those of the link
abbrev pub IsPacketOf : List Body → LinkId → ℕ → Asked → Type 0
IsPacketOf bodies link index (asked.Task (task.Take from place packet)) = (from ≡ link.from) × (nth_from_one bodies index ≡ Some packet.body)
IsPacketOf bodies link index other = ⊥

-- none stands there, and so many do
abbrev pub IsMissing : List Body → LinkId → ℕ → ApplyError → Type 0
IsMissing bodies link index (error.NotSent l i sent) = (l ≡ link) × (i ≡ index) × (sent ≡ length bodies) × (nth_from_one bodies index ≡ None)
IsMissing bodies link index error.OutOfMemory = Unit {0}
IsMissing bodies link index e = ⊥
