-- What a link has at a place.
use Rattle.std.specs.Prelude.{◌≡◌, ℕ, List, None, Some, length}
use Rattle.pair_machine.specs.Machine.{nth_from_one}
use Rattle.trio_machine.specs.declared.body.TrioBody.{TrioBody}
use Rattle.trio_machine.specs.declared.node.TrioNode.{TrioNode}
use Rattle.trio_core.specs.declared.error.TrioError.{TrioError}
use Rattle.trio_core.specs.declared.error.TrioError.TheVariants as error
use Rattle.trio_core.specs.declared.task.TrioTask.{TrioTask}
use Rattle.trio_core.specs.declared.task.TrioTask.TheVariants as task

-- the task is to take the packet that stands at this place among those of the link
abbrev pub IsPacketOf : List TrioBody → TrioNode → ℕ → TrioTask → Type 0
IsPacketOf bodies from index (task.Take sender b) = (sender ≡ from) × (nth_from_one bodies index ≡ Some b)
IsPacketOf bodies from index t = ⊥

-- none stands there, and so many do
abbrev pub IsMissing : List TrioBody → ℕ → TrioError → Type 0
IsMissing bodies index (error.NotSent i sent) = (i ≡ index) × (sent ≡ length bodies) × (nth_from_one bodies index ≡ None)
IsMissing bodies index error.OutOfMemory = Unit {0}
IsMissing bodies index e = ⊥
