use Rattle.std.proofs.Common.{◌≡◌, ◌≤◌, ◌++◌, length}
use Rattle.keyed_store.proofs.recent.HeapCircularBufferImage.image.Given as goal

abbrev pub invariant-loop-item : goal.invariant-loop-item
invariant-loop-item g l =
    (l.image.items ++ l.item-iterator ≡ l.fn.self.items)
    × (l.image.capacity ≡ l.fn.self.capacity)
    × (length l.fn.self.items ≤ l.fn.self.capacity)
