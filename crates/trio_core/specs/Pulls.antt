-- What a pull finds at its two ends.
use Rattle.std.specs.Prelude.{◌≡◌, ◌⊎◌, ◌≤◌, ◌<◌, ◌+◌, ℕ, Option, None, Some, length}
use Rattle.tuple_edge.specs.declared.item.Item.{Item}
use Rattle.ack_buffer.specs.Buffer.{item_at}
use Rattle.flux_consumer.specs.ConsumerView.{ConsumerView}
use Rattle.flux_producer.specs.ProducerView.{ProducerView, buffer_at}
use Rattle.merge_order.specs.MergeView.{mark_of}
use Rattle.trio_core.specs.declared.error.TrioError.{TrioError}
use Rattle.trio_core.specs.declared.error.TrioError.TheVariants as error
use Rattle.trio_core.specs.declared.task.TrioTask.{TrioTask}
use Rattle.trio_core.specs.declared.task.TrioTask.TheVariants as task

-- the item after the consumer's mark of in-edge q is kept on the producer's out-edge t
pub record IsKept (p : ProducerView) (t : ℕ) (c : ConsumerView) (q : ℕ) (i : Item) : Type 0 where
  pub low : (buffer_at p t).low ≤ mark_of c.merge q
  pub produced : mark_of c.merge q < (buffer_at p t).produced
  pub item : item_at (buffer_at p t) (mark_of c.merge q + 1) ≡ Some i

-- the task is to pull that item
abbrev pub IsPullOf : Option ProducerView → ℕ → Option ConsumerView → ℕ → TrioTask → Type 0
IsPullOf (Some p) t (Some c) q (task.Pull edge i) = (edge ≡ q) × (t < length p.edges) × (q < length c.merge.marks) × IsKept p t c q i
IsPullOf p t c q other = ⊥

-- an end doesn't run, or that item isn't kept
abbrev pub IsNoPull : Option ProducerView → ℕ → Option ConsumerView → ℕ → TrioError → Type 0
IsNoPull None t c q error.NotRunning = Unit {0}
IsNoPull (Some p) t None q error.NotRunning = Unit {0}
IsNoPull (Some p) t (Some c) q (error.NotHeld low mark produced) =
    (t < length p.edges) × (q < length c.merge.marks) × (low ≡ (buffer_at p t).low) × (mark ≡ mark_of c.merge q) × (produced ≡ (buffer_at p t).produced) × ((mark < low) ⊎ (produced ≤ mark))
IsNoPull p t c q error.OutOfMemory = Unit {0}
IsNoPull p t c q other = ⊥
