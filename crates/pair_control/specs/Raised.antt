-- What a controller acknowledges, in words of its own: by the reports of the replicas that aren't down.
use Rattle.std.specs.Prelude.{ℕ, max, min, slice_index}
use Rattle.tuple_edge.specs.declared.status.Status.{Status}
use Rattle.tuple_edge.specs.declared.status.Status.TheVariants as status
use Rattle.pair_control.specs.ControllerView.{ControllerView}

-- the greater of what was acknowledged and the least report of the replicas that aren't down; where both are down what was acknowledged
abbrev pub raised : ℕ → Status → ℕ → Status → ℕ → ℕ
raised known status.Down a status.Down b = known
raised known status.Down a held b = max known b
raised known held a status.Down b = max known a
raised known a_status a b_status b = max known (min a b)

-- what is acknowledged of in-edge q, by what was acknowledged before and what is known of the replicas now
abbrev pub acked_after : ControllerView → ControllerView → ℕ → ℕ
acked_after before now q = raised (slice_index before.acked q) now.a.status (slice_index now.a.reports q) now.b.status (slice_index now.b.reports q)
