-- The limits of operators' settings and of times, and the slots of a join's rows, which are stated where the join is.
pub use Rattle.op_spec.specs.Limits.{max_join_rows, max_last_rows, max_time_seconds, max_window_seconds}
pub use Rattle.keyed_store.specs.Limits.{first_right_slot}
