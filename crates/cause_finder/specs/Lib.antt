pub mod Found
pub mod Trails
pub use Rattle.op_spec.specs.Spec
pub use Rattle.plan_reader.specs.PlanView
pub use Rattle.row_cause.specs.Causes
pub use Rattle.row_origin.specs.Stages
pub use Rattle.tuple_edge.specs.Row
