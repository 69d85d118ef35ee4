pub mod Counting
pub mod Passing
pub mod Said
pub mod Walking
pub use Rattle.evaluation.specs.StageRows
pub use Rattle.plan_reader.specs.PlanView
pub use Rattle.row_origin.specs.Marks
pub use Rattle.row_origin.specs.Origins
