pub mod Told
pub mod Trace
pub use Rattle.plan_reader.specs.PlanView
pub use Rattle.reach_finder.specs.Found
