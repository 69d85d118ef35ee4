pub mod Alone
pub mod Files
pub mod Text
pub mod Told
pub use Rattle.plan_reader.specs.PlanView
