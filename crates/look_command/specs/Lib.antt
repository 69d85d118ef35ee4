pub mod Check
pub mod Courses
pub mod Kinds
pub mod Reports
pub mod Trying
pub use Rattle.command_course.specs.Answers
pub use Rattle.command_course.specs.FeedView
pub use Rattle.command_course.specs.Inputs
pub use Rattle.command_course.specs.Steps
pub use Rattle.failure_script.specs.Limits as FailureScriptLimits
pub use Rattle.input_faults.specs.WordFaults
pub use Rattle.pair_machine.specs.Machine
pub use Rattle.plan_reader.specs.Limits as PlanReaderLimits
pub use Rattle.run_command.specs.Scripts
pub use Rattle.trade_text.specs.Limits as TradeTextLimits
