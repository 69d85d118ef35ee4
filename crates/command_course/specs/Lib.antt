pub mod Answers
pub mod Course
pub mod FeedView
pub mod Feeds
pub mod Inputs
pub mod Lines
pub mod Steps
pub use Rattle.plan_reader.specs.Limits as PlanReaderLimits
pub use Rattle.trade_text.specs.Limits as TradeTextLimits
