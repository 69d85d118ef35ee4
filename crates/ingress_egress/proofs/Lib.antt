pub mod EgressSteps
pub mod IngressSteps
mod EachSource
mod Admitting
pub mod EgressPlan
pub mod IngressPlan
pub mod Handing
pub mod Coming
