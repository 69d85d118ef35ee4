pub mod CausesFound
pub mod Spots
pub mod TrailRows
pub mod TrailSteps
