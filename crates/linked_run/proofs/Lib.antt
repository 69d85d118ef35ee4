pub mod Law
pub mod Settled
pub mod Gathered
pub mod Taps
pub mod Joining
