pub mod Arrivals
pub mod Choices
pub mod Identity
pub mod Limits
pub mod LossyInlets
pub mod MemLinkView
pub mod RingViews
pub mod Treating
