pub mod Asking
pub mod Coming
pub mod Fronts
pub mod Numbered
pub mod Sent
pub mod Treating
