pub mod Ends
pub mod Nexts
pub mod Rule
pub mod Settling
