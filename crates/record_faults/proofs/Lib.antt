mod HeaderFacts
mod Judges
mod OneMore
mod SymbolFacts
pub mod Accepted
pub mod Alone
pub mod First
pub mod Records
pub mod Rows
