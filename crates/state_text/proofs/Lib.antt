pub mod Below
pub mod CoreLines
pub mod Counting
pub mod EdgeLines
pub mod Held
pub mod Moves
pub mod NodeLines
pub mod Worked
