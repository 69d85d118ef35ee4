pub mod Agreement
pub mod Choosing
pub mod Machine
pub mod Parts
pub mod Stages
pub mod Warned
