mod Ending
mod Lines
mod Naming
mod Ran
