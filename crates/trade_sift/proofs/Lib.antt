pub mod Once
mod Parts
