mod Placing
mod Ways
