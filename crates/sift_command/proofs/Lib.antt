mod Refusals
mod Ways
