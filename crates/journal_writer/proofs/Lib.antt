mod Clocks
mod Merging
mod Places
mod Steps
mod Texts
