mod Telling
mod Wants
mod Ways
