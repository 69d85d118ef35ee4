mod Merging
mod Worked
