mod GroupLines
mod Worked
