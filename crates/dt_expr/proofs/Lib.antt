mod Bounds
mod Heights
mod Runs
mod Shifts
mod Spelling
