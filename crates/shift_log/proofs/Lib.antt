mod Runs
mod Shifts
mod Seconds
