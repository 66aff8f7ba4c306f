mod Clashing
mod Least
mod Repeats
