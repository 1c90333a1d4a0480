mod Parts
mod Comments
mod Outer
mod Entering
mod Steps
mod Halting
mod Whole
