mod Settling
mod Reached
