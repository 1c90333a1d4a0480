mod Worked
pub mod Pieces
pub mod Round
pub mod Unsigned
pub mod Waiting
mod WorkedAnswers
pub mod Finding
pub mod Taken
