pub mod Rounds
pub mod Landing
pub mod Resting
pub mod Lands
pub mod Shapes
pub mod Born
pub mod Caring
pub mod Idling
