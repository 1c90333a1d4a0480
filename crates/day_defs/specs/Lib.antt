pub mod Office
pub mod Server
pub mod Day
