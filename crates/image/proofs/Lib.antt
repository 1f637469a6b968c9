-- What an accepted image has shown, and the round trips of its parts.
pub mod Loads
pub mod Parts
