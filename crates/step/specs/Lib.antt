-- The rules of one event.
pub mod Clocks
pub mod Events
pub mod Private
