-- The device as a whole, and what a change of its signals does.
pub mod Whole
pub mod Signals
