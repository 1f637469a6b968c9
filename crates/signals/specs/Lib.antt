-- Signals, and what their changes raise.
pub mod Signals
pub mod Private
