-- The rules of one timer.
pub mod Timers
