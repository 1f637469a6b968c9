-- The laws of one timer.
pub mod Pulsed
pub mod Clocked
pub mod Rule
