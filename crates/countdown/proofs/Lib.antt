-- The laws of a countdown and of n clocks, proved once over the divisor.
pub mod Countdowns
pub mod Pulses
pub mod AtOnce
