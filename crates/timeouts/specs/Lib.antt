-- Clocks, count pulses and timeouts of the four timers.
pub mod Clocks
