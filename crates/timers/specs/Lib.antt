-- The timers' registers.
pub mod Registers
