-- The countdown that a timer's position and its counter both are.
pub mod Countdown
