-- The laws of the check of a tape.
pub mod Walk
pub mod Checks
