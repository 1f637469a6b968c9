-- A record's bytes and what they mean.
pub mod Records
pub mod Taken
pub mod Verdicts
