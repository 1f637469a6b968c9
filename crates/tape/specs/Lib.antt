-- The tape of events, by its records.
pub mod Tapes
