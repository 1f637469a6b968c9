-- A whole run.
pub mod Runs
