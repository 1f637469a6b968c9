-- The laws of signals that their functions use.
pub mod Changes
