-- The text of the replay program for a whole tape.
pub mod Transcript
pub mod Private
