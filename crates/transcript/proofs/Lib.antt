-- The laws of a line in its place, of how many records a tape has, of the loop over them, of the whole text, and of the sentences on it.
pub mod Places
pub mod Codes
pub mod Printing
pub mod Texts
pub mod Sentences
