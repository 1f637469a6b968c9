-- What the program makes and prints.
pub mod Rows
