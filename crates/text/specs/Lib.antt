-- The text of the replay program's lines.
pub mod Lines
