-- An event of a device record, or its refusal.
pub mod Handling
