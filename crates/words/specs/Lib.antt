-- Class, value, IRQ and outputs as text.
pub mod Words
