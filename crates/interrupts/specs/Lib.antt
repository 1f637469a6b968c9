-- The rules of the interrupt controller's registers.
pub mod Interrupts
