-- Events, answers and refusals: this paper's numbers for each, and the operands in range.
pub mod Numbers
pub mod Ranges
