pub mod Aided
pub mod Columns
pub mod Dominance
pub mod Symmetry
pub mod Uncovered
