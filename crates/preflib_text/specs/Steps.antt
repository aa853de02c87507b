pub mod Cuts
pub mod Tells
pub mod Tokens
pub mod Marks
pub mod Notes
pub mod After
pub mod Pieces
pub mod Answers
