-- what callers read, in this order
pub mod Bytes
pub mod Modes
pub mod Words
pub mod Numbers
pub mod Vocabulary
pub mod Texts
pub mod Rules
pub mod Outcomes
pub mod Lexing
pub mod Spans
-- inside
pub mod Letters
pub mod Labels
pub mod Leaders
pub mod Pieces
