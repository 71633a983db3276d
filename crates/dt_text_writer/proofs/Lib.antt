mod HexDigits
pub mod Writing
