-- what callers read, in this order
pub mod Marks
pub mod Parsing
pub mod Walked
pub mod StepsLeft
pub mod Kinds
pub mod Pairs
pub mod TreeCode
-- inside
pub mod TreeTokens
pub mod Order
pub mod View
pub mod Scan
pub mod Distinct
pub mod Keys
pub mod Filter
pub mod Classes
pub mod Phandle
pub mod Growth
pub mod Blocks
pub mod Checked
pub mod Cuts
pub mod Counting
pub mod Lying
pub mod Known
