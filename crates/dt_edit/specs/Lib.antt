-- what callers read, in this order
pub mod Editable
pub mod Buffers
pub mod BufferLaws
pub mod Between
-- inside
pub mod Moving
pub mod Plans
