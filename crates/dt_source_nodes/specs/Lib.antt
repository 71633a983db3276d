-- what callers read, in this order
pub mod Nodes
pub mod Contents
pub mod Resolving
-- inside
pub mod Owned
pub mod Listing
pub mod Phandles
