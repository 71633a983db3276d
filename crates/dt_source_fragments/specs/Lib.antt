-- what callers read, in this order
pub mod Fragments
pub mod FragmentNames
