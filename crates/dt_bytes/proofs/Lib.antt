mod Placed
mod Texts
