mod Loading
mod Pieces
mod Tellings
