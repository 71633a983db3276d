mod CellTexts
mod LineTexts
mod Quoting
