pub mod PlacedWords
