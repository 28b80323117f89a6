pub mod WalksEndInRings
