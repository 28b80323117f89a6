-- Places in a text by lines and columns.
use Rattle.std.specs.Prelude.{◌≡◌, ◌≢◌, ℕ, ◌+◌, ◌-◌, ◌<◌, ◌≤◌, ◌==◌, ◌||◌, Bool, List, length, drop, count_by, slice_index, nat_lt, nat_le}
use Rattle.text_edits.specs.declared.position.Position.{Position}

-- whether a byte of UTF-8 begins a character
abbrev pub begins_character : ℕ → Bool
begins_character byte = nat_lt byte 128 || nat_le 192 byte

-- whether a byte of UTF-8 begins a character of two units of UTF-16
abbrev pub begins_pair : ℕ → Bool
begins_pair byte = nat_le 240 byte

-- the last line of a text's front begins at this place: at its start or after a line feed, and with none after it
pub record BeginsLine (front : List ℕ) (start : ℕ) : Type 0 where
  pub within : start ≤ length front
  pub begins : 0 < start → slice_index front (start - 1) ≡ 10
  pub is_last : (k : ℕ) → start ≤ k → k < length front → slice_index front k ≢ 10

-- the end of a text's front by its line and columns: its line begins so many bytes before it
pub record IsPositionOf (front : List ℕ) (p : Position) : Type 0 where
  pub within : p.bytes ≤ length front
  pub start : BeginsLine front (length front - p.bytes)
  pub line : p.line ≡ count_by (λ byte. byte == 10) front
  pub characters : p.characters ≡ count_by begins_character (drop (length front - p.bytes) front)
  pub units : p.units ≡ p.characters + count_by begins_pair (drop (length front - p.bytes) front)
