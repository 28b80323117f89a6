-- Words of lower-case letters and digits, as most are.
use Rattle.std.specs.Prelude.{◌≡◌, ℕ, ◌+◌, ◌<◌, ◌≤◌, Bool, true, false, not, ◌&&◌, ◌||◌, ◌==◌, List, [], ◌∷◌, slice_index, if◌then◌else◌}
use Rattle.std.specs.Int.{w64, trailing_zeros}
use Rattle.atoms.specs.Label.{is_lower, is_digit}

-- the first byte is a lower-case ASCII letter
abbrev pub begins_lower : List ℕ → Bool
begins_lower [] = false
begins_lower (c ∷ cs) = is_lower c

-- a byte goes on a word of lower-case letters and digits, behind the byte before it
abbrev pub goes_on : ℕ → ℕ → Bool
goes_on before here = is_lower here || ((is_digit here || here == 45) && not (before == 45))

-- the place of the lowest bit of these 16 that is set, or 16
abbrev pub first_set : ℕ → ℕ
first_set mask = if mask == 0 then 16 else trailing_zeros w64 mask

-- so many of the 16 bytes behind a place go on a word, and the next one doesn't
pub record GoOn (text : List ℕ) (at run : ℕ) : Type 0 where
  pub few : run ≤ 16
  pub on : (k : ℕ) → k < run → goes_on (slice_index text (at + k)) (slice_index text (at + 1 + k)) ≡ true
  pub ends : run < 16 → goes_on (slice_index text (at + run)) (slice_index text (at + 1 + run)) ≡ false
