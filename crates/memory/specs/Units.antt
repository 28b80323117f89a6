-- Flags of units of eight bytes.
use Rattle.std.specs.Prelude.{◌≡◌, ◌/◌, ◌<◌, ◌≤◌, ◌&&◌, ℕ, Bool, false, cond, List, nat_le, nat_lt, get_or}

-- the flag of an address; behind the last unit it is false
abbrev pub is_unit_live : List Bool → ℕ → Bool
is_unit_live units a = get_or units (a / 8) false

-- each address of a range has this flag
abbrev pub AreUnits : List Bool → ℕ → ℕ → Bool → Type 0
AreUnits units from to live = (a : ℕ) → from ≤ a → a < to → is_unit_live units a ≡ live

-- the flags, but this one for each address of a range
abbrev pub with_units : (ℕ → Bool) → ℕ → ℕ → Bool → ℕ → Bool
with_units flags from to live a = cond (nat_le from a && nat_lt a to) live (flags a)
