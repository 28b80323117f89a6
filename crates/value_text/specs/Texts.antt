-- The parts of the compact text of an array and of an object.
use Rattle.std.specs.Prelude.{ℕ, zero, suc, List, [], ◌∷◌, ◌++◌}
use Rattle.json.specs.Print.{quoted}
use Rattle.serde_json.specs.Data.{Data, Members, no_members, member}
use Rattle.serde_json.specs.Written.{compact_text}

-- a comma before each item but the first
abbrev pub comma_at : ℕ → List ℕ
comma_at zero = []
comma_at (suc n) = 44 ∷ []

-- items from item n on, with their commas
abbrev pub items_front : ℕ → List Data → List ℕ
items_front n [] = []
items_front n (d ∷ ds) = comma_at n ++ (compact_text d ++ items_front (suc n) ds)

-- the key of member n, with the comma before it
abbrev pub key_at : ℕ → List ℕ → List ℕ
key_at n label = comma_at n ++ (quoted label ++ 58 ∷ [])

-- members from member n on, with their commas
abbrev pub members_front : ℕ → Members → List ℕ
members_front n no_members = []
members_front n (member k d ms) = key_at n k ++ (compact_text d ++ members_front (suc n) ms)
