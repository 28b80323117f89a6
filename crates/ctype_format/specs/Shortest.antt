-- The shortest spelling of a number in LEB128.
use Rattle.std.specs.Prelude.{ℕ, zero, suc, ◌+◌, ◌/◌, ◌%◌, List, [], ◌∷◌, nat_lt, if◌then◌else◌}

-- groups of seven bits, the last below limit, where at most room more follow
unfoldable pub groups : ℕ → ℕ → ℕ → List ℕ
groups limit zero n = n ∷ []
groups limit (suc room) n = if nat_lt n limit then n ∷ [] else (n % 128 + 128) ∷ groups limit room (n / 128)
