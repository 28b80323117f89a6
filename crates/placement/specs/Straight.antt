-- Where nothing looks forward, the order is that of the source.
use Rattle.std.specs.Prelude.{ℕ, zero, suc, ◌+◌, Bool, true, ◌&&◌, nat_lt, List, [], ◌∷◌, ◌++◌}
use Rattle.std.specs.List.{list_all}

-- each of these, the first of which is n, uses only those before it
abbrev pub looks_back : ℕ → List (List ℕ) → Bool
looks_back n [] = true
looks_back n (used ∷ uses) = list_all (λ u. nat_lt u n) used && looks_back (n + 1) uses

-- the numbers below n, in order
abbrev pub upto : ℕ → List ℕ
upto zero = []
upto (suc n) = upto n ++ n ∷ []
