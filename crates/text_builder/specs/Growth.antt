-- How a text grows of which nothing is left once an allocation was refused.
use Rattle.std.specs.Prelude.{◌≡◌, ℕ, List, ◌++◌, Option, IfSome, IsSomeAnd}

-- what is left after has just these bytes behind those of before
abbrev pub Grows : List ℕ → Option (List ℕ) → Option (List ℕ) → Type 0
Grows added before after = IfSome after (λ all. IsSomeAnd before (λ first. all ≡ first ++ added))
