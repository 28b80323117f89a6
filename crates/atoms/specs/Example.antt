-- A small grammar: perhaps a 0, and then a 1. A fault is told as the items from the one met on.
use Rattle.std.specs.Prelude.{ℕ, List, ◌==◌}
use Rattle.atoms.specs.Production.{Production, give, one, optional, ◌>>=◌}

-- perhaps a 0, and then a 1; the value is the 1
abbrev pub zero_one : Production ℕ (List ℕ) ℕ
zero_one = do
  o ← optional (λ n. n == 0) give
  one (λ n. n == 1) (λ ts. ts)
