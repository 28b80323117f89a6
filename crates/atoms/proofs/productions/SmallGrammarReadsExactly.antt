-- The small grammar is read exactly.
use Rattle.std.proofs.Common.{◌≡◌, ℕ, List, [], ◌∷◌, Option, Some, None, true, refl, inr}
use Rattle.std.specs.Prelude.{◌==◌, ◌++◌}
use Rattle.std.proofs.lemmas.Bool.{eqb-true}
use Rattle.atoms.specs.Production.{next, one, optional, give}
use Rattle.atoms.specs.Exactness.{Exact, Anything, Unless, plain}
use Rattle.atoms.specs.Example.{zero_one}
use Rattle.atoms.proofs.productions.ProductionsReadExactly.{exact-bind, exact-one, exact-optional, exact-give, one-fault, spelt-has-none}

pub exact-example : Exact plain Anything zero_one
exact-example = exact-bind plain (optional (λ n. n == 0) give) (λ o. one (λ n. n == 1) (λ ts. ts)) (exact-optional plain (λ n. n == 0) give (λ t. exact-give plain {stops = Anything} t)) (λ o. exact-one plain (λ n. n == 1) (λ ts. ts) (λ ts out. tt)) ends
  where
    ends : (o : Option ℕ) (y : ℕ) (text rest : List ℕ) → (text ≡ y ∷ []) × ((y == 1) ≡ true) → Anything y (next rest) → Unless (λ n. n == 0) Anything o (next (text ++ rest))
    ends (Some x) y text rest s end = tt
    ends None y text rest s end = rw (s.0, eqb-true y 1 s.1) refl

pub example_alone : (ts f g : List ℕ) → zero_one.fails ts f → zero_one.fails ts g → f ≡ g
example_alone ts f g = one-fault plain zero_one exact-example ts f g tt

pub example_met : zero_one.fails (0 ∷ 2 ∷ []) (2 ∷ [])
example_met = inr (0 ∷ [], 2 ∷ [], Some 0, refl, (0, [], refl, refl, (refl, refl)), (refl, refl))

pub example_spelled : (f : List ℕ) → zero_one.fails (0 ∷ 1 ∷ []) f → ⊥
example_spelled f = spelt-has-none plain zero_one exact-example (0 ∷ 1 ∷ []) [] 1 f tt (0 ∷ [], 1 ∷ [], Some 0, refl, (0, [], refl, refl, (refl, refl)), (refl, refl)) tt
