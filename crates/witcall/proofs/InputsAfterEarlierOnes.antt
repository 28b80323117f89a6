-- A package's bytes behind those of the earlier ones.
use Rattle.std.proofs.Common.{◌≡◌, ◌⊎◌, ℕ, List, Result, Ok, Err, IfOk, IfErr, inr, subst}
use Rattle.opening.specs.Opening.{IsOpened, OpenRefuses}
use Rattle.opening.specs.declared.package.OpenError.{OpenError}
use Rattle.opening.specs.declared.package.OpenError.TheVariants.{NoMemory}
use Rattle.opening.specs.declared.package.Package.{Package}

module _ (inputs all : List (List ℕ)) (same : inputs ≡ all) (answer : Result Package OpenError) where
  pub opens : IfOk answer (λ p. IsOpened inputs p.resolve) → IfOk answer (λ p. IsOpened all p.resolve)
  opens h = subst (λ (xs : List (List ℕ)). IfOk answer (λ p. IsOpened xs p.resolve)) same h

  pub refuses : IfErr answer (OpenRefuses inputs) → IfErr answer (λ e. (e ≡ NoMemory) ⊎ OpenRefuses all e)
  refuses h = by answer (subst (λ (xs : List (List ℕ)). IfErr answer (OpenRefuses xs)) same h)
    where
      by : (a : Result Package OpenError) → IfErr a (OpenRefuses all) → IfErr a (λ e. (e ≡ NoMemory) ⊎ OpenRefuses all e)
      by (Ok p) x = x
      by (Err e) x = inr x
