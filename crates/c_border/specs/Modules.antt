-- What is opened of a binary that carries packages.
use Rattle.std.specs.Prelude.{◌≡◌, ◌⊎◌, ℕ, List, Result, Err, MatchResult}
use Rattle.opening.specs.Opening.{IsOpened, OpenRefuses}
use Rattle.opening.specs.declared.indexed.IndexedPackage.{IndexedPackage}
use Rattle.opening.specs.declared.package.OpenError.{OpenError}
use Rattle.opening.specs.declared.package.OpenError.TheVariants as refusal
use Rattle.tables.specs.declared.error.ResolveError.TheVariants as resolve

-- a binary that carries no packages: 44 not this shape, or out of memory
abbrev pub IsUncarried : OpenError → Type 0
IsUncarried e = (e ≡ refusal.Resolve resolve.NotThisShape) ⊎ (e ≡ refusal.NoMemory)

-- there are inputs, the packages that the binary carries, which are opened as this package or refused for this reason; or it carries none.
-- Which packages a binary carries is tested.
abbrev pub OpensCarried : Result IndexedPackage OpenError → Type 0
OpensCarried opened =
    ((inputs : List (List ℕ)) × MatchResult opened (λ p. IsOpened inputs p.«package».resolve) (OpenRefuses inputs))
    ⊎ ((e : OpenError) × (opened ≡ Err e) × IsUncarried e)
