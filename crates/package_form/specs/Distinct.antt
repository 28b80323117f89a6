-- Names that are met one after the other, and the refusals of scopes.
use Rattle.std.specs.Prelude.{◌≡◌, ◌<◌, ℕ, List, [], map, length, slice_index_or, Contains}
use Rattle.package_form.specs.Scope.{lowered, AreDistinct, IsDuplicate}
use Rattle.tables.specs.declared.error.ResolveError.{ResolveError}
use Rattle.tables.specs.declared.error.ResolveError.TheVariants as error

-- `met_names` are these names in lower case, no two of which are the same
pub record AreMet (names met_names : List (List ℕ)) : Type 0 where
  pub met_are : met_names ≡ map lowered names
  pub distinct : AreDistinct names

-- these names were visited in the scope of each of so many packages
pub record AreMetInEach (count : ℕ) (names : ℕ → List (List ℕ)) (scopes : List (List (List ℕ))) : Type 0 where
  pub counted : length scopes ≡ count
  pub each : (k : ℕ) → k < count → AreMet (names k) (slice_index_or scopes k [])

-- the refusals of one scope: a name again (40), or out of memory (46), which may come at any time
abbrev pub RefusesNames : List (List ℕ) → ResolveError → Type 0
RefusesNames names (error.Duplicate n) = IsDuplicate names n
RefusesNames names error.NoMemory = Unit {0}
RefusesNames names _ = ⊥

-- the refusals of scopes: a name again in one of them (40), or out of memory (46)
abbrev pub RefusesScopes : List (List (List ℕ)) → ResolveError → Type 0
RefusesScopes scopes (error.Duplicate n) = (ns : List (List ℕ)) × Contains scopes ns × IsDuplicate ns n
RefusesScopes scopes error.NoMemory = Unit {0}
RefusesScopes scopes _ = ⊥
