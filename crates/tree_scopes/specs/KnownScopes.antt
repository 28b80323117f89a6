-- The types that names stand for in the scopes of a table.
use Rattle.std.specs.Prelude.{ℕ, ◌<◌, ◌≡◌, List, map, length, slice_index_or, All, Contains}
use Rattle.package_form.specs.Entries.{Table}
use Rattle.tree_meaning.specs.Imports.{interfaces_of}
use Rattle.tables.specs.declared.tables.Resolve.{Resolve}
use Rattle.tree_scopes.specs.declared.known.KnownTypes.{KnownTypes}
use Rattle.tree_meaning.specs.Building.{label_at, IsEntry}

-- each name of the scope is that of a type of its interface in the table
pub record IsScope (t : Table) (s : KnownTypes) : Type 0 where
  pub each : All (IsEntry t (label_at t s.interface.0)) s.entries

-- the name of a scope's interface
abbrev pub scope_name : Table → KnownTypes → List ℕ
scope_name t s = label_at t s.interface.0

-- the names of types that a scope has, in order
abbrev pub scope_names : KnownTypes → List (List ℕ)
scope_names s = map (λ e. e.name) s.entries

-- these names are known
abbrev pub KnowsNames : KnownTypes → List (List ℕ) → Type 0
KnowsNames s ns = All (Contains (scope_names s)) ns

-- the scope at each place is that of the interface of this place
abbrev pub ArePlaced : List KnownTypes → Type 0
ArePlaced scopes = (m : ℕ) (d : KnownTypes) → m < length scopes → (slice_index_or scopes m d).interface.0 ≡ m

-- a scope for each import, with the names of its types
abbrev pub HaveImportNames : Resolve → List KnownTypes → Type 0
HaveImportNames r scopes = map scope_names scopes ≡ map (λ k. k.types) (interfaces_of r)

-- the scopes of the imports, one for each, in the order of their table: each has the names of its interface's types
pub record AreImportScopes (r : Resolve) (scopes : List KnownTypes) : Type 0 where
  pub names : HaveImportNames r scopes
  pub placed : ArePlaced scopes
  pub scoped : (t : Table) → t.rows ≡ r.definitions → All (IsScope t) scopes
