-- WIT.md, "Identifiers": the scopes of a set, in which names differ in more than the case of their letters.
use Rattle.std.specs.Prelude.{◌<◌, ℕ, List, [], ◌∷◌, ◌++◌, map, flat_map, length, slice_get, Option, None, Some, Contains, All}
use Rattle.package_form.specs.Scope.{AreDistinct}
use Rattle.package_form.specs.Naming.{row_names, row_members, interface_labels_of, world_labels_of, world_scopes}
use Rattle.package_form.specs.Form.{ids_of}
use Rattle.tables.specs.Package.{worlds}
use Rattle.tables.specs.declared.tables.Definition.{Definition}
use Rattle.tables.specs.declared.tables.Interface.{Interface}
use Rattle.tables.specs.declared.tables.Resolve.{Resolve}

-- the name of a row, as a list of one, or of none if it has no name or there is no row
abbrev pub names_if : Option Definition → List (List ℕ)
names_if None = []
names_if (Some d) = row_names d

-- the names of a row's fields, cases, labels or parameters, or none if there is no row
abbrev pub members_if : Option Definition → List (List ℕ)
members_if None = []
members_if (Some d) = row_members d

-- the name of the row at this place, as a list of one, or of none if it has none or is not there
abbrev pub names_at : List Definition → ℕ → List (List ℕ)
names_at rows x = names_if (slice_get rows x)

-- the names of the fields, cases, labels or parameters of the row at this place
abbrev pub members_at : List Definition → ℕ → List (List ℕ)
members_at rows x = members_if (slice_get rows x)

-- uses, types and functions of an interface share a scope, and each has one of its own
abbrev pub set_interface_scopes : List Definition → Interface → List (List (List ℕ))
set_interface_scopes rows i = flat_map (names_at rows) (ids_of i) ∷ map (members_at rows) (ids_of i)

-- the names in each scope of a set differ in more than the case of their letters
pub record HasDistinctScopes (r : Resolve) : Type 0 where
  pub labels : (k : ℕ) → k < length r.packages → AreDistinct (interface_labels_of r.interfaces k ++ world_labels_of r.worlds k)
  pub interfaces : (i : Interface) → Contains r.interfaces i → All AreDistinct (set_interface_scopes r.definitions i)
  pub worlds : All AreDistinct (flat_map world_scopes (worlds r))
