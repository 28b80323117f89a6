-- What the definitions of an interface add to a table and to its scope.
use Rattle.std.specs.Prelude.{ℕ, ◌<◌, ◌≡◌, List, [], ◌∷◌, ◌++◌, length, slice_index_or, Contains, Some}
use Rattle.tables.specs.Package.{NamedDefinition, Meaning}
use Rattle.tree_meaning.specs.Declarations.{UsedItem, InterfaceTree, use_interface, used_names}
use Rattle.tree_meaning.specs.Resolved.{interface_meaning}
use Rattle.package_form.specs.Entries.{Table}
use Rattle.tree_meaning.specs.Imports.{Import}
use Rattle.tree_meaning.specs.Resolves.{used_place}
use Rattle.tables.specs.declared.tables.InterfaceId.{InterfaceId}
use Rattle.tables.specs.declared.tables.TypeDefKind.{TypeDefKind}
use Rattle.tree_scopes.specs.declared.known.KnownTypes.{KnownTypes}
use Rattle.tree_meaning.specs.Building.{label_at, AddsDefinitions, LowersKind, names_of, ordered_names}
use Rattle.tree_scopes.specs.KnownScopes.{IsScope, scope_name, scope_names}

-- the table and the scope of an interface grew by these definitions
pub record Grows (old : Table) (before : KnownTypes) (new : Table) (after : KnownTypes) (ds : List NamedDefinition) : Type 0 where
  pub adds : AddsDefinitions old new ds
  pub scoped : IsScope new after
  pub interface : after.interface ≡ before.interface
  pub names : scope_names after ≡ scope_names before ++ names_of ds

-- the table and the scope grow by a definition of this kind, whatever it means
abbrev pub DefinesNamed : Table → KnownTypes → Table → KnownTypes → List ℕ → TypeDefKind → Type 0
DefinesNamed old before new after name k = (first : Table) (m : Meaning) → IsScope first before → LowersKind first old k m
    → Grows first before new after (record { key = record { interface = scope_name first before; name = name }; meaning = m } ∷ [])

-- the used interface comes before, among the imports or the own interfaces of these names, and has a type of the used
-- name
pub record CanUse (ks : List Import) (names : List (List ℕ)) (t : Table) (scopes : List KnownTypes) (u : UsedItem) : Type 0 where
  pub place : ℕ
  pub found : used_place ks names u.«package» u.interface ≡ Some place
  pub within : place < length scopes
  pub named : label_at t place ≡ use_interface u
  pub has : (d : KnownTypes) → Contains (scope_names (slice_index_or scopes place d)) u.name

-- the table got the interface's definitions, and its scope has the names of its uses and types
pub record DefinesInterface (old new : Table) (s : KnownTypes) (place : InterfaceId) (i : InterfaceTree) (order : List ℕ) : Type 0 where
  pub adds : AddsDefinitions old new (interface_meaning i order)
  pub scoped : IsScope new s
  pub interface : s.interface ≡ place
  pub names : scope_names s ≡ used_names i ++ ordered_names i.types order
