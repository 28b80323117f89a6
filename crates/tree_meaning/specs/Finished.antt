-- A package that was made of a table.
use Rattle.std.specs.Prelude.{◌≡◌, ◌≤◌, ℕ, List, [], ◌∷◌, ◌++◌, length, Option, None, Some}
use Rattle.std.specs.Option.{option_map}
use Rattle.std.specs.String.{string_bytes}
use Rattle.tables.specs.PackageNames.{PackageParts}
use Rattle.wit_tokens.specs.declared.wit_syntax.ast.PackageId.{PackageId}
use Rattle.package_form.specs.Entries.{Table, type_entries}
use Rattle.package_form.specs.Ids.{type_id, function_id}
use Rattle.tree_meaning.specs.Resolves.{interfaces_behind}
use Rattle.tables.specs.declared.tables.Owner.{Owner}
use Rattle.tables.specs.declared.tables.Owner.TheVariants as owner
use Rattle.tables.specs.declared.tables.TypeName.{TypeName}
use Rattle.tables.specs.declared.tables.TypeDefKind.{TypeDefKind}
use Rattle.tables.specs.declared.tables.TypeDefKind.TheVariants as kind
use Rattle.tables.specs.declared.tables.Definition.{Definition}
use Rattle.tables.specs.declared.tables.Definition.TheVariants as row
use Rattle.tables.specs.declared.tables.Interface.{Interface}
use Rattle.tables.specs.declared.tables.Resolve.{Resolve}

-- the interface that a row has a name in
abbrev pub named_in : Option TypeName → Option ℕ
named_in None = None
named_in (Some n) = Some n.interface.0

-- the interface that a function is of, none if it is a world's
abbrev pub owned_in : Owner → Option ℕ
owned_in (owner.Interface i) = Some i.0
owned_in (owner.World w) = None

-- the interface of a row: that of a type's name or of a function; none if the row has no name or is a world's
abbrev pub definition_interface : Definition → Option ℕ
definition_interface (row.Type d) = named_in d.name
definition_interface (row.Function f) = owned_in f.owner

-- the interface with one more type, at place k of the rows: among its used names or among its types
abbrev pub with_new_type : ℕ → TypeDefKind → Interface → Interface
with_new_type k (kind.Use t) i = record { «package» = i.«package»; name = i.name; uses = i.uses ++ type_id k ∷ []; types = i.types; functions = i.functions }
with_new_type k _ i = record { «package» = i.«package»; name = i.name; uses = i.uses; types = i.types ++ type_id k ∷ []; functions = i.functions }

-- the interface with the row at place k: among its used names, its types or its functions
abbrev pub with_definition : ℕ → Definition → Interface → Interface
with_definition k (row.Type d) i = with_new_type k d.kind i
with_definition k (row.Function f) i = record { «package» = i.«package»; name = i.name; uses = i.uses; types = i.types; functions = i.functions ++ function_id k ∷ [] }

-- the name of the package that a header gives
abbrev pub header_name : PackageId → PackageParts
header_name p = record { namespace = p.namespace; name = p.name; version = option_map string_bytes p.version }

-- the table is finished as the package of this name, after its imports, with own interfaces of these names
pub record IsFinished (imports : Resolve) (p : PackageParts) (names : List (List ℕ)) (t : Table) (r : Resolve) : Type 0 where
  pub packages : r.packages ≡ imports.packages ++ p ∷ []
  pub worlds : r.worlds ≡ t.worlds
  pub interfaces : r.interfaces ≡ imports.interfaces ++ interfaces_behind (length imports.packages) (length imports.interfaces) t.rows names
  pub definitions : r.definitions ≡ t.rows
  pub within : type_entries t ≤ 65535
