-- WIT.md, "Package Names": full names, which function a full name and a name stand for, and whose a row with a name is.
use Rattle.std.specs.Prelude.{◌≡◌, ℕ, List, [], slice_get, Option, None, Some, Contains}
use Rattle.std.specs.Option.{option_map}
use Rattle.tables.specs.PackageNames.{PackageParts, own_name}
use Rattle.tables.specs.Closed.{function_at}
use Rattle.tables.specs.declared.tables.Definition.{Definition}
use Rattle.tables.specs.declared.tables.Definition.TheVariants as row
use Rattle.tables.specs.declared.tables.Owner.{Owner}
use Rattle.tables.specs.declared.tables.Owner.TheVariants as owner
use Rattle.tables.specs.declared.tables.TypeName.{TypeName}
use Rattle.tables.specs.declared.tables.FunctionId.{FunctionId}
use Rattle.tables.specs.declared.tables.Interface.{Interface}
use Rattle.tables.specs.declared.tables.World.{World}
use Rattle.tables.specs.declared.tables.Resolve.{Resolve}

-- the full name of a name in the package, if there is one: each interface and each world of a table is of a package
abbrev pub full_name_in : Option PackageParts → List ℕ → List ℕ
full_name_in None name = name
full_name_in (Some p) name = own_name p name

-- the full name of an interface of the table, as `namespace:package/name@version`
abbrev pub full_name : Resolve → Interface → List ℕ
full_name r i = full_name_in (slice_get r.packages i.«package».0) i.name

-- the full name of a world of the table, as `namespace:package/name@version`
abbrev pub world_name : Resolve → World → List ℕ
world_name r w = full_name_in (slice_get r.packages w.«package».0) w.name

-- the interface or world that a row with a name is of, or none of a row without
abbrev pub owner_of : Definition → Option Owner
owner_of (row.Type d) = option_map (λ n. owner.Interface n.interface) d.name
owner_of (row.Function f) = Some f.owner

-- the label of a type, or nothing of a type without a name
abbrev pub label_in : Option TypeName → List ℕ
label_in None = []
label_in (Some n) = n.name

-- the name of the function at this place, without its interface or world; none if there is no function
abbrev pub function_name : Resolve → FunctionId → Option (List ℕ)
function_name r f = option_map (λ g. g.name) (function_at r f)

-- f is one of these ids, and its function has this name
abbrev pub IsNamedIn : Resolve → List FunctionId → List ℕ → FunctionId → Type 0
IsNamedIn r ids name f = Contains ids f × (function_name r f ≡ Some name)

-- f is a function of this name in an interface of this full name
abbrev pub IsNamed : Resolve → List ℕ → List ℕ → FunctionId → Type 0
IsNamed r iface name f = (i : Interface) × Contains r.interfaces i × (iface ≡ full_name r i) × IsNamedIn r i.functions name f

-- no function has this name
abbrev pub IsMissing : Resolve → List ℕ → List ℕ → Type 0
IsMissing r iface func = (f : FunctionId) → ¬ IsNamed r iface func f
