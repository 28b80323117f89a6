-- What is written for the parts of a row, by what the rows of the table stand for.
use Rattle.std.specs.Prelude.{ℕ, Bool, nat_lt, List, length, Option, None, Some}
use Rattle.std.specs.Option.{option_map}
use Rattle.wit_tokens.specs.Syntax.{Ty, MaybeTy, Absent, Present, Member, CaseOf}
use Rattle.tables.specs.Tables.{is_function_id}
use Rattle.tables.specs.Package.{Tree, read_val}
use Rattle.tables.specs.declared.tables.ValType.{ValType}
use Rattle.tables.specs.declared.tables.Field.{Field}
use Rattle.tables.specs.declared.tables.Parameter.{Parameter}
use Rattle.tables.specs.declared.tables.Case.{Case}
use Rattle.tables.specs.declared.tables.WorldItemKind.{WorldItemKind}
use Rattle.tables.specs.declared.tables.WorldItemKind.TheVariants as item
use Rattle.tables.specs.declared.tables.Resolve.{Resolve}
use Rattle.package_text.specs.Written.{ty_of}

-- the type that is written for a type of the table
abbrev pub type_by : List Tree → ValType → Ty
type_by trees v = ty_of (read_val trees v)

-- a type of a `result` that is written for a type of the table, absent if there is none
abbrev pub maybe_by : List Tree → Option ValType → MaybeTy
maybe_by trees None = Absent
maybe_by trees (Some v) = Present (type_by trees v)

-- a field or a parameter of this name and this type of the table
abbrev pub member_by : List Tree → List ℕ → ValType → Member
member_by trees n v = record { name = n; ty = type_by trees v }

-- the field that is written for a field of the table
abbrev pub field_by : List Tree → Field → Member
field_by trees f = member_by trees f.name f.ty

-- the parameter that is written for a parameter of the table
abbrev pub parameter_by : List Tree → Parameter → Member
parameter_by trees p = member_by trees p.name p.ty

-- the case that is written for a case of the table
abbrev pub case_by : List Tree → Case → CaseOf
case_by trees c = record { name = c.name; payload = option_map (type_by trees) c.ty }

-- an item of a world is an interface or a function of the table
abbrev pub is_item : Resolve → WorldItemKind → Bool
is_item r (item.Interface i) = nat_lt i.0 (length r.interfaces)
is_item r (item.Function f) = is_function_id r.definitions f
