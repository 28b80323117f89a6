-- The rows of a package's table as C is told them: CanonicalABI.md, "Alignment" and "Element Size".
use Rattle.std.specs.Prelude.{ℕ, length, slice_get, Option, None, Some}
use Rattle.std.specs.Option.{option_map}
use Rattle.canonical_abi.specs.Layout.{size, align}
use Rattle.tables.specs.Closed.{closed_type}
use Rattle.tables.specs.Names.{owner_of}
use Rattle.tables.specs.declared.tables.ValType.{ValType}
use Rattle.tables.specs.declared.tables.ValType.TheVariants as val
use Rattle.tables.specs.declared.tables.Definition.{Definition}
use Rattle.tables.specs.declared.tables.Resolve.{Resolve}
use Rattle.host_calls.specs.Status.{told}
use Rattle.host_calls.specs.Contents.{types_of_members, target_of}
use Rattle.host_calls.specs.Kinds.{type_number}
use Rattle.host_calls.specs.Owners.{owner_kind, owner_number}
use Rattle.host_calls.specs.declared.host_lists.rows.RowInfo.{RowInfo}
use Rattle.host_calls.specs.declared.host_lists.rows.TypeInfo.{TypeInfo}

-- the row number of a value type, or 0 of a primitive and string
abbrev pub type_row : ValType → ℕ
type_row (val.Primitive p) = 0
type_row val.String = 0
type_row (val.Id t) = t.0

-- the value type of the row of this number
abbrev pub row_type : ℕ → ValType
row_type number = val.Id (record { 0 = number })

-- what C gets of a value type: its kind, row, size and alignment in bytes; all 0 if there is none
abbrev pub type_info : Resolve → Option ValType → TypeInfo
type_info r None = record { kind = 0; row = 0; size = 0; align = 0 }
type_info r (Some v) = record {
  kind = type_number r.definitions v;
  row = type_row v;
  size = size (closed_type r v);
  align = align (closed_type r v);
}

-- what C gets of this definition in this row
abbrev pub row_info : Resolve → ℕ → Definition → RowInfo
row_info r number d = record {
  ty = type_info r (Some (row_type number));
  target = type_info r (target_of d);
  owner_kind = owner_kind (owner_of d);
  owner = owner_number (owner_of d);
  members = told (length (types_of_members d));
}

-- what C gets of the row of this number, if there is such a row
abbrev pub row_info_at : Resolve → ℕ → Option RowInfo
row_info_at r number = option_map (row_info r number) (slice_get r.definitions number)
