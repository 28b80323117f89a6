-- The component type that a value of the crate's types stands for.
use Rattle.std.specs.Prelude.{List, [], ◌∷◌, map}
use Rattle.std.specs.Global.{Vec}
use Rattle.ctype_format.specs.Raw.{Defined, Prim, Record, Variant, ListOf, Tuple, FlagSet, Enumeration, OptionOf, ResultOf, BinaryFunction, Define, Func, Component, Instance, Decl, Entry, Alias, Import, Export, Decls, none, then, Exported, BinaryFile, TypeEntry}
use Rattle.ctype_format.specs.Names.{name_view}
use Rattle.ctype_format.specs.declared.raw.RawExport.{RawExport}
use Rattle.ctype_format.specs.declared.raw.RawFunction.{RawFunction}
use Rattle.ctype_format.specs.declared.raw.RawDefinedType.{RawDefinedType}
use Rattle.ctype_format.specs.declared.raw.RawDefinedType.TheVariants as v
use Rattle.ctype_format.specs.declared.raw.RawType.{RawType}
use Rattle.ctype_format.specs.declared.raw.RawType as t
use Rattle.ctype_format.specs.declared.raw.RawDecl.{RawDecl}
use Rattle.ctype_format.specs.declared.raw.RawDecl as d

-- a defined value type
abbrev pub defined_view : RawDefinedType → Defined
defined_view (v.Primitive p) = Prim p
defined_view (v.Record fs) = Record fs.items
defined_view (v.Variant cs) = Variant cs.items
defined_view (v.List e) = ListOf e
defined_view (v.Tuple es) = Tuple es.items
defined_view (v.Flags ls) = FlagSet ls.items
defined_view (v.Enum ls) = Enumeration ls.items
defined_view (v.Option e) = OptionOf e
defined_view (v.Result ok error) = ResultOf ok error

-- a function type
abbrev pub raw_function_view : RawFunction → BinaryFunction
raw_function_view f = record { params = f.params.items; outcome = f.result }

-- a list of declarations as those of a component type or an instance type
abbrev pub decls_of : List Decl → Decls
decls_of [] = none
decls_of (d ∷ ds) = then d (decls_of ds)

unfoldable mutual
  -- a type with the declarations in it, if it has any
  pub type_view : RawType → TypeEntry
  type_view (t.Defined x) = Define (defined_view x)
  type_view (t.Function f) = Func (raw_function_view f)
  type_view (t.Component' shape all) = Component (row_view all)
  type_view (t.Instance' shape all) = Instance (row_view all)

  -- a declaration of a component type or an instance type
  pub decl_view : RawDecl → Decl
  decl_view (d.«Type» ty) = Entry (type_view ty)
  decl_view (d.Alias a) = Alias a
  decl_view (d.Import n e) = Import (name_view n) e
  decl_view (d.Export n e) = Export (name_view n) e

  -- the declarations of a component type or an instance type, in order
  pub row_view : {m : _} → t.Row_of-RawDecl m → Decls
  row_view t.end_of-RawDecl = none
  row_view (t.more_of-RawDecl first rest) = then (decl_view first) (row_view rest)

-- an export of the component: its name's text, and the index of a type
abbrev pub export_view : RawExport → Exported
export_view e = record { name = name_view e.name; type = e.ty }

-- the component of these types and these exports
abbrev pub parts_file : Vec RawType → Vec RawExport → BinaryFile
parts_file types exports = record { types = map type_view types.items; exports = map export_view exports.items }
