-- The syntax tree that a value of the crate's types stands for.
use Rattle.std.specs.Prelude.{ℕ, List, map, Option, Some, None}
use Rattle.std.specs.declared.alloc.Global.{Global}
use Rattle.std.specs.String.{string_bytes}
use Rattle.std.specs.declared.string.String.{String}
use Rattle.wit_tokens.specs.Syntax.{Ty, MaybeTy, Prim, Named, ListOf, OptionOf, TupleOf, ResultOf, Absent, Present, tys_of, Member, CaseOf, UsedAs, Alias, Record, Variant, Enumeration, FlagSet, Function, PathTo, Local, Foreign, Entry, Uses, Defines, Declares, WorldEntry, Whole, Single, FileEntry, AnInterface, AWorld, HeaderNames, File, TypeBody}
use Rattle.wit_tokens.specs.declared.wit_syntax.ast.Ast.{Ast}
use Rattle.wit_tokens.specs.declared.wit_syntax.ast.PackageId.{PackageId}
use Rattle.wit_tokens.specs.declared.wit_syntax.ast.Item.{Item}
use Rattle.wit_tokens.specs.declared.wit_syntax.ast.Item.TheVariants as item
use Rattle.wit_tokens.specs.declared.wit_syntax.ast.InterfaceItem.{InterfaceItem}
use Rattle.wit_tokens.specs.declared.wit_syntax.ast.InterfaceItem.TheVariants as entry
use Rattle.wit_tokens.specs.declared.wit_syntax.ast.Path.{Path}
use Rattle.wit_tokens.specs.declared.wit_syntax.ast.Path.TheVariants as path
use Rattle.wit_tokens.specs.declared.wit_syntax.ast.UsedName.{UsedName}
use Rattle.wit_tokens.specs.declared.wit_syntax.ast.TypeDefKind.{TypeDefKind}
use Rattle.wit_tokens.specs.declared.wit_syntax.ast.TypeDefKind.TheVariants as definition
use Rattle.wit_tokens.specs.declared.wit_syntax.ast.Field.{Field}
use Rattle.wit_tokens.specs.declared.wit_syntax.ast.Case.{Case}
use Rattle.wit_tokens.specs.declared.wit_syntax.ast.FuncType.{FuncType}
use Rattle.wit_tokens.specs.declared.wit_syntax.ast.WorldItem.{WorldItem}
use Rattle.wit_tokens.specs.declared.wit_syntax.ast.WorldItemKind.{WorldItemKind}
use Rattle.wit_tokens.specs.declared.wit_syntax.ast.WorldItemKind.TheVariants as world
use Rattle.wit_tokens.specs.declared.wit_syntax.ast.Direction.{Direction}
use Rattle.wit_tokens.specs.declared.wit_syntax.ast.TypeExpression.{TypeExpression}
use Rattle.wit_tokens.specs.declared.wit_syntax.ast.InnerType.TheOpen.{TypeExpression-F, InnerType-F, ResultType-F}
use Rattle.wit_tokens.specs.declared.wit_syntax.ast.InnerType.TheFolds.{fold-TypeExpression, fold-InnerType, fold-ResultType}
use Rattle.wit_tokens.specs.declared.wit_syntax.ast.InnerType.{InnerType}
use Rattle.wit_tokens.specs.declared.wit_syntax.ast.ResultType.{ResultType}

-- a type within another one, with the tree of the type that its block holds in its place
abbrev pub inner_layer : InnerType-F Ty MaybeTy Ty → Ty
inner_layer (InnerType-F.Plain p) = Prim p
inner_layer (InnerType-F.Boxed b) = b.value

-- a type of a `result`, if there is one, with the tree of the type that its block holds in its place
abbrev pub result_layer : ResultType-F Ty MaybeTy Ty → MaybeTy
result_layer ResultType-F.Absent = Absent
result_layer (ResultType-F.Simple p) = Present (Prim p)
result_layer (ResultType-F.Other b) = Present b.value

-- One type, with the trees of the types in it in their places.
abbrev pub ty_layer : TypeExpression-F Ty MaybeTy Ty → Ty
ty_layer (TypeExpression-F.Primitive p) = Prim p
ty_layer (TypeExpression-F.Named n) = Named n
ty_layer (TypeExpression-F.List t) = ListOf t
ty_layer (TypeExpression-F.Option t) = OptionOf t
ty_layer (TypeExpression-F.Tuple ts) = TupleOf (tys_of ts.items)
ty_layer (TypeExpression-F.Result ok error) = ResultOf ok error

-- the tree of a type expression
abbrev pub ty_view : TypeExpression → Ty
ty_view = fold-TypeExpression Ty MaybeTy Ty inner_layer result_layer ty_layer

-- the tree of a type within another one
abbrev pub inner_view : InnerType → Ty
inner_view = fold-InnerType Ty MaybeTy Ty inner_layer result_layer ty_layer

-- a type of a `result`, absent if there is none
abbrev pub maybe_view : ResultType → MaybeTy
maybe_view = fold-ResultType Ty MaybeTy Ty inner_layer result_layer ty_layer

-- the type of a payload or of a function's result, if there is one
abbrev pub optional_view : Option TypeExpression → Option Ty
optional_view None = None
optional_view (Some t) = Some (ty_view t)

-- a field of a record or a parameter of a function
abbrev pub field_view : Field → Member
field_view f = record { name = f.name; ty = ty_view f.ty }

-- a case of a variant
abbrev pub case_view : Case → CaseOf
case_view c = record { name = c.name; payload = optional_view c.payload }

-- a name of a `use`
abbrev pub used_view : UsedName → UsedAs
used_view u = record { name = u.name; local = u.local }

-- a version as its bytes, without `@`, if there is one
abbrev pub version_view : Option (String Global) → Option (List ℕ)
version_view None = None
version_view (Some v) = Some (string_bytes v)

-- the path of an interface: of the text's own package, or of another one with its names
abbrev pub path_view : Path → PathTo
path_view (path.Local n) = Local n
path_view (path.Foreign p n) = Foreign p.namespace p.name (version_view p.version) n

-- what is written after the name of a declared type
abbrev pub definition_view : TypeDefKind → TypeBody
definition_view (definition.Alias t) = Alias (ty_view t)
definition_view (definition.Record fs) = Record (map field_view fs.items)
definition_view (definition.Variant cs) = Variant (map case_view cs.items)
definition_view (definition.Enum ns) = Enumeration ns.items
definition_view (definition.Flags ns) = FlagSet ns.items

-- the type of a function
abbrev pub function_view : FuncType → Function
function_view f = record { params = map field_view f.params.items; result = optional_view f.result }

-- an item of an interface
abbrev pub entry_view : InterfaceItem → Entry
entry_view (entry.Use u) = Uses u.value.span (path_view u.value.interface) (map used_view u.value.names.items)
entry_view (entry.TypeDef t) = Defines t.span t.name (definition_view t.kind)
entry_view (entry.Func f) = Declares f.span f.name (function_view f.ty)

-- an item of a world that imports or exports so
abbrev pub world_kind_view : Direction → WorldItemKind → WorldEntry
world_kind_view d (world.Interface p) = Whole d (path_view p)
world_kind_view d (world.Func f) = Single d f.span f.name (function_view f.ty)

-- an item of a world
abbrev pub world_entry_view : WorldItem → WorldEntry
world_entry_view w = world_kind_view w.direction w.kind

-- an interface or a world of a text
abbrev pub item_view : Item → FileEntry
item_view (item.Interface i) = AnInterface i.name (map entry_view i.items.items)
item_view (item.World w) = AWorld w.span w.name (map world_entry_view w.items.items)

-- the names of a text's package and its version, if it has one
abbrev pub header_view : PackageId → HeaderNames
header_view p = record { namespace = p.namespace; name = p.name; version = version_view p.version }

-- the tree of a whole text
abbrev pub file_view : Ast → File
file_view a = record { namespace = a.package.namespace; name = a.package.name; version = version_view a.package.version; entries = map item_view a.items.items }
