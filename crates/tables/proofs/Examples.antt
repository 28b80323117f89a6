-- Worked examples: a small package as a table, its meaning and its closed types, and rows that no table has.
use Rattle.std.proofs.Common.{◌≡◌, ℕ, true, false, List, [], ◌∷◌, ◌++◌, map, replicate, length, take, Some, None, Option, codes, refl, ap, arith}
use Rattle.canonical_abi.specs.Types.{boolean, unsigned, signed, scalar_value, int8, int16, int32, int64, ClosedType, prim_type, string_type, list_type, record_type, variant_type, flags_type, fields_of, cases_of}
use Rattle.tables.specs.declared.tables.Primitive.TheVariants as primitive
use Rattle.tables.specs.declared.tables.ValType.{ValType}
use Rattle.tables.specs.declared.tables.ValType.TheVariants as val
use Rattle.tables.specs.declared.tables.TypeDefKind.{TypeDefKind}
use Rattle.tables.specs.declared.tables.TypeDefKind.TheVariants as kind
use Rattle.tables.specs.declared.tables.Parameter.{Parameter}
use Rattle.tables.specs.declared.tables.Field.{Field}
use Rattle.tables.specs.declared.tables.Case.{Case}
use Rattle.tables.specs.declared.tables.TypeId.{TypeId}
use Rattle.tables.specs.declared.tables.FunctionId.{FunctionId}
use Rattle.tables.specs.declared.tables.PackageId.{PackageId}
use Rattle.tables.specs.declared.tables.InterfaceId.{InterfaceId}
use Rattle.tables.specs.declared.tables.WorldId.{WorldId}
use Rattle.tables.specs.declared.tables.Owner.TheVariants as owner
use Rattle.tables.specs.declared.tables.Definition.{Definition}
use Rattle.tables.specs.declared.tables.Definition.TheVariants as row
use Rattle.tables.specs.declared.tables.Interface.{Interface}
use Rattle.tables.specs.declared.tables.Direction.TheVariants as way
use Rattle.tables.specs.declared.tables.WorldItemKind.TheVariants as item
use Rattle.tables.specs.declared.tables.WorldItem.{WorldItem}
use Rattle.tables.specs.declared.tables.World.{World}
use Rattle.tables.specs.declared.tables.Resolve.{Resolve}
use Rattle.tables.specs.PackageNames.{PackageParts}
use Rattle.tables.specs.Keywords.{primitive_keyword}
use Rattle.tables.specs.Names.{full_name, world_name}
use Rattle.tables.specs.Tables.{are_earlier, name_types, are_standard, is_standard_kind, is_within, is_type_id, is_function_id}
use Rattle.tables.specs.Closed.{closed_kind, IsFunction as IsFunctionOf, prim_of, closed_types, function_type}
use Rattle.tables.specs.Package.{Key, PrimTree, TextTree, Reference, ListTree, RecordTree, VariantTree, FlagsTree, Plain, AsTuple, AsEnum, AsOption, AsResult, no_fields, field, no_choices, empty, holding, IsUse, IsType, IsFunction, NamedDefinition, WithInterface, WithFunction, WorldMeaning, package_of, definitions, definition_of, meaning_of, read_kind}
use Rattle.tables.specs.Same.{IsSamePackage}

-- ---- a package of two interfaces and a world
--
--   package a:b@1.2.0;
--   interface types {
--     record item { tags: list<string>, size: u32 }
--     type stock = item;
--     variant pay { cash, card(tuple<u8, char>) }
--     enum color { red, green }
--     flags mode { r, w }
--   }
--   interface shop {
--     use types.{item as thing};
--     put: func(t: thing, m: option<s64>) -> result<bool, string>;
--   }
--   world host { import types; export shop; import run: func(x: list<u8>); }

abbrev pub type_id : ℕ → TypeId
type_id n = record { 0 = n }

abbrev pub function_id : ℕ → FunctionId
function_id n = record { 0 = n }

abbrev pub package_id : ℕ → PackageId
package_id n = record { 0 = n }

abbrev pub in_interface : ℕ → InterfaceId
in_interface n = record { 0 = n }

abbrev pub in_world : ℕ → WorldId
in_world n = record { 0 = n }

abbrev pub id : ℕ → ValType
id n = val.Id (type_id n)

abbrev pub named_row : ℕ → List ℕ → TypeDefKind → Definition
named_row i name k = row.Type (record { name = Some (record { interface = in_interface i; name = name }); kind = k })

abbrev pub field_of : List ℕ → ValType → Field
field_of name v = record { name = name; ty = v }

abbrev pub parameter_of : List ℕ → ValType → Parameter
parameter_of name v = record { name = name; ty = v }

abbrev pub function_in : ℕ → List ℕ → List Parameter → Option ValType → Definition
function_in i name params result = row.Function (record { owner = owner.Interface (in_interface i); name = name; params = params; result = result })

abbrev pub function_of_world : ℕ → List ℕ → List Parameter → Option ValType → Definition
function_of_world w name params result = row.Function (record { owner = owner.World (in_world w); name = name; params = params; result = result })

abbrev pub interface_of : ℕ → List ℕ → List ℕ → List ℕ → List ℕ → Interface
interface_of p name uses types functions = record {
  «package» = package_id p;
  name = name;
  uses = map type_id uses;
  types = map type_id types;
  functions = map function_id functions;
}

abbrev pub imports_interface : ℕ → WorldItem
imports_interface n = record { direction = way.Import; kind = item.Interface (in_interface n) }

abbrev pub exports_interface : ℕ → WorldItem
exports_interface n = record { direction = way.Export; kind = item.Interface (in_interface n) }

abbrev pub imports_function : ℕ → WorldItem
imports_function n = record { direction = way.Import; kind = item.Function (function_id n) }

abbrev pub world_of : ℕ → List ℕ → List WorldItem → World
world_of p name items = record { «package» = package_id p; name = name; items = items }

abbrev pub u8 : ValType
u8 = val.Primitive primitive.U8

abbrev pub u32 : ValType
u32 = val.Primitive primitive.U32

abbrev pub unnamed_row : TypeDefKind → Definition
unnamed_row k = row.Type (record { name = None; kind = k })

abbrev pub texts : Definition
texts = unnamed_row (kind.List val.String)

abbrev pub item_row : Definition
item_row = named_row 0 (codes "item") (kind.Record (field_of (codes "tags") (id 0) ∷ field_of (codes "size") u32 ∷ []))

abbrev pub pay_row : Definition
pay_row = named_row 0 (codes "pay") (kind.Variant (record { name = codes "cash"; ty = None } ∷ record { name = codes "card"; ty = Some (id 3) } ∷ []))

abbrev pub type_rows : List Definition
type_rows =
    texts
    ∷ item_row
    ∷ named_row 0 (codes "stock") (kind.Alias (id 1))
    ∷ unnamed_row (kind.Tuple (u8 ∷ val.Primitive primitive.Char ∷ []))
    ∷ pay_row
    ∷ named_row 0 (codes "color") (kind.Enum (codes "red" ∷ codes "green" ∷ []))
    ∷ named_row 0 (codes "mode") (kind.Flags (codes "r" ∷ codes "w" ∷ []))
    ∷ []

abbrev pub put_row : Definition
put_row = function_in 1 (codes "put") (parameter_of (codes "t") (id 7) ∷ parameter_of (codes "m") (id 8) ∷ []) (Some (id 9))

abbrev pub shop_rows : List Definition
shop_rows =
    named_row 1 (codes "thing") (kind.Use (type_id 1))
    ∷ unnamed_row (kind.Option (val.Primitive primitive.S64))
    ∷ unnamed_row (kind.Result (Some (val.Primitive primitive.Bool)) (Some val.String))
    ∷ put_row
    ∷ []

abbrev pub host_rows : List Definition
host_rows = unnamed_row (kind.List u8) ∷ function_of_world 0 (codes "run") (parameter_of (codes "x") (id 11) ∷ []) None ∷ []

abbrev pub rows : List Definition
rows = type_rows ++ (shop_rows ++ host_rows)

abbrev pub types : Interface
types = interface_of 0 (codes "types") [] (1 ∷ 2 ∷ 4 ∷ 5 ∷ 6 ∷ []) []

abbrev pub shop : Interface
shop = interface_of 0 (codes "shop") (7 ∷ []) [] (10 ∷ [])

abbrev pub host : World
host = world_of 0 (codes "host") (imports_interface 0 ∷ exports_interface 1 ∷ imports_function 12 ∷ [])

abbrev pub a_b : PackageParts
a_b = record { namespace = codes "a"; name = codes "b"; version = Some (codes "1.2.0") }

-- each row names earlier types alone, none is empty or too large, and ids are of their kind
abbrev pub p : Resolve
p = record {
  packages = a_b ∷ [];
  interfaces = types ∷ shop ∷ [];
  worlds = host ∷ [];
  definitions = rows;
  earlier = refl;
  typed = refl;
  standard = refl;
  placed = refl;
  grouped = refl;
  worlds_grouped = refl;
  worlds_placed = refl;
}

-- ---- its names and its meaning

abbrev pub types_name : List ℕ
types_name = codes "a:b/types@1.2.0"

abbrev pub shop_name : List ℕ
shop_name = codes "a:b/shop@1.2.0"

abbrev pub host_name : List ℕ
host_name = codes "a:b/host@1.2.0"

p-names : (full_name p types ≡ types_name) × (world_name p host ≡ host_name)
p-names = (refl, refl)

abbrev pub key : List ℕ → List ℕ → Key
key interface name = record { interface = interface; name = name }

abbrev pub item_meaning : NamedDefinition
item_meaning = record {
  key = key types_name (codes "item");
  meaning = IsType (RecordTree Plain (field (codes "tags") (ListTree TextTree) (field (codes "size") (PrimTree primitive.U32) no_fields)));
}

abbrev pub stock_meaning : NamedDefinition
stock_meaning = record { key = key types_name (codes "stock"); meaning = IsType (Reference (key types_name (codes "item"))) }

abbrev pub pay_meaning : NamedDefinition
pay_meaning = record {
  key = key types_name (codes "pay");
  meaning = IsType (VariantTree Plain (empty (codes "cash")
      (holding (codes "card") (RecordTree AsTuple (field [] (PrimTree primitive.U8) (field [] (PrimTree primitive.Char) no_fields))) no_choices)));
}

abbrev pub color_meaning : NamedDefinition
color_meaning = record { key = key types_name (codes "color"); meaning = IsType (VariantTree AsEnum (empty (codes "red") (empty (codes "green") no_choices))) }

abbrev pub mode_meaning : NamedDefinition
mode_meaning = record { key = key types_name (codes "mode"); meaning = IsType (FlagsTree (codes "r" ∷ codes "w" ∷ [])) }

abbrev pub thing_meaning : NamedDefinition
thing_meaning = record { key = key shop_name (codes "thing"); meaning = IsUse (Reference (key types_name (codes "item"))) }

abbrev pub put_meaning : NamedDefinition
put_meaning = record {
  key = key shop_name (codes "put");
  meaning = IsFunction
      (field (codes "t") (Reference (key shop_name (codes "thing")))
      (field (codes "m") (VariantTree AsOption (empty (codes "none") (holding (codes "some") (PrimTree primitive.S64) no_choices))) no_fields))
      (Some (VariantTree AsResult (holding (codes "ok") (PrimTree primitive.Bool) (holding (codes "error") TextTree no_choices))));
}

abbrev pub host_meaning : WorldMeaning
host_meaning = record {
  name = host_name;
  items =
      WithInterface way.Import types_name
      ∷ WithInterface way.Export shop_name
      ∷ WithFunction way.Import (codes "run") (field (codes "x") (ListTree (PrimTree primitive.U8)) no_fields) None
      ∷ [];
}

p-meaning : package_of p
    ≡ record {
      interfaces = types_name ∷ shop_name ∷ [];
      worlds = host_meaning ∷ [];
      definitions = item_meaning ∷ stock_meaning ∷ pay_meaning ∷ color_meaning ∷ mode_meaning ∷ thing_meaning ∷ put_meaning ∷ [];
    }
p-meaning = refl

bare-result : read_kind [] (kind.Result None None) ≡ VariantTree AsResult (empty (codes "ok") (empty (codes "error") no_choices))
bare-result = refl

-- an enum and a variant without payloads have one closed type, but are not the same; nor are a tuple and a record
abbrev enum_kind : TypeDefKind
enum_kind = kind.Enum (codes "a" ∷ [])

abbrev variant_kind : TypeDefKind
variant_kind = kind.Variant (record { name = codes "a"; ty = None } ∷ [])

enum-is-closed-alike : closed_kind [] enum_kind ≡ closed_kind [] variant_kind
enum-is-closed-alike = refl

enum-is-no-variant : read_kind [] enum_kind ≡ read_kind [] variant_kind → ⊥
enum-is-no-variant e = cc

tuple-is-no-record : read_kind [] (kind.Tuple (u8 ∷ [])) ≡ read_kind [] (kind.Record (field_of [] u8 ∷ [])) → ⊥
tuple-is-no-record e = cc

-- a used name is no new name of the same type
use-is-no-alias : meaning_of (TextTree ∷ []) (kind.Use (type_id 0)) ≡ meaning_of (TextTree ∷ []) (kind.Alias (id 0)) → ⊥
use-is-no-alias e = cc

-- a function of a world is no definition of an interface
world-function-is-no-definition : definition_of (types_name ∷ []) [] (function_of_world 0 (codes "f") [] None) ≡ []
world-function-is-no-definition = refl

-- ---- its closed types

abbrev item_type : ClosedType
item_type = record_type (fields_of (list_type string_type ∷ prim_type (unsigned int32) ∷ []))

abbrev pair_type : ClosedType
pair_type = record_type (fields_of (prim_type (unsigned int8) ∷ prim_type scalar_value ∷ []))

abbrev money_type : ClosedType
money_type = variant_type (cases_of (None ∷ Some (prim_type (signed int64)) ∷ []))

abbrev outcome_type : ClosedType
outcome_type = variant_type (cases_of (Some (prim_type boolean) ∷ Some string_type ∷ []))

p-closed : take 10 (closed_types p)
    ≡ list_type string_type ∷ item_type ∷ item_type ∷ pair_type ∷ variant_type (cases_of (None ∷ Some pair_type ∷ []))
    ∷ variant_type (cases_of (None ∷ None ∷ [])) ∷ flags_type 2 ∷ item_type ∷ money_type ∷ outcome_type ∷ []
p-closed = refl

p-put : function_type p (function_id 10) ≡ record { params = fields_of (item_type ∷ money_type ∷ []); result = Some outcome_type }
p-put = refl

p-run : function_type p (function_id 12) ≡ record { params = fields_of (list_type (prim_type (unsigned int8)) ∷ []); result = None }
p-run = refl

p-put-is : IsFunctionOf p (function_id 10)
p-put-is = refl

-- a row of a type is no function
p-not-function : (is_function_id rows (function_id 7) ≡ false) × (is_type_id rows (type_id 10) ≡ false) × (is_type_id rows (type_id 13) ≡ false)
p-not-function = (refl, refl, refl)

each-primitive : map prim_of
    (primitive.Bool ∷ primitive.S8 ∷ primitive.U8 ∷ primitive.S16 ∷ primitive.U16 ∷ primitive.S32 ∷ primitive.U32 ∷ primitive.S64 ∷ primitive.U64 ∷ primitive.Char ∷ [])
    ≡ boolean ∷ signed int8 ∷ unsigned int8 ∷ signed int16 ∷ unsigned int16 ∷ signed int32 ∷ unsigned int32 ∷ signed int64 ∷ unsigned int64 ∷ scalar_value ∷ []
each-primitive = refl

each-keyword : map primitive_keyword
    (primitive.Bool ∷ primitive.S8 ∷ primitive.U8 ∷ primitive.S16 ∷ primitive.U16 ∷ primitive.S32 ∷ primitive.U32 ∷ primitive.S64 ∷ primitive.U64 ∷ primitive.Char ∷ [])
    ≡ codes "bool" ∷ codes "s8" ∷ codes "u8" ∷ codes "s16" ∷ codes "u16" ∷ codes "s32" ∷ codes "u32" ∷ codes "s64" ∷ codes "u64" ∷ codes "char" ∷ []
each-keyword = refl

-- ---- two packages: the second uses a name of the first

abbrev pub c_d : PackageParts
c_d = record { namespace = codes "c"; name = codes "d"; version = None }

abbrev pub used_rows : List Definition
used_rows = named_row 0 (codes "money") (kind.Alias u32) ∷ named_row 1 (codes "money") (kind.Use (type_id 0)) ∷ []

abbrev pub money : Interface
money = interface_of 0 (codes "money") [] (0 ∷ []) []

abbrev pub till : Interface
till = interface_of 1 (codes "till") (1 ∷ []) [] []

abbrev pub q : Resolve
q = record {
  packages = a_b ∷ c_d ∷ [];
  interfaces = money ∷ till ∷ [];
  worlds = [];
  definitions = used_rows;
  earlier = refl;
  typed = refl;
  standard = refl;
  placed = refl;
  grouped = refl;
  worlds_grouped = refl;
  worlds_placed = refl;
}

q-meaning : definitions q
    ≡ record { key = key (codes "a:b/money@1.2.0") (codes "money"); meaning = IsType (PrimTree primitive.U32) }
    ∷ record { key = key (codes "c:d/till") (codes "money"); meaning = IsUse (Reference (key (codes "a:b/money@1.2.0") (codes "money"))) }
    ∷ []
q-meaning = refl

q-other : IsSamePackage p q → ⊥
q-other s = let n : 1 ≡ 2 = ap (λ ps. length ps) s.packages in omega (arith, n)

p-same : IsSamePackage p p
p-same = record { packages = refl; interfaces = refl; worlds = refl; definitions = refl }

-- ---- rows that no table has

-- a row that names itself or a later one, and a row that names a function
not-itself : are_earlier 0 (named_row 0 (codes "a") (kind.List (id 0)) ∷ []) ≡ false
not-itself = refl

not-later : are_earlier 0 (item_row ∷ texts ∷ []) ≡ false
not-later = refl

not-a-function : (name_types rows ≡ true) × (name_types (function_in 0 (codes "f") [] None ∷ named_row 0 (codes "a") (kind.Option (id 0)) ∷ []) ≡ false)
not-a-function = (refl, refl)

-- nothing without parts, 100,000 cases and 32 flags at most
not-empty : (are_standard (named_row 0 (codes "a") (kind.Record []) ∷ []) ≡ false) × (is_standard_kind (kind.Tuple []) ≡ false)
    × (is_standard_kind (kind.Variant []) ≡ false) × (is_standard_kind (kind.Enum []) ≡ false) × (is_standard_kind (kind.Flags []) ≡ false)
not-empty = (refl, refl, refl, refl, refl)

few-flags : (is_standard_kind (kind.Flags (replicate 32 (codes "a"))) ≡ true) × (is_standard_kind (kind.Flags (replicate 33 (codes "a"))) ≡ false)
few-flags = (refl, refl)

few-cases : (names : List (List ℕ)) → (length names ≡ 100000 → is_standard_kind (kind.Enum names) ≡ true) × (length names ≡ 100001 → is_standard_kind (kind.Enum names) ≡ false)
few-cases names = (λ e. ap (λ n. is_within n 100000) e, λ e. ap (λ n. is_within n 100000) e)

few-payloads : (cs : List Case) → (length cs ≡ 100000 → is_standard_kind (kind.Variant cs) ≡ true) × (length cs ≡ 100001 → is_standard_kind (kind.Variant cs) ≡ false)
few-payloads cs = (λ e. ap (λ n. is_within n 100000) e, λ e. ap (λ n. is_within n 100000) e)
