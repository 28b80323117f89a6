-- Worked examples: the component of a package, and its bytes.
use Rattle.std.proofs.Common.{◌≡◌, ℕ, List, [], ◌∷◌, ◌++◌, map, length, slice_index, Option, Some, None, true, false, codes, refl, ap, sym, ◌∙◌, arith}
use Rattle.std.specs.Prelude.{⊤}
use Rattle.ctype_format.specs.Raw.{Prim, Record, Variant, ListOf, Tuple, FlagSet, Enumeration, OptionOf, ResultOf, Define, Func, Component, Instance, Decl, Entry, Alias, Import, Export, none, BinaryFile}
use Rattle.ctype_format.specs.View.{decls_of}
use Rattle.ctype_format.specs.Shortest.{groups}
use Rattle.ctype_format.specs.Writing.{file_bytes, type_bytes}
use Rattle.ctype_format.specs.declared.raw.Primitive.TheVariants as raw
use Rattle.ctype_format.specs.declared.raw.RawValType.TheVariants as valtype
use Rattle.ctype_format.specs.declared.raw.RawAlias.TheVariants as alias
use Rattle.ctype_format.specs.declared.raw.RawDescription.TheVariants as described
use Rattle.ctype_bin.specs.FileView.{raw_component_view}
use Rattle.ctype_bin.specs.declared.component.RawComponent.{RawComponent}
use Rattle.tables.specs.PackageNames.{PackageParts}
use Rattle.tables.specs.declared.error.ResolveError.TheVariants as error
use Rattle.tables.specs.declared.tables.Primitive.TheVariants as primitive
use Rattle.tables.specs.declared.tables.ValType.{ValType}
use Rattle.tables.specs.declared.tables.ValType.TheVariants as val
use Rattle.tables.specs.declared.tables.TypeId.{TypeId}
use Rattle.tables.specs.declared.tables.FunctionId.{FunctionId}
use Rattle.tables.specs.declared.tables.TypeDefKind.{TypeDefKind}
use Rattle.tables.specs.declared.tables.TypeDefKind.TheVariants as kind
use Rattle.tables.specs.declared.tables.Field.{Field}
use Rattle.tables.specs.declared.tables.Parameter.{Parameter}
use Rattle.tables.specs.declared.tables.Owner.{Owner}
use Rattle.tables.specs.declared.tables.Owner.TheVariants as owner
use Rattle.tables.specs.declared.tables.Definition.{Definition}
use Rattle.tables.specs.declared.tables.Definition.TheVariants as row
use Rattle.tables.specs.declared.tables.Interface.{Interface}
use Rattle.tables.specs.declared.tables.Direction.TheVariants as direction
use Rattle.tables.specs.declared.tables.WorldItemKind.TheVariants as item
use Rattle.tables.specs.declared.tables.World.{World}
use Rattle.tables.specs.declared.tables.Resolve.{Resolve}
use Rattle.atoms.specs.Label.{is_label}
use Rattle.atoms.specs.FullName.{is_package_label}
use Rattle.package_form.specs.Postfix.{begin, whole}
use Rattle.wit_component.specs.Rows.{Place, raw_primitive, declarations_of, places_after}
use Rattle.wit_component.specs.Component.{component_of}
use Rattle.wit_component.specs.ToComponent.{ComponentStands, are_labelled, are_worlds_labelled}
use Rattle.wit_component.specs.FromComponent.{is_empty_package, ClosedComponentRefuses}

unfoldable pub bytes_of_components : ⊤
unfolding groups file_bytes type_bytes
bytes_of_components = tt

-- ---- rows

abbrev type_id : ℕ → TypeId
type_id n = record { 0 = n }

abbrev id : ℕ → ValType
id n = val.Id (type_id n)

abbrev u8 : ValType
u8 = val.Primitive primitive.U8

abbrev u32 : ValType
u32 = val.Primitive primitive.U32

abbrev unnamed : TypeDefKind → Definition
unnamed k = row.Type (record { name = None; kind = k })

abbrev named : ℕ → List ℕ → TypeDefKind → Definition
named i name k = row.Type (record { name = Some (record { interface = record { 0 = i }; name = name }); kind = k })

abbrev a_field : List ℕ → ValType → Field
a_field name v = record { name = name; ty = v }

abbrev parameter : List ℕ → ValType → Parameter
parameter name v = record { name = name; ty = v }

abbrev a_function : Owner → List ℕ → List Parameter → Option ValType → Definition
a_function whose name params result = row.Function (record { owner = whose; name = name; params = params; result = result })

abbrev in_interface : ℕ → Owner
in_interface n = owner.Interface (record { 0 = n })

abbrev in_world : ℕ → Owner
in_world n = owner.World (record { 0 = n })

abbrev function_id : ℕ → FunctionId
function_id n = record { 0 = n }

abbrev an_interface : ℕ → List ℕ → List ℕ → List ℕ → List ℕ → Interface
an_interface p name uses types functions = record {
  «package» = record { 0 = p };
  name = name;
  uses = map type_id uses;
  types = map type_id types;
  functions = map function_id functions;
}

abbrev a_b : PackageParts
a_b = record { namespace = codes "a"; name = codes "b"; version = None }

abbrev mark : List ℕ
mark = 0x00 ∷ 0x61 ∷ 0x73 ∷ 0x6d ∷ 0x0d ∷ 0x00 ∷ 0x01 ∷ 0x00 ∷ []

abbrev export_section : List ℕ
export_section = 0x0b ∷ 0x0d ∷ 0x01 ∷ 0x00 ∷ 0x07 ∷ codes "package" ++ 0x03 ∷ 0x00 ∷ 0x00 ∷ []

-- ---- package a:b; interface c { f: func(x: u32) -> u32; }

abbrev p1 : Resolve
p1 = record {
  packages = a_b ∷ [];
  interfaces = an_interface 0 (codes "c") [] [] (0 ∷ []) ∷ [];
  worlds = [];
  definitions = a_function (in_interface 0) (codes "f") (parameter (codes "x") u32 ∷ []) (Some u32) ∷ [];
  earlier = refl;
  typed = refl;
  standard = refl;
  placed = refl;
  grouped = refl;
  worlds_grouped = refl;
  worlds_placed = refl;
}

abbrev p1_bytes : List ℕ
p1_bytes = mark
    ++ (0x07 ∷ 0x1e ∷ 0x01 ∷ 0x41 ∷ 0x02
    ∷ 0x01 ∷ 0x42 ∷ 0x02
    ∷ 0x01 ∷ 0x40 ∷ 0x01 ∷ 0x01 ∷ codes "x" ++ (0x79 ∷ 0x00 ∷ 0x79
    ∷ 0x04 ∷ 0x00 ∷ 0x01 ∷ codes "f" ++ (0x01 ∷ 0x00
    ∷ 0x04 ∷ 0x00 ∷ 0x05 ∷ codes "a:b/c" ++ (0x05 ∷ 0x00 ∷ export_section))))

p1-bytes : file_bytes (component_of p1) ≡ p1_bytes
unfolding bytes_of_components
p1-bytes = refl

-- an own interface is exported, not imported
p1-no-import : slice_index (file_bytes (component_of p1)) 30 ≡ 0x03 → ⊥
unfolding bytes_of_components
p1-no-import e = omega (arith, e)

-- ---- package d:e@1.0.0; interface y { type t = u16; }
-- ---- package a:b; interface x { use d:e/y@1.0.0.{t}; f: func(p: t) -> t; }

abbrev d_e : PackageParts
d_e = record { namespace = codes "d"; name = codes "e"; version = Some (codes "1.0.0") }

abbrev using : Resolve
using = record {
  packages = d_e ∷ a_b ∷ [];
  interfaces = an_interface 0 (codes "y") [] (0 ∷ []) [] ∷ an_interface 1 (codes "x") (1 ∷ []) [] (2 ∷ []) ∷ [];
  worlds = [];
  definitions =
      named 0 (codes "t") (kind.Alias (val.Primitive primitive.U16))
      ∷ named 1 (codes "t") (kind.Use (type_id 0))
      ∷ a_function (in_interface 1) (codes "f") (parameter (codes "p") (id 1) ∷ []) (Some (id 1))
      ∷ [];
  earlier = refl;
  typed = refl;
  standard = refl;
  placed = refl;
  grouped = refl;
  worlds_grouped = refl;
  worlds_placed = refl;
}

abbrev using_bytes : List ℕ
using_bytes = mark
    ++ (0x07 ∷ 0x4c ∷ 0x01 ∷ 0x41 ∷ 0x05
    ∷ 0x01 ∷ 0x42 ∷ 0x02 ∷ 0x01 ∷ 0x7b ∷ 0x04 ∷ 0x00 ∷ 0x01 ∷ codes "t" ++ (0x03 ∷ 0x00 ∷ 0x00
    ∷ 0x03 ∷ 0x00 ∷ 0x0b ∷ codes "d:e/y@1.0.0" ++ (0x05 ∷ 0x00
    ∷ 0x02 ∷ 0x03 ∷ 0x00 ∷ 0x00 ∷ 0x01 ∷ codes "t" ++ (
    0x01 ∷ 0x42 ∷ 0x04
    ∷ 0x02 ∷ 0x03 ∷ 0x02 ∷ 0x01 ∷ 0x01
    ∷ 0x04 ∷ 0x00 ∷ 0x01 ∷ codes "t" ++ (0x03 ∷ 0x00 ∷ 0x00
    ∷ 0x01 ∷ 0x40 ∷ 0x01 ∷ 0x01 ∷ codes "p" ++ (0x01 ∷ 0x00 ∷ 0x01
    ∷ 0x04 ∷ 0x00 ∷ 0x01 ∷ codes "f" ++ (0x01 ∷ 0x02
    ∷ 0x04 ∷ 0x00 ∷ 0x05 ∷ codes "a:b/x" ++ (0x05 ∷ 0x02 ∷ export_section))))))))

using-bytes : file_bytes (component_of using) ≡ using_bytes
unfolding bytes_of_components
using-bytes = refl

-- an interface of another package is imported, not exported
using-no-export : slice_index (file_bytes (component_of using)) 25 ≡ 0x04 → ⊥
unfolding bytes_of_components
using-no-export e = omega (arith, e)

-- ---- package a:b@1.0.0; interface c { f: func(); } world w { import c; export c; import g: func(x: list<u8>); export h: func(); }

abbrev a_b_1 : PackageParts
a_b_1 = record { namespace = codes "a"; name = codes "b"; version = Some (codes "1.0.0") }

abbrev host : World
host = record {
  «package» = record { 0 = 0 };
  name = codes "w";
  items =
      record { direction = direction.Import; kind = item.Interface (record { 0 = 0 }) }
      ∷ record { direction = direction.Export; kind = item.Interface (record { 0 = 0 }) }
      ∷ record { direction = direction.Import; kind = item.Function (function_id 2) }
      ∷ record { direction = direction.Export; kind = item.Function (function_id 3) }
      ∷ [];
}

abbrev w : Resolve
w = record {
  packages = a_b_1 ∷ [];
  interfaces = an_interface 0 (codes "c") [] [] (0 ∷ []) ∷ [];
  worlds = host ∷ [];
  definitions =
      a_function (in_interface 0) (codes "f") [] None
      ∷ unnamed (kind.List u8)
      ∷ a_function (in_world 0) (codes "g") (parameter (codes "x") (id 1) ∷ []) None
      ∷ a_function (in_world 0) (codes "h") [] None
      ∷ [];
  earlier = refl;
  typed = refl;
  standard = refl;
  placed = refl;
  grouped = refl;
  worlds_grouped = refl;
  worlds_placed = refl;
}

abbrev w_interface : List Decl
w_interface = Entry (Func (record { params = []; outcome = None })) ∷ Export (codes "f") (described.Function 0) ∷ []

-- types 0 and 1 are the interface, 2 the list, 3 and 4 the functions
abbrev w_world : List Decl
w_world =
    Alias (alias.Outer 1 0) ∷ Import (codes "a:b/c@1.0.0") (described.Instance 0)
    ∷ Alias (alias.Outer 1 0) ∷ Export (codes "a:b/c@1.0.0") (described.Instance 1)
    ∷ Entry (Define (ListOf (valtype.Primitive raw.U8)))
    ∷ Entry (Func (record { params = record { label = codes "x"; ty = valtype.Index 2 } ∷ []; outcome = None }))
    ∷ Import (codes "g") (described.Function 3)
    ∷ Entry (Func (record { params = []; outcome = None }))
    ∷ Export (codes "h") (described.Function 4)
    ∷ []

abbrev w_file : BinaryFile
w_file = record {
  types =
      Component (decls_of (
      Entry (Instance (decls_of w_interface)) ∷ Export (codes "a:b/c@1.0.0") (described.Instance 0)
      ∷ Entry (Component (decls_of w_world)) ∷ Export (codes "a:b/w@1.0.0") (described.Component 1)
      ∷ []))
      ∷ [];
  exports = record { name = codes "package"; type = 0 } ∷ [];
}

w-component : component_of w ≡ w_file
w-component = refl

-- ---- package a:b@1.0.0; interface c { f: func(); } world w { import c; export g: func(x: u8); }

abbrev small_world : Resolve
small_world = record {
  packages = a_b_1 ∷ [];
  interfaces = an_interface 0 (codes "c") [] [] (0 ∷ []) ∷ [];
  worlds = record {
    «package» = record { 0 = 0 };
    name = codes "w";
    items =
        record { direction = direction.Import; kind = item.Interface (record { 0 = 0 }) }
        ∷ record { direction = direction.Export; kind = item.Function (function_id 1) }
        ∷ [];
  } ∷ [];
  definitions =
      a_function (in_interface 0) (codes "f") [] None
      ∷ a_function (in_world 0) (codes "g") (parameter (codes "x") u8 ∷ []) None
      ∷ [];
  earlier = refl;
  typed = refl;
  standard = refl;
  placed = refl;
  grouped = refl;
  worlds_grouped = refl;
  worlds_placed = refl;
}

abbrev small_world_bytes : List ℕ
small_world_bytes = mark
    ++ (0x07 ∷ 0x57 ∷ 0x01 ∷ 0x41 ∷ 0x04
    ∷ 0x01 ∷ 0x42 ∷ 0x02 ∷ 0x01 ∷ 0x40 ∷ 0x00 ∷ 0x01 ∷ 0x00 ∷ 0x04 ∷ 0x00 ∷ 0x01 ∷ codes "f" ++ (0x01 ∷ 0x00
    ∷ 0x04 ∷ 0x00 ∷ 0x0b ∷ codes "a:b/c@1.0.0" ++ (0x05 ∷ 0x00
    ∷ 0x01 ∷ 0x41 ∷ 0x04
    ∷ 0x02 ∷ 0x03 ∷ 0x02 ∷ 0x01 ∷ 0x00
    ∷ 0x03 ∷ 0x00 ∷ 0x0b ∷ codes "a:b/c@1.0.0" ++ (0x05 ∷ 0x00
    ∷ 0x01 ∷ 0x40 ∷ 0x01 ∷ 0x01 ∷ codes "x" ++ (0x7d ∷ 0x01 ∷ 0x00
    ∷ 0x04 ∷ 0x00 ∷ 0x01 ∷ codes "g" ++ (0x01 ∷ 0x01
    ∷ 0x04 ∷ 0x00 ∷ 0x0b ∷ codes "a:b/w@1.0.0" ++ (0x04 ∷ 0x01 ∷ export_section)))))))

small-world-bytes : file_bytes (component_of small_world) ≡ small_world_bytes
unfolding bytes_of_components
small-world-bytes = refl

small-world-length : length small_world_bytes ≡ 112
small-world-length = refl

-- what a world imports is no export
small-world-no-export : slice_index (file_bytes (component_of small_world)) 51 ≡ 0x04 → ⊥
unfolding bytes_of_components
small-world-no-export e = omega (arith, e)

-- ---- two worlds: each has type indices of its own, and an index of the component type
--
--   interface c { type t = u8; }
--   world u { import f: func(x: list<u8>); }
--   world v { export f: func(x: list<u8>); import c; }

abbrev two_worlds : Resolve
two_worlds = record {
  packages = a_b ∷ [];
  interfaces = an_interface 0 (codes "c") [] (0 ∷ []) [] ∷ [];
  worlds =
      record { «package» = record { 0 = 0 }; name = codes "u"; items = record { direction = direction.Import; kind = item.Function (function_id 2) } ∷ [] }
      ∷ record {
        «package» = record { 0 = 0 };
        name = codes "v";
        items =
            record { direction = direction.Export; kind = item.Function (function_id 4) }
            ∷ record { direction = direction.Import; kind = item.Interface (record { 0 = 0 }) }
            ∷ [];
      }
      ∷ [];
  definitions =
      named 0 (codes "t") (kind.Alias u8)
      ∷ unnamed (kind.List u8)
      ∷ a_function (in_world 0) (codes "f") (parameter (codes "x") (id 1) ∷ []) None
      ∷ unnamed (kind.List u8)
      ∷ a_function (in_world 1) (codes "f") (parameter (codes "x") (id 3) ∷ []) None
      ∷ [];
  earlier = refl;
  typed = refl;
  standard = refl;
  placed = refl;
  grouped = refl;
  worlds_grouped = refl;
  worlds_placed = refl;
}

abbrev list_function : List Decl
list_function =
    Entry (Define (ListOf (valtype.Primitive raw.U8)))
    ∷ Entry (Func (record { params = record { label = codes "x"; ty = valtype.Index 0 } ∷ []; outcome = None }))
    ∷ []

two-worlds-component : (component_of two_worlds).types
    ≡ Component (decls_of (
    Entry (Instance (decls_of (Entry (Define (Prim raw.U8)) ∷ Export (codes "t") (described.TypeEqual 0) ∷ [])))
    ∷ Export (codes "a:b/c") (described.Instance 0)
    ∷ Entry (Component (decls_of (list_function ++ Import (codes "f") (described.Function 1) ∷ [])))
    ∷ Export (codes "a:b/u") (described.Component 1)
    ∷ Entry (Component (decls_of (list_function ++ Export (codes "f") (described.Function 1) ∷ Alias (alias.Outer 1 0) ∷ Import (codes "a:b/c") (described.Instance 2) ∷ [])))
    ∷ Export (codes "a:b/v") (described.Component 2)
    ∷ []))
    ∷ []
two-worlds-component = refl

-- ---- an interface with a type of each kind
--
--   record r { a: list<u8>, b: string }     type o = option<r>
--   type s = r                              type p = result<o, u8>
--   variant v { a, b(s) }                   type q = tuple<string, char>
--   enum e { a, b }                         type n = s16
--   flags g { a }                           type m = string
--   f: func(a: q, b: n) -> p                k: func()

abbrev kinds : List Definition
kinds =
    unnamed (kind.List u8)
    ∷ named 0 (codes "r") (kind.Record (a_field (codes "a") (id 0) ∷ a_field (codes "b") val.String ∷ []))
    ∷ named 0 (codes "s") (kind.Alias (id 1))
    ∷ named 0 (codes "v") (kind.Variant (record { name = codes "a"; ty = None } ∷ record { name = codes "b"; ty = Some (id 2) } ∷ []))
    ∷ named 0 (codes "e") (kind.Enum (codes "a" ∷ codes "b" ∷ []))
    ∷ named 0 (codes "g") (kind.Flags (codes "a" ∷ []))
    ∷ named 0 (codes "o") (kind.Option (id 1))
    ∷ named 0 (codes "p") (kind.Result (Some (id 6)) (Some u8))
    ∷ named 0 (codes "q") (kind.Tuple (val.String ∷ val.Primitive primitive.Char ∷ []))
    ∷ named 0 (codes "n") (kind.Alias (val.Primitive primitive.S16))
    ∷ named 0 (codes "m") (kind.Alias val.String)
    ∷ a_function (in_interface 0) (codes "f") (parameter (codes "a") (id 8) ∷ parameter (codes "b") (id 9) ∷ []) (Some (id 7))
    ∷ a_function (in_interface 0) (codes "k") [] None
    ∷ []

abbrev first : Place
first = record { indices = []; types = 0; used = 0 }

-- a definition and an export take an index each, and a new name of a named type an export alone
abbrev kinds_decls : List Decl
kinds_decls =
    Entry (Define (ListOf (valtype.Primitive raw.U8)))
    ∷ Entry (Define (Record (record { label = codes "a"; ty = valtype.Index 0 } ∷ record { label = codes "b"; ty = valtype.Primitive raw.String } ∷ [])))
    ∷ Export (codes "r") (described.TypeEqual 1)
    ∷ Export (codes "s") (described.TypeEqual 2)
    ∷ Entry (Define (Variant (record { label = codes "a"; payload = None } ∷ record { label = codes "b"; payload = Some (valtype.Index 3) } ∷ [])))
    ∷ Export (codes "v") (described.TypeEqual 4)
    ∷ Entry (Define (Enumeration (codes "a" ∷ codes "b" ∷ [])))
    ∷ Export (codes "e") (described.TypeEqual 6)
    ∷ Entry (Define (FlagSet (codes "a" ∷ [])))
    ∷ Export (codes "g") (described.TypeEqual 8)
    ∷ Entry (Define (OptionOf (valtype.Index 2)))
    ∷ Export (codes "o") (described.TypeEqual 10)
    ∷ Entry (Define (ResultOf (Some (valtype.Index 11)) (Some (valtype.Primitive raw.U8))))
    ∷ Export (codes "p") (described.TypeEqual 12)
    ∷ Entry (Define (Tuple (valtype.Primitive raw.String ∷ valtype.Primitive raw.Char ∷ [])))
    ∷ Export (codes "q") (described.TypeEqual 14)
    ∷ Entry (Define (Prim raw.S16))
    ∷ Export (codes "n") (described.TypeEqual 16)
    ∷ Entry (Define (Prim raw.String))
    ∷ Export (codes "m") (described.TypeEqual 18)
    ∷ Entry (Func (record { params = record { label = codes "a"; ty = valtype.Index 15 } ∷ record { label = codes "b"; ty = valtype.Index 17 } ∷ []; outcome = Some (valtype.Index 13) }))
    ∷ Export (codes "f") (described.Function 20)
    ∷ Entry (Func (record { params = []; outcome = None }))
    ∷ Export (codes "k") (described.Function 21)
    ∷ []

kinds-declared : declarations_of first kinds ≡ kinds_decls
kinds-declared = refl

kinds-indices : places_after first kinds ≡ record { indices = 0 ∷ 2 ∷ 3 ∷ 5 ∷ 7 ∷ 9 ∷ 11 ∷ 13 ∷ 15 ∷ 17 ∷ 19 ∷ 20 ∷ 21 ∷ []; types = 22; used = 13 }
kinds-indices = refl

-- a type without a name has no export, and a new name of a named type no definition
unnamed-no-export : length (declarations_of first (unnamed (kind.List u8) ∷ [])) ≡ 2 → ⊥
unnamed-no-export e = omega (arith, e)

new-name-no-definition : length (declarations_of (record { indices = 2 ∷ []; types = 3; used = 0 }) (named 0 (codes "s") (kind.Alias (id 0)) ∷ [])) ≡ 2 → ⊥
new-name-no-definition e = omega (arith, e)

primitives : map raw_primitive (primitive.Bool ∷ primitive.S8 ∷ primitive.U8 ∷ primitive.S16 ∷ primitive.U16 ∷ primitive.S32 ∷ primitive.U32 ∷ primitive.S64 ∷ primitive.U64 ∷ primitive.Char ∷ [])
    ≡ raw.Bool ∷ raw.S8 ∷ raw.U8 ∷ raw.S16 ∷ raw.U16 ∷ raw.S32 ∷ raw.U32 ∷ raw.S64 ∷ raw.U64 ∷ raw.Char ∷ []
primitives = refl

-- ---- two uses: each alias stands before the interface that uses it, and takes an index of the component type
--
--   interface y { type t = u8; type u = u16; }
--   interface x { use y.{u as k, t}; }
--   interface z { use x.{k}; }
--   world v { import z; import y; }

abbrev uses : Resolve
uses = record {
  packages = a_b ∷ [];
  interfaces =
      an_interface 0 (codes "y") [] (0 ∷ 1 ∷ []) []
      ∷ an_interface 0 (codes "x") (2 ∷ 3 ∷ []) [] []
      ∷ an_interface 0 (codes "z") (4 ∷ []) [] []
      ∷ [];
  worlds = record {
    «package» = record { 0 = 0 };
    name = codes "v";
    items =
        record { direction = direction.Import; kind = item.Interface (record { 0 = 2 }) }
        ∷ record { direction = direction.Import; kind = item.Interface (record { 0 = 0 }) }
        ∷ [];
  } ∷ [];
  definitions =
      named 0 (codes "t") (kind.Alias u8)
      ∷ named 0 (codes "u") (kind.Alias (val.Primitive primitive.U16))
      ∷ named 1 (codes "k") (kind.Use (type_id 1))
      ∷ named 1 (codes "t") (kind.Use (type_id 0))
      ∷ named 2 (codes "k") (kind.Use (type_id 2))
      ∷ [];
  earlier = refl;
  typed = refl;
  standard = refl;
  placed = refl;
  grouped = refl;
  worlds_grouped = refl;
  worlds_placed = refl;
}

uses-component : (component_of uses).types
    ≡ Component (decls_of (
    Entry (Instance (decls_of (
    Entry (Define (Prim raw.U8)) ∷ Export (codes "t") (described.TypeEqual 0)
    ∷ Entry (Define (Prim raw.U16)) ∷ Export (codes "u") (described.TypeEqual 2)
    ∷ [])))
    ∷ Export (codes "a:b/y") (described.Instance 0)
    ∷ Alias (alias.InstanceExport 0 (codes "u"))
    ∷ Alias (alias.InstanceExport 0 (codes "t"))
    ∷ Entry (Instance (decls_of (
    Alias (alias.Outer 1 1) ∷ Export (codes "k") (described.TypeEqual 0)
    ∷ Alias (alias.Outer 1 2) ∷ Export (codes "t") (described.TypeEqual 2)
    ∷ [])))
    ∷ Export (codes "a:b/x") (described.Instance 3)
    ∷ Alias (alias.InstanceExport 1 (codes "k"))
    ∷ Entry (Instance (decls_of (Alias (alias.Outer 1 4) ∷ Export (codes "k") (described.TypeEqual 0) ∷ [])))
    ∷ Export (codes "a:b/z") (described.Instance 5)
    ∷ Entry (Component (decls_of (
    Alias (alias.Outer 1 5) ∷ Import (codes "a:b/z") (described.Instance 0)
    ∷ Alias (alias.Outer 1 0) ∷ Import (codes "a:b/y") (described.Instance 1)
    ∷ [])))
    ∷ Export (codes "a:b/v") (described.Component 6)
    ∷ []))
    ∷ []
uses-component = refl

-- ---- which components are refused

empty-package : is_empty_package (Component none ∷ []) ≡ true
empty-package = refl

no-empty-package : is_empty_package (component_of p1).types ≡ false
no-empty-package = refl

empty-instance : is_empty_package (Instance none ∷ []) ≡ false
empty-instance = refl

two-empty-types : is_empty_package (Component none ∷ Component none ∷ []) ≡ false
two-empty-types = refl

no-types : is_empty_package [] ≡ false
no-types = refl

empty-refused : (c : RawComponent) → (raw_component_view c).types ≡ Component none ∷ [] → ClosedComponentRefuses c error.EmptyPackage
empty-refused c is = ap is_empty_package is

p1-not-empty : (c : RawComponent) → raw_component_view c ≡ component_of p1 → ClosedComponentRefuses c error.EmptyPackage → ⊥
p1-not-empty c is refused = let e : true ≡ false = sym refused ∙ ap (λ f. is_empty_package f.types) is in cc

empty-before-shape : (c : RawComponent) → (raw_component_view c).types ≡ Component none ∷ [] → ClosedComponentRefuses c error.NotThisShape → ⊥
empty-before-shape c is refused = let e : true ≡ false = sym (ap is_empty_package is) ∙ refused.0 in cc

no-cycle : (c : RawComponent) → ClosedComponentRefuses c error.Cycle → ⊥
no-cycle c refused = refused

-- ---- which package a component is of

p1-stands : (c : RawComponent) → raw_component_view c ≡ component_of p1 → ComponentStands c p1
unfolding is_package_label is_label
p1-stands c is = record {
  component = is;
  form = record {
    closed = refl;
    names = refl;
    parted = refl;
    interfaces = refl;
    worlds = refl;
    postfix = whole [] (a_function (in_interface 0) (codes "f") (parameter (codes "x") u32 ∷ []) (Some u32)) refl refl begin;
    entries = omega arith;
  };
  labels = refl;
  world_labels = refl;
}

p1-shaped : (c : RawComponent) → raw_component_view c ≡ component_of p1 → ClosedComponentRefuses c error.NotThisShape → ⊥
p1-shaped c is refused = refused.1 p1 (p1-stands c is)

w-labelled : are_worlds_labelled w.definitions 1 w.worlds ≡ true
unfolding is_label
w-labelled = refl

-- a function, a type, an interface and a world whose names are no labels
bad-function : are_labelled (a_function (in_interface 0) (codes "f-") [] None ∷ []) 0 (an_interface 0 (codes "c") [] [] (0 ∷ []) ∷ []) ≡ false
unfolding is_label
bad-function = refl

bad-type : are_labelled (unnamed (kind.List u8) ∷ named 0 (codes "1t") (kind.Option (id 0)) ∷ []) 0 (an_interface 0 (codes "c") [] (1 ∷ []) [] ∷ []) ≡ false
unfolding is_label
bad-type = refl

bad-interface : are_labelled [] 0 (an_interface 0 (codes "C-d-") [] [] [] ∷ []) ≡ false
unfolding is_label
bad-interface = refl

bad-world : are_worlds_labelled [] 0 (record { «package» = record { 0 = 0 }; name = codes "w w"; items = [] } ∷ []) ≡ false
unfolding is_label
bad-world = refl

bad-item : are_worlds_labelled (a_function (in_world 0) (codes "G-h1-I-") [] None ∷ []) 0 (record { «package» = record { 0 = 0 }; name = codes "w"; items = record { direction = direction.Import; kind = item.Function (function_id 0) } ∷ [] } ∷ []) ≡ false
unfolding is_label
bad-item = refl

-- two packages are not of one component
one-package : (c : RawComponent) → ComponentStands c p1 → ComponentStands c using → ⊥
unfolding bytes_of_components
one-package c one two =
    let same : 0x1e ≡ 0x4c = ap (λ f. slice_index (file_bytes f) 9) (sym one.component ∙ two.component) in
    omega (arith, same)
