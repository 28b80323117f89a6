-- Worked examples: what a small text means, as the table of the examples of `tables`, and why texts are refused.
use Rattle.std.specs.List.{list_any, list_all}
use Rattle.std.proofs.Common.{Bool, not, ◌&&◌, ◌∙◌, ◌≡◌, ◌<◌, inl, inr, ℕ, zero, suc, true, false, List, [], ◌∷◌, ◌++◌, map, replicate, length, slice_index, slice_index_or, bytes_eq, Some, None, Option, codes, refl, ap, sym, subst, arith, Contains, All, true≢false}
use Rattle.canonical_abi.specs.Labelled.{ok_label, error_label}
use Rattle.tables.specs.declared.tables.Primitive.TheVariants as primitive
use Rattle.tables.specs.declared.tables.ValType.TheVariants as val
use Rattle.tables.specs.declared.tables.TypeDefKind.TheVariants as kind
use Rattle.tables.specs.declared.tables.Definition.{Definition}
use Rattle.tables.specs.declared.tables.Direction.TheVariants as direction
use Rattle.tables.specs.declared.tables.Resolve.{Resolve}
use Rattle.tables.specs.declared.error.ResolveError.TheVariants as error
use Rattle.tables.specs.PackageNames.{PackageParts}
use Rattle.tables.specs.Tables.{are_standard}
use Rattle.tables.specs.Package.{NamedDefinition, PrimTree, TextTree, Reference, ListTree, VariantTree, AsResult, no_choices, empty, holding, WithInterface, Package, package_of}
use Rattle.tables.proofs.Examples.{rows, function_in, unnamed_row, interface_of, u8, function_of_world, imports_function, world_of, key, named_row, type_rows, shop_rows, host_rows, a_b, p, types_name, shop_name, c_d, used_rows, money, q}
use Rattle.placement.specs.Order.{IsPlacement, IsCycle}
use Rattle.placement.proofs.Examples.{no-cycle, placement-by-test}
use Rattle.package_form.specs.Scope.{AreDistinct}
use Rattle.package_form.specs.Ids.{is_world_function}
use Rattle.package_form.specs.Entries.{type_entries, Table, table_of}
use Rattle.package_form.proofs.Examples.{p-postfix, found, all-distinct}
use Rattle.package_form.proofs.PostfixIsDecided.{used-postfix}
use Rattle.wit_tokens.specs.declared.wit_syntax.ast.Primitive.TheVariants as keyword
use Rattle.wit_tokens.specs.declared.wit_syntax.ast.Direction.{Direction as Way}
use Rattle.wit_tokens.specs.declared.wit_syntax.ast.Direction.TheVariants as way
use Rattle.wit_tokens.specs.Syntax.{WorldEntry, PathTo, Ty, Prim, Named, ListOf, OptionOf, TupleOf, ResultOf, none, more, Absent, Present, Member, UsedAs, TypeBody as Body, Alias, Record, Variant, Enumeration, FlagSet, Function, Local, Foreign, Entry, Uses, Defines, Declares, Whole, Single, FileEntry, AnInterface, AWorld, File}
use Rattle.tree_meaning.specs.Declarations.{FunctionItem, TypeItem, interface_at, interface_tree, UsedItem, InterfaceTree, InterfaceNamed, ForeignNamed, FunctionOf, interfaces, file_worlds, full_interfaces, full_worlds, other_packages, named_definition, names_in_function, type_names, names_of_trees}
use Rattle.tree_meaning.specs.Scopes.{scopes}
use Rattle.tree_meaning.specs.Imports.{import_of, Import, no_package, no_imports, imports_of, interfaces_of, HasImport}
use Rattle.tree_meaning.specs.ImportForms.{UsesImport, HasImportItem}
use Rattle.tree_meaning.specs.Resolved.{primitive_tree, interface_meaning, resolved, meaning_of_world}
use Rattle.tree_meaning.specs.Resolves.{with_names, HasWorldsBehind, IsClosedPackageOf, HasItems, HasNoWorlds, is_behind, IsUnknownName, IsKnownWorldOf, names_in_order, interface_uses, type_uses, places, ResolvesBehind, Resolves, PassesLimit, HasDuplicate, HasDistinctNames, LacksPackage, KnowsPackages, KnowsPackagesOf, HasKnownNamesOf, KnowsAllOf, IsUnknownUse, IsKnownUseOf, IsUnknownItem, IsKnownItemOf, HasCycle, file_fits, IsPackageOf, HasNoFaultsOf, IsTooLargeBehind, ResolveRefuses, HasPackage, HasClosedPackage}
use Rattle.package_form.specs.Closed.{is_world_of}

-- ---- a text, whose interfaces and types stand in another order than their table's
--
--   package a:b@1.2.0;
--   interface shop {
--     use types.{item as thing};
--     put: func(t: thing, m: option<s64>) -> result<bool, string>;
--   }
--   interface types {
--     type stock = item;
--     record item { tags: list<string>, size: u32 }
--     variant pay { cash, card(tuple<u8, char>) }
--     enum color { red, green }
--     flags mode { r, w }
--   }
--   world host { import types; export shop; import run: func(x: list<u8>); }

abbrev pub uses : PathTo → List UsedAs → Entry
uses path names = Uses (record { start = 0; end = 0 }) path names

abbrev pub defines : List ℕ → Body → Entry
defines name body = Defines (record { start = 0; end = 0 }) name body

abbrev declares : List ℕ → Function → Entry
declares name function = Declares (record { start = 0; end = 0 }) name function

abbrev single : Way → List ℕ → Function → WorldEntry
single towards name function = Single towards (record { start = 0; end = 0 }) name function

abbrev pub a_world : List ℕ → List WorldEntry → FileEntry
a_world name items = AWorld (record { start = 0; end = 0 }) name items

abbrev member : List ℕ → Ty → Member
member name t = record { name = name; ty = t }

abbrev pub use_as : List ℕ → Option (List ℕ) → UsedAs
use_as name local = record { name = name; local = local }

abbrev u8_type : Ty
u8_type = Prim keyword.U8

abbrev put : Function
put = record {
  params = member (codes "t") (Named (codes "thing")) ∷ member (codes "m") (OptionOf (Prim keyword.S64)) ∷ [];
  result = Some (ResultOf (Present (Prim keyword.Bool)) (Present (Prim keyword.String)));
}

abbrev run : Function
run = record { params = member (codes "x") (ListOf u8_type) ∷ []; result = None }

abbrev item : Body
item = Record (member (codes "tags") (ListOf (Prim keyword.String)) ∷ member (codes "size") (Prim keyword.U32) ∷ [])

abbrev pay : Body
pay = Variant (record { name = codes "cash"; payload = None } ∷ record { name = codes "card"; payload = Some (TupleOf (more u8_type (more (Prim keyword.Char) none))) } ∷ [])

abbrev shop_entries : List Entry
shop_entries = uses (Local (codes "types")) (use_as (codes "item") (Some (codes "thing")) ∷ []) ∷ declares (codes "put") put ∷ []

abbrev types_entries : List Entry
types_entries =
    defines (codes "stock") (Alias (Named (codes "item")))
    ∷ defines (codes "item") item
    ∷ defines (codes "pay") pay
    ∷ defines (codes "color") (Enumeration (codes "red" ∷ codes "green" ∷ []))
    ∷ defines (codes "mode") (FlagSet (codes "r" ∷ codes "w" ∷ []))
    ∷ []

abbrev host_entry : FileEntry
host_entry = a_world (codes "host") (Whole way.Import (Local (codes "types")) ∷ Whole way.Export (Local (codes "shop")) ∷ single way.Import (codes "run") run ∷ [])

abbrev pub file_in : PackageParts → List FileEntry → File
file_in q es = record { namespace = q.namespace; name = q.name; version = q.version; entries = es }

abbrev f : File
f = file_in a_b (AnInterface (codes "shop") shop_entries ∷ AnInterface (codes "types") types_entries ∷ host_entry ∷ [])

-- ---- what it declares

abbrev thing_use : UsedItem
thing_use = record { «package» = None; interface = codes "types"; name = codes "item"; local = codes "thing" }

abbrev shop : InterfaceTree
shop = record { name = codes "shop"; uses = thing_use ∷ []; types = []; functions = record { name = codes "put"; function = put } ∷ [] }

abbrev types : InterfaceTree
types = record {
  name = codes "types";
  uses = [];
  types =
      record { name = codes "stock"; definition = Alias (Named (codes "item")) }
      ∷ record { name = codes "item"; definition = item }
      ∷ record { name = codes "pay"; definition = pay }
      ∷ record { name = codes "color"; definition = Enumeration (codes "red" ∷ codes "green" ∷ []) }
      ∷ record { name = codes "mode"; definition = FlagSet (codes "r" ∷ codes "w" ∷ []) }
      ∷ [];
  functions = [];
}

f-interfaces : interfaces f ≡ shop ∷ types ∷ []
f-interfaces = refl

-- under full names, of the used interface too
f-full : map (λ (i : InterfaceTree). i.name) (full_interfaces f) ≡ shop_name ∷ types_name ∷ []
f-full = refl

f-full-use : (slice_index_or (full_interfaces f) 0 shop).uses ≡ record { «package» = None; interface = types_name; name = codes "item"; local = codes "thing" } ∷ []
f-full-use = refl

f-worlds : file_worlds f
    ≡ record {
      name = codes "host";
      items = InterfaceNamed way.Import (codes "types") ∷ InterfaceNamed way.Export (codes "shop") ∷ FunctionOf way.Import (record { name = codes "run"; function = run }) ∷ [];
    } ∷ []
f-worlds = refl

-- a name that is used without another one has its own
used-by-its-name : type_names (interface_tree (codes "i") (uses (Local (codes "j")) (use_as (codes "a") None ∷ use_as (codes "b") (Some (codes "c")) ∷ []) ∷ defines (codes "d") (Alias u8_type) ∷ []))
    ≡ codes "a" ∷ codes "c" ∷ codes "d" ∷ []
used-by-its-name = refl

-- names stand from the left, in a result and a tuple too; those of fields and cases are none
f-named : (names_in_function put ≡ codes "thing" ∷ [])
    × (named_definition (Variant (record { name = codes "x"; payload = Some (TupleOf (more (Named (codes "a")) (more (ListOf (Named (codes "b"))) none))) } ∷ record { name = codes "y"; payload = None } ∷ [])) ≡ codes "a" ∷ codes "b" ∷ [])
    × (named_definition (Alias (ResultOf (Present (Named (codes "c"))) (Present (OptionOf (Named (codes "d")))))) ≡ codes "c" ∷ codes "d" ∷ [])
    × (named_definition (Record (member (codes "x") (Named (codes "e")) ∷ [])) ≡ codes "e" ∷ [])
    × (named_definition (Enumeration (codes "a" ∷ [])) ≡ [])
f-named = (refl, refl, refl, refl, refl)

f-names-no-other : other_packages f ≡ []
f-names-no-other = refl

f-scopes : scopes f
    ≡ (codes "shop" ∷ codes "types" ∷ codes "host" ∷ [])
    ∷ (codes "thing" ∷ codes "put" ∷ []) ∷ (codes "t" ∷ codes "m" ∷ [])
    ∷ (codes "stock" ∷ codes "item" ∷ codes "pay" ∷ codes "color" ∷ codes "mode" ∷ [])
    ∷ (codes "tags" ∷ codes "size" ∷ []) ∷ (codes "cash" ∷ codes "card" ∷ []) ∷ (codes "red" ∷ codes "green" ∷ []) ∷ (codes "r" ∷ codes "w" ∷ [])
    ∷ (types_name ∷ codes "run" ∷ []) ∷ (shop_name ∷ []) ∷ [] ∷ [] ∷ (codes "x" ∷ [])
    ∷ []
f-scopes = refl

-- ---- what it means

-- shop uses types, which is the second of the source; stock names item
f-uses : (interface_uses (interfaces f) ≡ (1 ∷ []) ∷ [] ∷ []) × (type_uses types ≡ (1 ∷ []) ∷ [] ∷ [] ∷ [] ∷ [] ∷ []) × (type_uses shop ≡ [])
f-uses = (refl, refl, refl)

-- a name that isn't there has no place
places-of : places (codes "a" ∷ codes "b" ∷ []) (codes "b" ∷ codes "c" ∷ codes "a" ∷ codes "b" ∷ []) ≡ 1 ∷ 0 ∷ 1 ∷ []
places-of = refl

each-primitive : map primitive_tree
    (keyword.Bool ∷ keyword.S8 ∷ keyword.U8 ∷ keyword.S16 ∷ keyword.U16 ∷ keyword.S32 ∷ keyword.U32 ∷ keyword.S64 ∷ keyword.U64 ∷ keyword.Char ∷ keyword.String ∷ [])
    ≡ PrimTree primitive.Bool ∷ PrimTree primitive.S8 ∷ PrimTree primitive.U8 ∷ PrimTree primitive.S16 ∷ PrimTree primitive.U16 ∷ PrimTree primitive.S32 ∷ PrimTree primitive.U32
    ∷ PrimTree primitive.S64 ∷ PrimTree primitive.U64 ∷ PrimTree primitive.Char ∷ TextTree ∷ []
each-primitive = refl

-- result<_, u8> and result
error-result : resolved [] (ResultOf Absent (Present u8_type)) ≡ VariantTree AsResult (empty ok_label (holding error_label (PrimTree primitive.U8) no_choices))
error-result = refl

bare-result : resolved [] (ResultOf Absent Absent) ≡ VariantTree AsResult (empty ok_label (empty error_label no_choices))
bare-result = refl

-- a name is that of its interface
name-of-an-interface : resolved types_name (ListOf (Named (codes "a"))) ≡ ListTree (Reference (key types_name (codes "a")))
name-of-an-interface = refl

-- used names come first, then types in their order, then functions, whatever the order of the text
abbrev mixed : InterfaceTree
mixed =
    interface_tree (codes "i")
    (declares (codes "f") run ∷ defines (codes "a") (Alias u8_type) ∷ defines (codes "b") (Alias u8_type) ∷ uses (Local (codes "j")) (use_as (codes "c") None ∷ []) ∷ [])

uses-types-functions : map (λ (d : NamedDefinition). d.key.name) (interface_meaning mixed (1 ∷ 0 ∷ [])) ≡ codes "c" ∷ codes "b" ∷ codes "a" ∷ codes "f" ∷ []
uses-types-functions = refl

abbrev order_of_types : ℕ → List ℕ
order_of_types zero = []
order_of_types (suc k) = 1 ∷ 0 ∷ 2 ∷ 3 ∷ 4 ∷ []

-- types comes before shop, and item before stock: the package of the table
f-resolves : Resolves (full_interfaces f) (full_worlds f) (package_of p)
f-resolves = record {
  order = 1 ∷ 0 ∷ [];
  placed = placement-by-test ((1 ∷ []) ∷ [] ∷ []) (1 ∷ 0 ∷ []) refl;
  types = order_of_types;
  types_placed = of_types;
  names = refl;
  worlds = refl;
  definitions = refl;
}
  where
    of_types : (k : ℕ) → k < 2 → IsPlacement (type_uses (interface_at (full_interfaces f) k)) (order_of_types k)
    of_types zero l = placement-by-test [] [] refl
    of_types (suc zero) l = placement-by-test ((1 ∷ []) ∷ [] ∷ [] ∷ [] ∷ [] ∷ []) (1 ∷ 0 ∷ 2 ∷ 3 ∷ 4 ∷ []) refl
    of_types (suc (suc k)) l = absurd (omega arith)

f-package : IsPackageOf f p
f-package = record {
  earlier = λ k d l. absurd (omega arith);
  packages = refl;
  resolves = f-resolves;
  postfix = p-postfix;
  behind = record { front = type_rows ++ shop_rows; back = host_rows; parts = refl; none = refl; all = refl };
  items = refl;
  ids = refl;
  within = omega arith;
}

-- no package has its interfaces in the order of the source
not-in-source-order : (r : Package) → r.interfaces ≡ shop_name ∷ types_name ∷ [] → Resolves (full_interfaces f) (full_worlds f) r → ⊥
not-in-source-order r e s = of_order s.order s.placed (sym e ∙ s.names)
  where
    of_order : (order : List ℕ) → IsPlacement ((1 ∷ []) ∷ [] ∷ []) order → shop_name ∷ types_name ∷ [] ≡ names_in_order (full_interfaces f) order → ⊥
    of_order [] placed e = true≢false (sym (placed.complete 0 (omega arith)))
    of_order (zero ∷ order) placed e = true≢false (sym ((placed.next 0 (omega arith)).ready))
    of_order (suc zero ∷ order) placed e = let n : 14 ≡ 15 = ap (λ ns. length (slice_index_or ns 0 [])) e in omega (arith, n)
    of_order (suc (suc i) ∷ order) placed e = let l : suc (suc i) < 2 = (placed.next 0 (omega arith)).in_range in omega (arith, l)

-- a package of two names is not that of a file alone
not-of-two : IsPackageOf f q → ⊥
not-of-two is = let n : 2 ≡ 1 = ap (λ ps. length ps) is.packages in omega (arith, n)

-- ---- it has no faults

f-distinct : HasDistinctNames f
f-distinct = all-distinct (scopes f) refl

-- each element of a list, one after the other
all-none : {A : Type 0} (P : A → Type 0) → All P []
all-none P k d l = absurd (omega arith)

all-more : {A : Type 0} (P : A → Type 0) (x : A) (xs : List A) → P x → All P xs → All P (x ∷ xs)
all-more P x xs h all zero d l = h
all-more P x xs h all (suc k) d l = all k d (omega arith)

all-one : {A : Type 0} (P : A → Type 0) (x : A) → P x → All P (x ∷ [])
all-one P x h = all-more P x [] h (all-none P)

abbrev IsKnownType : InterfaceTree → TypeItem → Type 0
IsKnownType i t = All (Contains (type_names i)) (named_definition t.definition)

abbrev IsKnownFunction : InterfaceTree → FunctionItem → Type 0
IsKnownFunction i x = All (Contains (type_names i)) (names_in_function x.function)

abbrev item_of : List ℕ → Body → TypeItem
item_of name body = record { name = name; definition = body }

shop-known : HasKnownNamesOf no_imports (shop ∷ types ∷ []) shop
shop-known = record {
  uses = all-one (IsKnownUseOf no_imports (shop ∷ types ∷ [])) thing_use (types, (1, omega arith, refl), refl, (1, omega arith, refl));
  types = all-none (IsKnownType shop);
  functions = all-one (IsKnownFunction shop) (record { name = codes "put"; function = put }) (all-one (Contains (codes "thing" ∷ [])) (codes "thing") (0, omega arith, refl));
}

types-known : HasKnownNamesOf no_imports (shop ∷ types ∷ []) types
types-known = record { uses = all-none (IsKnownUseOf no_imports (shop ∷ types ∷ [])); types = each; functions = all-none (IsKnownFunction types) }
  where
    each : All (IsKnownType types) types.types
    each zero d l = all-one (Contains (type_names types)) (codes "item") (1, omega arith, refl)
    each (suc zero) d l = all-none (Contains (type_names types))
    each (suc (suc zero)) d l = all-none (Contains (type_names types))
    each (suc (suc (suc zero))) d l = all-none (Contains (type_names types))
    each (suc (suc (suc (suc zero)))) d l = all-none (Contains (type_names types))
    each (suc (suc (suc (suc (suc k))))) d l = absurd (omega arith)

f-known : KnowsAllOf no_imports f
f-known = record { in_interfaces = each; in_worlds = all-one (IsKnownWorldOf no_imports (names_of_trees (interfaces f))) _ of_host }
  where
    each : All (HasKnownNamesOf no_imports (interfaces f)) (interfaces f)
    each zero d l = shop-known
    each (suc zero) d l = types-known
    each (suc (suc k)) d l = absurd (omega arith)

    of_host : IsKnownWorldOf no_imports (names_of_trees (interfaces f)) (slice_index_or (file_worlds f) 0 (record { name = []; items = [] }))
    of_host zero d l = (1, omega arith, refl)
    of_host (suc zero) d l = (0, omega arith, refl)
    of_host (suc (suc zero)) d l = refl
    of_host (suc (suc (suc k))) d l = absurd (omega arith)

has-some : (e : FileEntry) (es : List FileEntry) → e ∷ es ≡ [] → ⊥
has-some e es h = cc

f-has-package : HasPackage f p
f-has-package = record {
  faults = record { some = has-some _ _; distinct = f-distinct; packages = λ k d l. absurd (omega arith); known = f-known };
  fits = refl;
  resolved = f-package;
}

-- ---- a file that uses an interface of another package: package c:d; interface till { use a:b/money@1.2.0.{money}; }

abbrev pub money_path : PathTo
money_path = Foreign (codes "a") (codes "b") (Some (codes "1.2.0")) (codes "money")

abbrev money_use : UsedItem
money_use = record { «package» = Some a_b; interface = codes "money"; name = codes "money"; local = codes "money" }

abbrev till_entry : FileEntry
till_entry = AnInterface (codes "till") (uses money_path (use_as (codes "money") None ∷ []) ∷ [])

abbrev pub g : File
g = file_in c_d (till_entry ∷ [])

-- the table of its imports
abbrev pub m : Resolve
m = record {
  packages = a_b ∷ [];
  interfaces = money ∷ [];
  worlds = [];
  definitions = named_row 0 (codes "money") (kind.Alias (val.Primitive primitive.U32)) ∷ [];
  earlier = refl;
  typed = refl;
  standard = refl;
  placed = refl;
  grouped = refl;
  worlds_grouped = refl;
  worlds_placed = refl;
}

m-imports : interfaces_of m ≡ record { «package» = a_b; name = codes "money"; types = codes "money" ∷ [] } ∷ []
m-imports = refl

-- used names are names of an import, functions are none
p-imports : interfaces_of p
    ≡ record { «package» = a_b; name = codes "types"; types = codes "item" ∷ codes "stock" ∷ codes "pay" ∷ codes "color" ∷ codes "mode" ∷ [] }
    ∷ record { «package» = a_b; name = codes "shop"; types = codes "thing" ∷ [] } ∷ []
p-imports = refl

g-names-another : other_packages g ≡ a_b ∷ []
g-names-another = refl

g-uses-none-of-its-own : interface_uses (interfaces g) ≡ [] ∷ []
g-uses-none-of-its-own = refl

-- also if one of its own has the name of the other package's
namesake-is-no-use : interface_uses (interfaces (file_in c_d (AnInterface (codes "money") (uses money_path (use_as (codes "money") None ∷ []) ∷ []) ∷ []))) ≡ [] ∷ []
namesake-is-no-use = refl

g-uses-import : UsesImport g a_b (codes "money")
g-uses-import = (_, (0, omega arith, refl), (money_use, (0, omega arith, refl), refl, refl))

g-knows : KnowsPackagesOf (imports_of m) g
g-knows zero d l = (0, omega arith, refl)
g-knows (suc k) d l = absurd (omega arith)

g-knows-its-use : IsKnownUseOf (imports_of m) (interfaces g) money_use
g-knows-its-use = (_, (0, omega arith, refl), refl, refl, (0, omega arith, refl))

g-faultless : HasNoFaultsOf (imports_of m) g
g-faultless = record {
  some = has-some _ _;
  distinct = all-distinct (scopes g) refl;
  packages = g-knows;
  known = record { in_interfaces = of_till; in_worlds = λ k d l. absurd (omega arith) };
}
  where
    of_use : All (IsKnownUseOf (imports_of m) (interfaces g)) (money_use ∷ [])
    of_use zero d l = g-knows-its-use
    of_use (suc k) d l = absurd (omega arith)

    of_till : All (HasKnownNamesOf (imports_of m) (interfaces g)) (interfaces g)
    of_till zero d l = record { uses = of_use; types = λ k d l. absurd (omega arith); functions = λ k d l. absurd (omega arith) }
    of_till (suc k) d l = absurd (omega arith)

g-resolves : ResolvesBehind (package_of m) (full_interfaces g) (full_worlds g) (package_of q)
g-resolves = record {
  order = 0 ∷ [];
  placed = placement-by-test ([] ∷ []) (0 ∷ []) refl;
  types = λ k. [];
  types_placed = of_types;
  names = refl;
  worlds = refl;
  definitions = refl;
}
  where
    of_types : (k : ℕ) → k < 1 → IsPlacement (type_uses (interface_at (full_interfaces g) k)) []
    of_types zero l = placement-by-test [] [] refl
    of_types (suc k) l = absurd (omega arith)

g-has-package : HasClosedPackage m g q
g-has-package = record {
  faults = g-faultless;
  fits = refl;
  resolved = record {
    earlier = g-knows;
    packages = refl;
    resolves = g-resolves;
    postfix = used-postfix used_rows refl refl;
    behind = record { front = used_rows; back = []; parts = refl; none = refl; all = refl };
    items = refl;
    rows = (named_row 1 (codes "money") (kind.Use (record { 0 = 0 })) ∷ [], refl);
    own = (codes "till" ∷ [], refl);
    worlds = refl;
    within = omega arith;
  };
}

-- a path means the import of its package and name alone
not-of-another-package : HasImport (imports_of m) c_d (codes "money") → ⊥
not-of-another-package (k, (zero, l, e), is, name) =
    let n : 97 ≡ 99 = ap (λ (x : PackageParts). slice_index x.namespace 0) (ap (λ (x : Import). x.«package») e ∙ is) in omega (arith, n)
not-of-another-package (k, (suc j, l, e), is, name) = omega arith

-- a world that imports it
abbrev pub w : File
w = file_in c_d (a_world (codes "w") (Whole way.Import money_path ∷ []) ∷ [])

w-meaning : map meaning_of_world (full_worlds w) ≡ record { name = codes "c:d/w"; items = WithInterface direction.Import (codes "a:b/money@1.2.0") ∷ [] } ∷ []
w-meaning = refl

w-has-item : HasImportItem w a_b (codes "money")
w-has-item = (_, (0, omega arith, refl), (way.Import, (0, omega arith, refl)))

w-uses-none : UsesImport w a_b (codes "money") → ⊥
w-uses-none (j, (k, l, e), used) = omega arith

g-has-no-item : HasImportItem g a_b (codes "money") → ⊥
g-has-no-item (v, (k, l, e), it) = omega arith

w-names-another : other_packages w ≡ a_b ∷ []
w-names-another = refl

-- the own package stands behind its imports
not-without-imports : IsClosedPackageOf m g p → ⊥
not-without-imports is = let n : 1 ≡ 2 = ap (λ ps. length ps) is.packages in omega (arith, n)

-- no row of an interface stands behind those of worlds
abbrev crossed_rows : List Definition
crossed_rows = function_of_world 0 (codes "f") [] None ∷ named_row 0 (codes "a") (kind.Alias u8) ∷ []

not-before-interfaces : HasWorldsBehind crossed_rows → ⊥
not-before-interfaces h = of_front h.front h.back h.parts h.none h.all
  where
    of_front : (front back : List Definition) → crossed_rows ≡ front ++ back → HasNoWorlds front → list_all is_behind back ≡ true → ⊥
    of_front [] back e before all = true≢false (sym (subst (λ ds. list_all is_behind ds ≡ true) (sym e) all))
    of_front (d ∷ ds) back e before all =
        let same : function_of_world 0 (codes "f") [] None ≡ d = ap (λ xs. slice_index_or xs 0 d) e in
        true≢false (sym (subst (λ x. (not (is_world_function x) && list_all (λ y. not (is_world_function y)) ds) ≡ true) (sym same) before))

-- the items of a world are its functions, in order
items-in-order : (HasItems (function_of_world 0 (codes "f") [] None ∷ function_of_world 0 (codes "g") [] None ∷ []) (world_of 0 (codes "w") (imports_function 1 ∷ imports_function 0 ∷ []) ∷ [])) → ⊥
items-in-order h = let n : 0 ≡ 1 = ap (λ ns. slice_index ns 0) h in omega (arith, n)

-- ---- refusals

abbrev no_entries : File
no_entries = file_in c_d []

empty-package : ResolveRefuses no_entries error.EmptyPackage
empty-package = refl

not-a-cycle : ResolveRefuses no_entries error.Cycle → ⊥
not-a-cycle r = r.0.some refl

f-is-not-empty : ResolveRefuses f error.EmptyPackage → ⊥
f-is-not-empty r = has-some _ _ r

-- interface i { type a = u8; A: func(); }
abbrev i_file : List Entry → File
i_file es = file_in c_d (AnInterface (codes "i") es ∷ [])

abbrev nothing : Function
nothing = record { params = []; result = None }

abbrev twice : File
twice = i_file (defines (codes "a") (Alias u8_type) ∷ declares (codes "A") nothing ∷ [])

duplicate : ResolveRefuses twice (error.Duplicate (codes "A"))
duplicate = (has-some _ _, (codes "a" ∷ codes "A" ∷ [], (1, omega arith, refl), (1, omega arith, refl, (0, omega arith, refl))))

twice-not-distinct : HasDistinctNames twice → ⊥
twice-not-distinct d = (d 1 [] (omega arith)).each 1 (omega arith) (0, omega arith, refl)

f-has-no-duplicate : (n : List ℕ) → HasDuplicate f n → ⊥
f-has-no-duplicate n (ns, (k, l, e), (j, m, is, met)) = (subst AreDistinct e (f-distinct k ns l)).each j m met

-- the package of a path isn't there
no-package : ResolveRefuses g (error.NoPackage a_b)
no-package = (
  has-some _ _,
  all-distinct (scopes g) refl,
  record { before = []; after = []; are = refl; have = λ k q l. absurd (omega (arith, l)); lacks = λ c. let l : c.0 < 0 = c.1 in omega (arith, l) },
)

g-is-not-alone : KnowsPackages g → ⊥
g-is-not-alone k = let l : (k 0 a_b (omega arith)).0 < 0 = (k 0 a_b (omega arith)).1 in omega (arith, l)

g-lacks-none : LacksPackage (imports_of m) g a_b → ⊥
g-lacks-none x = x.lacks (0, omega arith, refl)

-- a name isn't in a list where a test finds none
lacks : (n : List ℕ) (ms : List (List ℕ)) → list_any (λ x. bytes_eq x n) ms ≡ false → Contains ms n → ⊥
lacks n ms h c = true≢false (sym (found n ms c) ∙ h)

-- interface i { use j.{a}; }: there is no j, also if i has a name j
abbrev lost : File
lost = i_file (uses (Local (codes "j")) (use_as (codes "a") None ∷ []) ∷ defines (codes "j") (Alias u8_type) ∷ [])

none-known : (e : File) → other_packages e ≡ [] → KnowsPackages e
none-known e is k d l = absurd (let n : length (other_packages e) ≡ 0 = ap (λ ps. length ps) is in omega (arith, l, n))

unknown-interface : ResolveRefuses lost (error.Unknown (codes "j"))
unknown-interface = (
  has-some _ _,
  all-distinct (scopes lost) refl,
  none-known lost refl,
  inl (_, (0, omega arith, refl), inl (_, (0, omega arith, refl), inl (refl, lacks (codes "j") (codes "i" ∷ []) refl))),
)

-- names are exact in case: types has item, and no Item
unknown-name : IsUnknownUse no_imports (interfaces f) (record { «package» = None; interface = codes "types"; name = codes "Item"; local = codes "thing" }) (codes "Item")
unknown-name = inr (refl, (types, (1, omega arith, refl), refl, lacks (codes "Item") (type_names types) refl))

thing-is-known : (n : List ℕ) → IsUnknownUse no_imports (interfaces f) thing_use n → ⊥
thing-is-known n (inl (is, no_name)) = no_name (1, omega arith, sym is)
thing-is-known n (inr (is, (j, (zero, l, e), name, lacking))) = let k : 4 ≡ 5 = ap (λ (x : InterfaceTree). length x.name) e ∙ ap (λ x. length x) name in omega (arith, k)
thing-is-known n (inr (is, (j, (suc zero, l, e), name, lacking))) = lacking (subst (λ (x : InterfaceTree). Contains (type_names x) n) e (1, omega arith, sym is))
thing-is-known n (inr (is, (j, (suc (suc k), l, e), name, lacking))) = omega arith

item-is-known : IsUnknownName types (codes "item" ∷ []) (codes "item") → ⊥
item-is-known h = h.1 (1, omega arith, refl)

-- a name of a function is no type's, and a parameter has a type
abbrev no_type : File
no_type = i_file (defines (codes "a") (Alias (Named (codes "b"))) ∷ declares (codes "b") nothing ∷ [])

unknown-type : ResolveRefuses no_type (error.Unknown (codes "b"))
unknown-type = (
  has-some _ _,
  all-distinct (scopes no_type) refl,
  none-known no_type refl,
  inl (_, (0, omega arith, refl), inr (inl (_, (0, omega arith, refl), ((0, omega arith, refl), lacks (codes "b") (codes "a" ∷ []) refl)))),
)

abbrev no_parameter : File
no_parameter = i_file (declares (codes "f") (record { params = member (codes "x") (Named (codes "a")) ∷ []; result = None }) ∷ [])

unknown-parameter : ResolveRefuses no_parameter (error.Unknown (codes "a"))
unknown-parameter = (
  has-some _ _,
  all-distinct (scopes no_parameter) refl,
  none-known no_parameter refl,
  inl (_, (0, omega arith, refl), inr (inr (_, (0, omega arith, refl), ((0, omega arith, refl), λ c. let l : c.0 < 0 = c.1 in omega (arith, l))))),
)

-- a world names an interface that isn't there, or a type
abbrev w_file : List WorldEntry → File
w_file es = file_in c_d (a_world (codes "w") es ∷ [])

abbrev no_item : File
no_item = w_file (Whole way.Import (Local (codes "j")) ∷ [])

unknown-item : ResolveRefuses no_item (error.Unknown (codes "j"))
unknown-item = (
  has-some _ _,
  all-distinct (scopes no_item) refl,
  none-known no_item refl,
  inr (_, (0, omega arith, refl), (_, (0, omega arith, refl), (refl, λ c. let l : c.0 < 0 = c.1 in omega (arith, l)))),
)

type-in-a-world : IsUnknownItem no_imports [] (FunctionOf way.Import (record { name = codes "f"; function = put })) (codes "thing")
type-in-a-world = (0, omega arith, refl)

run-names-none : IsKnownItemOf no_imports [] (FunctionOf way.Import (record { name = codes "run"; function = run }))
run-names-none = refl

put-is-no-item : IsKnownItemOf no_imports [] (FunctionOf way.Import (record { name = codes "put"; function = put })) → ⊥
put-is-no-item h = let n : 1 ≡ 0 = ap (λ ns. length ns) h in omega (arith, n)

money-is-known : (IsKnownItemOf (imports_of m) [] (ForeignNamed way.Export a_b (codes "money"))) × (IsUnknownItem (imports_of m) [] (ForeignNamed way.Export a_b (codes "money")) (codes "money") → ⊥)
money-is-known = ((_, (0, omega arith, refl), refl, refl), λ h. h.1 (_, (0, omega arith, refl), refl, refl))

lost-not-known : KnowsAllOf no_imports lost → ⊥
lost-not-known k = of_use ((k.in_interfaces 0 shop (omega arith)).uses 0 thing_use (omega arith))
  where
    of_use : (j : InterfaceTree) × Contains (interfaces lost) j × (j.name ≡ codes "j") × Contains (type_names j) (codes "a") → ⊥
    of_use (j, (zero, l, e), name, c) = let n : 105 ≡ 106 = ap (λ (x : InterfaceTree). slice_index x.name 0) e ∙ ap (λ x. slice_index x 0) name in omega (arith, n)
    of_use (j, (suc i, l, e), name, c) = omega arith

-- a class comes after those before it: with a name twice, no name is told as unknown
abbrev twice_and_lost : File
twice_and_lost = i_file (uses (Local (codes "j")) (use_as (codes "a") None ∷ []) ∷ declares (codes "A") nothing ∷ [])

duplicate-comes-first : (n : List ℕ) → ResolveRefuses twice_and_lost (error.Unknown n) → ⊥
duplicate-comes-first n r = (r.1 1 [] (omega arith)).each 1 (omega arith) (0, omega arith, refl)

-- ---- cycles

-- interfaces i and j use each other; a type of i names itself
abbrev crossed : File
crossed = file_in c_d (
    AnInterface (codes "i") (uses (Local (codes "j")) (use_as (codes "a") None ∷ []) ∷ [])
    ∷ AnInterface (codes "j") (uses (Local (codes "i")) (use_as (codes "a") None ∷ []) ∷ [])
    ∷ []
    )

crossed-uses : interface_uses (interfaces crossed) ≡ (1 ∷ []) ∷ (0 ∷ []) ∷ []
crossed-uses = refl

all-of-two : IsCycle ((1 ∷ []) ∷ (0 ∷ []) ∷ []) (λ i. true)
all-of-two = record { some = (0, omega arith, refl); closed = closed }
  where
    closed : (i : ℕ) → i < 2 → true ≡ true → (u : ℕ) × Contains (slice_index_or ((1 ∷ []) ∷ (0 ∷ []) ∷ []) i []) u × (u < 2) × (true ≡ true)
    closed zero l h = (1, (0, omega arith, refl), omega arith, refl)
    closed (suc zero) l h = (0, (0, omega arith, refl), omega arith, refl)
    closed (suc (suc i)) l h = absurd (omega arith)

crossed-cycle : HasCycle crossed
crossed-cycle = inl (λ i. true, all-of-two)

abbrev itself : File
itself = i_file (defines (codes "a") (Alias (ListOf (Named (codes "a")))) ∷ [])

itself-alone : IsCycle ((0 ∷ []) ∷ []) (λ i. true)
itself-alone = record { some = (0, omega arith, refl); closed = closed }
  where
    closed : (i : ℕ) → i < 1 → true ≡ true → (u : ℕ) × Contains (slice_index_or ((0 ∷ []) ∷ []) i []) u × (u < 1) × (true ≡ true)
    closed zero l h = (0, (0, omega arith, refl), omega arith, refl)
    closed (suc i) l h = absurd (omega arith)

itself-refused : ResolveRefuses itself error.Cycle
itself-refused = (
  record { some = has-some _ _; distinct = all-distinct (scopes itself) refl; packages = none-known itself refl; known = record { in_interfaces = of_i; in_worlds = λ k d l. absurd (omega arith) } },
  inr (_, (0, omega arith, refl), (λ i. true, itself-alone)),
)
  where
    of_a : All (Contains (codes "a" ∷ [])) (codes "a" ∷ [])
    of_a zero d l = (0, omega arith, refl)
    of_a (suc k) d l = absurd (omega arith)

    of_i : All (HasKnownNamesOf no_imports (interfaces itself)) (interfaces itself)
    of_i zero d l = record { uses = λ k d l. absurd (omega arith); types = of_types; functions = λ k d l. absurd (omega arith) }
      where
        of_types : All (λ (t : TypeItem). All (Contains (codes "a" ∷ [])) (named_definition t.definition)) (item_of (codes "a") (Alias (ListOf (Named (codes "a")))) ∷ [])
        of_types zero d l = of_a
        of_types (suc k) d l = absurd (omega arith)
    of_i (suc k) d l = absurd (omega arith)

g-has-no-cycle : HasCycle g → ⊥
g-has-no-cycle (inl (group, c)) = none-uses c.some
  where
    none-uses : (i : ℕ) × (i < 1) × (group i ≡ true) → ⊥
    none-uses (zero, l, h) = let n : (c.closed 0 (omega arith) h).1.0 < 0 = (c.closed 0 (omega arith) h).1.1 in omega (arith, n)
    none-uses (suc i, l, h) = omega arith
g-has-no-cycle (inr (i, (zero, l, e), (group, c))) =
    let types_are : length (type_uses i) ≡ 0 = ap (λ (x : InterfaceTree). length (type_uses x)) (sym e) in
    let n : c.some.0 < length (type_uses i) = c.some.1 in omega (arith, n, types_are)
g-has-no-cycle (inr (i, (suc k, l, e), cycle)) = omega arith

f-interfaces-have-no-cycle : (group : ℕ → Bool) → IsCycle (interface_uses (interfaces f)) group → ⊥
f-interfaces-have-no-cycle group c = no-cycle group c

-- ---- limits

abbrev nested : ℕ → Ty
nested zero = u8_type
nested (suc n) = ListOf (nested n)

-- u8 is 1 deep, so that 63 lists of it are 64
nested-64 : (file_fits (i_file (defines (codes "a") (Alias (nested 63)) ∷ [])) ≡ true) × (file_fits (i_file (declares (codes "f") (record { params = []; result = Some (nested 63) }) ∷ [])) ≡ true)
nested-64 = (refl, refl)

nested-65 : (file_fits (i_file (defines (codes "a") (Alias (nested 64)) ∷ [])) ≡ false)
    × (file_fits (i_file (defines (codes "a") (Record (member (codes "x") (nested 64) ∷ [])) ∷ [])) ≡ false)
    × (file_fits (i_file (defines (codes "a") (Variant (record { name = codes "x"; payload = Some (nested 64) } ∷ [])) ∷ [])) ≡ false)
    × (file_fits (i_file (declares (codes "f") (record { params = member (codes "x") (nested 64) ∷ []; result = None }) ∷ [])) ≡ false)
    × (file_fits (w_file (single way.Export (codes "f") (record { params = []; result = Some (nested 64) }) ∷ [])) ≡ false)
nested-65 = (refl, refl, refl, refl, refl)

deep-refused : ResolveRefuses (i_file (defines (codes "a") (Alias (nested 64)) ∷ [])) error.Limit
deep-refused = inl (has-some _ _, refl)

-- flags of 33 labels: a, aa, aaa ..
abbrev labels : ℕ → List (List ℕ)
labels zero = []
labels (suc n) = replicate (suc n) 97 ∷ labels n

abbrev many : File
many = i_file (defines (codes "b") (FlagSet (labels 33)) ∷ [])

abbrev many_table : Table
many_table = record { interfaces = codes "i" ∷ []; worlds = []; rows = named_row 0 (codes "b") (kind.Flags (labels 33)) ∷ [] }

many-is-too-large : IsTooLargeBehind no_package many
many-is-too-large = record {
  table = many_table;
  resolves = record {
    order = 0 ∷ [];
    placed = placement-by-test ([] ∷ []) (0 ∷ []) refl;
    types = λ k. 0 ∷ [];
    types_placed = of_types;
    names = refl;
    worlds = refl;
    definitions = refl;
  };
  postfix = used-postfix many_table.rows refl refl;
  behind = record { front = many_table.rows; back = []; parts = refl; none = refl; all = refl };
  items = refl;
  earlier = refl;
  typed = refl;
  passes = inr refl;
}
  where
    of_types : (k : ℕ) → k < 1 → IsPlacement (type_uses (interface_at (full_interfaces many) k)) (0 ∷ [])
    of_types zero l = placement-by-test ([] ∷ []) (0 ∷ []) refl
    of_types (suc k) l = absurd (omega arith)

too-large : ResolveRefuses many error.Limit
too-large = inr (
  record { some = has-some _ _; distinct = all-distinct (scopes many) refl; packages = none-known many refl; known = record { in_interfaces = of_i; in_worlds = λ k d l. absurd (omega arith) } },
  many-is-too-large,
)
  where
    of_b : All (λ (t : TypeItem). All (Contains (codes "b" ∷ [])) (named_definition t.definition)) (item_of (codes "b") (FlagSet (labels 33)) ∷ [])
    of_b zero d l = λ k d l. absurd (omega arith)
    of_b (suc k) d l = absurd (omega arith)

    of_i : All (HasKnownNamesOf no_imports (interfaces many)) (interfaces many)
    of_i zero d l = record { uses = λ k d l. absurd (omega arith); types = of_b; functions = λ k d l. absurd (omega arith) }
    of_i (suc k) d l = absurd (omega arith)

-- the table of f passes none
f-within : PassesLimit (table_of p) → ⊥
f-within (inl l) = let n : 65535 < 25 = l in omega (arith, n)
f-within (inr e) = true≢false e

-- 65,535 type entries pass no limit, and one more does
too-many-entries : (t : Table) → type_entries t ≡ 65536 → PassesLimit t
too-many-entries t e = inl (omega (arith, e))

most-entries : (t : Table) → type_entries t ≡ 65535 → are_standard t.rows ≡ true → PassesLimit t → ⊥
most-entries t e fits (inl l) = omega (arith, e, l)
most-entries t e fits (inr h) = true≢false (sym fits ∙ h)

-- an import has an instance type more
imports-are-counted : (type_entries many_table ≡ 4) × (type_entries (with_names (codes "x" ∷ []) many_table) ≡ 5)
imports-are-counted = (refl, refl)

-- worlds are of the package behind its imports
world-of-the-own : (is_world_of 1 (world_of 1 (codes "w") []) ≡ true) × (is_world_of 1 (world_of 0 (codes "w") []) ≡ false)
world-of-the-own = (refl, refl)

-- rows without names and functions of worlds stand behind those of interfaces
rows-of-worlds : (is_behind (function_of_world 0 (codes "f") [] None) ≡ true) × (is_behind (function_in 0 (codes "f") [] None) ≡ false)
    × (is_behind (unnamed_row (kind.List u8)) ≡ true) × (is_behind (named_row 0 (codes "a") (kind.List u8)) ≡ false)
rows-of-worlds = (refl, refl, refl, refl)

-- a type has its name in its own interface alone
types-of-its-own : ((import_of (a_b ∷ []) rows 0 (interface_of 0 (codes "x") [] (1 ∷ []) [])).types ≡ codes "item" ∷ [])
    × ((import_of (a_b ∷ []) rows 1 (interface_of 0 (codes "x") [] (1 ∷ []) [])).types ≡ [])
types-of-its-own = (refl, refl)
