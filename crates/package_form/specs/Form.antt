-- The tables that packages have: what is made of a tree, and what a component type spells.
use Rattle.std.specs.Prelude.{◌≤◌, ℕ, ◌+◌, Bool, true, false, ◌&&◌, not, ◌==◌, nat_lt, List, [], ◌∷◌, ◌++◌, map, flat_map, sum, length, IsTrue, Option, None, Some, is_some, slice_get}
use Rattle.std.specs.List.{list_all}
use Rattle.std.specs.Str.{bytes_eq}
use Rattle.atoms.specs.FullName.{is_package_label, is_version_or_none}
use Rattle.tables.specs.PackageNames.{PackageParts}
use Rattle.tables.specs.Tables.{type_of, is_owner_world}
use Rattle.tables.specs.declared.tables.TypeId.{TypeId}
use Rattle.tables.specs.declared.tables.TypeDef.{TypeDef}
use Rattle.tables.specs.declared.tables.TypeDefKind.{TypeDefKind}
use Rattle.tables.specs.declared.tables.TypeDefKind.TheVariants as kind
use Rattle.tables.specs.declared.tables.TypeName.{TypeName}
use Rattle.tables.specs.declared.tables.Definition.{Definition}
use Rattle.tables.specs.declared.tables.Definition.TheVariants as row
use Rattle.tables.specs.declared.tables.Interface.{Interface}
use Rattle.tables.specs.declared.tables.WorldItemKind.{WorldItemKind}
use Rattle.tables.specs.declared.tables.WorldItemKind.TheVariants as item
use Rattle.tables.specs.declared.tables.WorldItem.{WorldItem}
use Rattle.tables.specs.declared.tables.World.{World}
use Rattle.tables.specs.declared.tables.Resolve.{Resolve}
use Rattle.package_form.specs.Closed.{is_closed}
use Rattle.package_form.specs.Postfix.{is_unnamed, IsPostfix}
use Rattle.package_form.specs.Ids.{is_owned_by, is_use, places_where}
use Rattle.package_form.specs.Entries.{entries_of, world_entries, type_entries, table_of}
use Rattle.package_form.specs.Unused.{are_used}
use Rattle.package_form.specs.References.{row_references}
use Rattle.package_form.specs.Ends.{end_of, rows_of, interfaces_end, world_end, world_rows, is_parted}

-- the names of packages are those of full names: the namespace and the package in lower case, and a version of SemVer
abbrev pub is_package_name : PackageParts → Bool
is_package_name p = is_package_label p.namespace && (is_package_label p.name && is_version_or_none p.version)

-- all packages of a table have names as full names have them
abbrev pub has_full_names : Resolve → Bool
has_full_names r = list_all is_package_name r.packages

-- ---- what a row of interface k refers to

-- the name is of a type of interface k, or there is no name
abbrev pub is_own_name : ℕ → Option TypeName → Bool
is_own_name k None = true
is_own_name k (Some n) = n.interface.0 == k

-- there is a type, and it is of interface k or has no name
abbrev pub is_own_type : ℕ → Option TypeDef → Bool
is_own_type k None = false
is_own_type k (Some d) = is_own_name k d.name

-- the row is a type of interface k or one without a name
abbrev pub is_own : List Definition → ℕ → TypeId → Bool
is_own rows k t = is_own_type k (type_of (slice_get rows t.0))

-- the name is of a type of an interface before k
abbrev pub is_earlier_name : ℕ → Option TypeName → Bool
is_earlier_name k None = false
is_earlier_name k (Some n) = nat_lt n.interface.0 k

-- there is a type, and it is a named one of an interface before k
abbrev pub is_earlier_type : ℕ → Option TypeDef → Bool
is_earlier_type k None = false
is_earlier_type k (Some d) = is_earlier_name k d.name

-- the row is a named type of an interface before k
abbrev pub is_earlier : List Definition → ℕ → TypeId → Bool
is_earlier rows k t = is_earlier_type k (type_of (slice_get rows t.0))

-- a type of this kind is no used name, or the `use` names a type of an interface before k
abbrev pub uses_earlier : List Definition → ℕ → TypeDefKind → Bool
uses_earlier rows k (kind.Use t) = is_earlier rows k t
uses_earlier rows k _ = true

-- the row is a function of interface k, or a type of it or without a name; a used name is of an earlier interface
abbrev pub is_owned : List Definition → ℕ → Definition → Bool
is_owned rows k (row.Type d) = is_own_name k d.name && uses_earlier rows k d.kind
is_owned rows k (row.Function f) = is_owned_by k f.owner

-- the row is of interface k, and refers to types of k and types without names alone
abbrev pub is_local : List Definition → ℕ → Definition → Bool
is_local rows k d = is_owned rows k d && list_all (is_own rows k) (row_references d)

-- ---- an interface's ids

-- the row has a name: a named type or a function
abbrev pub is_named : Definition → Bool
is_named d = not (is_unnamed d)

-- the rows of an interface's uses, types and functions, in this order
abbrev pub ids_of : Interface → List ℕ
ids_of i = map (λ t. t.0) i.uses ++ (map (λ t. t.0) i.types ++ map (λ f. f.0) i.functions)

-- there is a type, and it is a used name
abbrev pub is_use_type : Option TypeDef → Bool
is_use_type None = false
is_use_type (Some d) = is_use d.kind

-- the row is a used name, which a `use` brings in
abbrev pub is_use_at : List Definition → TypeId → Bool
is_use_at rows t = is_use_type (type_of (slice_get rows t.0))

-- an interface's named rows are its uses, then its types, then its functions
abbrev pub has_ids : List Definition → ℕ → Interface → Bool
has_ids rows start i =
    bytes_eq (ids_of i) (places_where is_named start (rows_of rows start i))
    && (list_all (is_use_at rows) i.uses && list_all (λ t. not (is_use_at rows t)) i.types)

-- ---- worlds

-- there is a type, and it has no name
abbrev pub is_nameless_type : Option TypeDef → Bool
is_nameless_type None = false
is_nameless_type (Some d) = not (is_some d.name)

-- the row is a type without a name
abbrev pub is_nameless : List Definition → TypeId → Bool
is_nameless rows t = is_nameless_type (type_of (slice_get rows t.0))

-- the row is of world k: a function of it, or a type without a name
abbrev pub is_of_world : ℕ → Definition → Bool
is_of_world k (row.Type d) = not (is_some d.name)
is_of_world k (row.Function f) = is_owner_world k f.owner

-- the row is of world k, and refers to types without names alone
abbrev pub is_world_row : List Definition → ℕ → Definition → Bool
is_world_row rows k d = is_of_world k d && list_all (is_nameless rows) (row_references d)

-- the row of an item that is a function, as a list of one, or none of an interface
abbrev pub item_function : WorldItemKind → List ℕ
item_function (item.Interface i) = []
item_function (item.Function f) = f.0 ∷ []

-- the row of a world's item that is a function, as a list of one, or none of an interface
abbrev pub functions_in_item : WorldItem → List ℕ
functions_in_item i = item_function i.kind

-- the rows of the functions that a world imports and exports, in order of its items
abbrev pub functions_of : World → List ℕ
functions_of w = flat_map functions_in_item w.items

-- a world's named rows are the functions among its items
abbrev pub has_items : List Definition → ℕ → World → Bool
has_items rows start w = bytes_eq (places_where is_named start (world_rows rows start w)) (functions_of w)

-- each world, the first of which is world k and whose rows begin at start
abbrev pub have_items : List Definition → ℕ → ℕ → List World → Bool
have_items rows k start [] = true
have_items rows k start (w ∷ ws) =
    (has_items rows start w && list_all (is_world_row rows k) (world_rows rows start w)) && have_items rows (k + 1) (world_end start w) ws

-- ---- tables

-- each interface, the first of which is interface k and whose rows begin at start
abbrev pub are_interfaces : List Definition → ℕ → ℕ → List Interface → Bool
are_interfaces rows k start [] = true
are_interfaces rows k start (i ∷ is) =
    (has_ids rows start i && list_all (is_local rows k) (rows_of rows start i)) && are_interfaces rows (k + 1) (end_of start i) is

-- A closed table: one package behind the interfaces of others that it reaches. Rows stand interface by interface, in each its uses, then its
-- types, each behind the rows without names that it is made of, then its functions; they refer to rows of their own interface, and a use to a
-- named type of an earlier one. Behind them stand the functions of worlds, world by world, which refer to rows without names.
pub record IsInPackageForm (r : Resolve) : Type 0 where
  pub closed : IsTrue (is_closed r)
  pub names : IsTrue (has_full_names r)
  pub parted : IsTrue (is_parted (length r.definitions) 0 r.interfaces r.worlds)
  pub interfaces : IsTrue (are_interfaces r.definitions 0 0 r.interfaces)
  pub worlds : IsTrue (have_items r.definitions 0 (interfaces_end 0 r.interfaces) r.worlds)
  pub postfix : IsPostfix r.definitions
  pub entries : type_entries (table_of r) ≤ 65535

-- a table in package form, as a test; `are_used` tests that rows without names are in postfix order
abbrev pub is_in_form : Resolve → Bool
is_in_form r =
    is_closed r
    && (not (nat_lt 65535 (1 + length r.interfaces + (sum (map world_entries r.worlds) + sum (map entries_of r.definitions))))
    && (is_parted (length r.definitions) 0 r.interfaces r.worlds
    && (has_full_names r
    && (are_interfaces r.definitions 0 0 r.interfaces
    && (have_items r.definitions 0 (interfaces_end 0 r.interfaces) r.worlds
    && are_used r.definitions 0 [] r.definitions)))))
