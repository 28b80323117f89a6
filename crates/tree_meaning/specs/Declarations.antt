-- What the interfaces of a syntax tree declare: used names, types and functions, each in source order; what its worlds import and export;
-- and what they name.
use Rattle.std.specs.Prelude.{ℕ, List, [], ◌∷◌, ◌++◌, map, flat_map, filter_map, Option, None, Some, slice_index_or, unwrap_or}
use Rattle.wit_tokens.specs.Syntax.{Ty, Prim, Named, ListOf, OptionOf, TupleOf, ResultOf, Tys, none, more, MaybeTy, Absent, Present, Alias, Record, Variant, Enumeration, FlagSet, Function, Member, CaseOf, PathTo, Local, Foreign, UsedAs, Entry, Uses, Defines, Declares, WorldEntry, Whole, Single, FileEntry, AnInterface, AWorld, File, TypeBody}
use Rattle.tables.specs.PackageNames.{PackageParts, own_name}
use Rattle.tables.specs.Names.{full_name_in}
use Rattle.wit_tokens.specs.declared.wit_syntax.ast.Direction.{Direction}

-- `use interface.{name as local}`, of an interface of the file's own package or of another one
pub record UsedItem : Type 0 where
  pub «package» : Option PackageParts
  pub interface : List ℕ
  pub name : List ℕ
  pub local : List ℕ

-- a type that an interface declares: its name, and what is written after it
pub record TypeItem : Type 0 where
  pub name : List ℕ
  pub definition : TypeBody

-- a function that an interface or a world declares: its name, its parameters and its result
pub record FunctionItem : Type 0 where
  pub name : List ℕ
  pub function : Function

-- an interface of a file by its own name: names that it uses, its types and functions, each in source order
pub record InterfaceTree : Type 0 where
  pub name : List ℕ
  pub uses : List UsedItem
  pub types : List TypeItem
  pub functions : List FunctionItem

-- the name by which a used name goes in the interface that uses it: the one after `as`, or its own
abbrev pub local_name : UsedAs → List ℕ
local_name u = unwrap_or u.local u.name

-- the other package that a path names; none if it names an interface of the file's own package
abbrev pub path_package : PathTo → Option PackageParts
path_package (Local i) = None
path_package (Foreign namespace name v i) = Some (record { namespace = namespace; name = name; version = v })

-- the own name of the interface that a path names
abbrev pub path_interface : PathTo → List ℕ
path_interface (Local i) = i
path_interface (Foreign namespace name v i) = i

-- a name in a `use` of this path
abbrev pub used_item : PathTo → UsedAs → UsedItem
used_item p u = record { «package» = path_package p; interface = path_interface p; name = u.name; local = local_name u }

-- names that are used of an interface
abbrev pub path_uses : PathTo → List UsedAs → List UsedItem
path_uses p us = map (used_item p) us

-- the names that an interface's item uses: those of a `use`, else none
abbrev pub entry_uses : Entry → List UsedItem
entry_uses (Uses at p us) = path_uses p us
entry_uses (Defines at n d) = []
entry_uses (Declares at n f) = []

-- the type that an interface's item declares, if it is one
abbrev pub entry_types : Entry → List TypeItem
entry_types (Uses at p us) = []
entry_types (Defines at n d) = record { name = n; definition = d } ∷ []
entry_types (Declares at n f) = []

-- the function that an interface's item declares, if it is one
abbrev pub entry_functions : Entry → List FunctionItem
entry_functions (Uses at p us) = []
entry_functions (Defines at n d) = []
entry_functions (Declares at n f) = record { name = n; function = f } ∷ []

-- the interface of this name with these items
abbrev pub interface_tree : List ℕ → List Entry → InterfaceTree
interface_tree n es = record {
  name = n;
  uses = flat_map entry_uses es;
  types = flat_map entry_types es;
  functions = flat_map entry_functions es;
}

-- the interface that an item of a file is; none if it is a world
abbrev pub interface_of : FileEntry → Option InterfaceTree
interface_of (AnInterface n es) = Some (interface_tree n es)
interface_of (AWorld at n es) = None

-- the interfaces of a file
abbrev pub interfaces : File → List InterfaceTree
interfaces f = filter_map interface_of f.entries

-- an item of a world: an interface by its name, one of another package, or a function of its own
pub data ItemTree : Type 0 where
  InterfaceNamed : Direction → List ℕ → ItemTree
  ForeignNamed : Direction → PackageParts → List ℕ → ItemTree
  FunctionOf : Direction → FunctionItem → ItemTree

-- a world of a file by its own name, with what it imports and exports in source order
pub record WorldTree : Type 0 where
  pub name : List ℕ
  pub items : List ItemTree

-- what an `import` or an `export` of a world names
abbrev pub item_tree : WorldEntry → ItemTree
item_tree (Whole way (Local i)) = InterfaceNamed way i
item_tree (Whole way (Foreign namespace name v i)) = ForeignNamed way (record { namespace = namespace; name = name; version = v }) i
item_tree (Single way at n f) = FunctionOf way (record { name = n; function = f })

-- the world of this name with these items
abbrev pub world_tree : List ℕ → List WorldEntry → WorldTree
world_tree n es = record { name = n; items = map item_tree es }

-- the world that an item of a file is; none if it is an interface
abbrev pub world_of : FileEntry → Option WorldTree
world_of (AnInterface n es) = None
world_of (AWorld at n es) = Some (world_tree n es)

-- the worlds of a file
abbrev pub file_worlds : File → List WorldTree
file_worlds f = filter_map world_of f.entries

-- ---- other packages

-- the other package that a path names, as a list: empty if it names an interface of the file's own package
abbrev pub path_packages : PathTo → List PackageParts
path_packages (Local i) = []
path_packages (Foreign namespace name v i) = record { namespace = namespace; name = name; version = v } ∷ []

-- the other packages that an interface's item names: that of a `use`, else none
abbrev pub entry_packages : Entry → List PackageParts
entry_packages (Uses at p us) = path_packages p
entry_packages (Defines at n d) = []
entry_packages (Declares at n f) = []

-- the other packages that a world's item names: that of an interface, else none
abbrev pub world_entry_packages : WorldEntry → List PackageParts
world_entry_packages (Whole way p) = path_packages p
world_entry_packages (Single way at n f) = []

-- the other packages that an interface or a world of a file names, in source order
abbrev pub file_entry_packages : FileEntry → List PackageParts
file_entry_packages (AnInterface n es) = flat_map entry_packages es
file_entry_packages (AWorld at n es) = flat_map world_entry_packages es

-- the other packages that a file names, in source order
abbrev pub other_packages : File → List PackageParts
other_packages f = flat_map file_entry_packages f.entries

-- ---- WIT.md, "Package Names": full names

-- the name of a tree's package
abbrev pub package_named : File → PackageParts
package_named f = record { namespace = f.namespace; name = f.name; version = f.version }

-- an own interface by its full name; one of another package by its own name, beside which the package is given
abbrev pub full_label : PackageParts → Option PackageParts → List ℕ → List ℕ
full_label p None i = own_name p i
full_label p (Some q) i = i

-- a used name, under the full name of its interface
abbrev pub full_use : PackageParts → UsedItem → UsedItem
full_use p u = record { «package» = u.«package»; interface = full_label p u.«package» u.interface; name = u.name; local = u.local }

-- an interface under its full name
abbrev pub full_interface : PackageParts → InterfaceTree → InterfaceTree
full_interface p i = record { name = own_name p i.name; uses = map (full_use p) i.uses; types = i.types; functions = i.functions }

-- an item of a world with its interface under the full name, of the file's package or of the other one
abbrev pub full_item : PackageParts → ItemTree → ItemTree
full_item p (InterfaceNamed way i) = InterfaceNamed way (own_name p i)
full_item p (ForeignNamed way q i) = InterfaceNamed way (own_name q i)
full_item p (FunctionOf way f) = FunctionOf way f

-- a world under its full name, and so each interface among its items
abbrev pub full_world : PackageParts → WorldTree → WorldTree
full_world p w = record { name = own_name p w.name; items = map (full_item p) w.items }

-- the worlds of a file under their full names, in source order
abbrev pub full_worlds : File → List WorldTree
full_worlds f = map (full_world (package_named f)) (file_worlds f)

-- the interfaces of a file under their full names
abbrev pub full_interfaces : File → List InterfaceTree
full_interfaces f = map (full_interface (package_named f)) (interfaces f)

-- an interface without name and items, for places that a list doesn't have
abbrev pub no_interface : InterfaceTree
no_interface = record { name = []; uses = []; types = []; functions = [] }

-- the interface at this place of the list
abbrev pub interface_at : List InterfaceTree → ℕ → InterfaceTree
interface_at is k = slice_index_or is k no_interface

-- ---- names

-- the names that a type names, from the left
abbrev mutual
  -- the names of types in a type expression, from the left
  pub named : Ty → List (List ℕ)
  named (Prim p) = []
  named (Named n) = n ∷ []
  named (ListOf t) = named t
  named (OptionOf t) = named t
  named (TupleOf ts) = named_all ts
  named (ResultOf ok error) = named_maybe ok ++ named_maybe error

  -- the names in the types of a tuple, from the left
  pub named_all : Tys → List (List ℕ)
  named_all none = []
  named_all (more t ts) = named t ++ named_all ts

  -- the names in a type of a `result`, none if it is absent
  pub named_maybe : MaybeTy → List (List ℕ)
  named_maybe Absent = []
  named_maybe (Present t) = named t

-- the names in the payload of a case or the result of a function, none if there is none
abbrev pub named_if : Option Ty → List (List ℕ)
named_if None = []
named_if (Some t) = named t

-- the names in the type of a field or a parameter
abbrev pub named_member : Member → List (List ℕ)
named_member m = named m.ty

-- the names in the payload of a case
abbrev pub named_case : CaseOf → List (List ℕ)
named_case c = named_if c.payload

-- the names of types that are written after a declared type's name, from the left
abbrev pub named_definition : TypeBody → List (List ℕ)
named_definition (Alias t) = named t
named_definition (Record ms) = flat_map named_member ms
named_definition (Variant cs) = flat_map named_case cs
named_definition (Enumeration ns) = []
named_definition (FlagSet ns) = []

-- the names of types in a function's parameters and its result, from the left
abbrev pub names_in_function : Function → List (List ℕ)
names_in_function f = flat_map named_member f.params ++ named_if f.result

-- an interface's own name
abbrev pub interface_tree_name : InterfaceTree → List ℕ
interface_tree_name i = i.name

-- the own names of these interfaces, in order
abbrev pub names_of_trees : List InterfaceTree → List (List ℕ)
names_of_trees is = map interface_tree_name is

-- the name that a used interface goes by: one of another package has its full name
abbrev pub use_interface : UsedItem → List ℕ
use_interface u = full_name_in u.«package» u.interface

-- the interface of this name, if no other package is given
abbrev pub own_interface : Option PackageParts → List ℕ → Option (List ℕ)
own_interface None i = Some i
own_interface (Some q) i = None

-- the own name of the interface that a name is used of; none if the interface is of another package
abbrev pub own_use : UsedItem → Option (List ℕ)
own_use u = own_interface u.«package» u.interface

-- the name by which a used name goes in the interface that uses it
abbrev pub use_local : UsedItem → List ℕ
use_local u = u.local

-- the name of a declared type
abbrev pub type_name : TypeItem → List ℕ
type_name t = t.name

-- the local names of what an interface uses, in source order
abbrev pub used_names : InterfaceTree → List (List ℕ)
used_names i = map use_local i.uses

-- the names of the types that an interface declares, in source order
abbrev pub own_types : InterfaceTree → List (List ℕ)
own_types i = map type_name i.types

-- the names of types in an interface: those that it uses, then those that it declares
abbrev pub type_names : InterfaceTree → List (List ℕ)
type_names i = used_names i ++ own_types i

-- ---- scopes, in which names differ in more than the case of their letters

-- the label of a field or a parameter
abbrev pub member_name : Member → List ℕ
member_name m = m.name

-- the label of a case
abbrev pub tree_case_name : CaseOf → List ℕ
tree_case_name c = c.name

-- the scope of a declared type: the labels of its fields, cases, enum values or flags; an alias has none
abbrev pub definition_scopes : TypeBody → List (List (List ℕ))
definition_scopes (Alias t) = []
definition_scopes (Record ms) = map member_name ms ∷ []
definition_scopes (Variant cs) = map tree_case_name cs ∷ []
definition_scopes (Enumeration ns) = ns ∷ []
definition_scopes (FlagSet ns) = ns ∷ []

-- the names that an interface's item adds to the interface's scope
abbrev pub entry_names : Entry → List (List ℕ)
entry_names (Uses at p us) = map local_name us
entry_names (Defines at n d) = n ∷ []
entry_names (Declares at n f) = n ∷ []

-- the scopes in an interface's item: a declared type's labels, or a function's parameters
abbrev pub entry_scopes : Entry → List (List (List ℕ))
entry_scopes (Uses at p us) = []
entry_scopes (Defines at n d) = definition_scopes d
entry_scopes (Declares at n f) = map member_name f.params ∷ []

-- an interface's uses, types and functions share one scope
abbrev pub item_scopes : List Entry → List (List (List ℕ))
item_scopes es = flat_map entry_names es ∷ flat_map entry_scopes es
