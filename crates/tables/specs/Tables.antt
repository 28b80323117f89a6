-- What is true of every table of definitions: each names earlier types alone, none is empty or above the limits, and ids are of their kind.
use Rattle.std.specs.Prelude.{ℕ, ◌+◌, Bool, true, false, ◌&&◌, nat_lt, nat_le, ◌==◌, List, [], ◌∷◌, length, Option, None, Some, slice_get}
use Rattle.std.specs.List.{list_all}
use Rattle.tables.specs.declared.tables.TypeId.{TypeId}
use Rattle.tables.specs.declared.tables.FunctionId.{FunctionId}
use Rattle.tables.specs.declared.tables.ValType.{ValType}
use Rattle.tables.specs.declared.tables.ValType.TheVariants as val
use Rattle.tables.specs.declared.tables.TypeDefKind.{TypeDefKind}
use Rattle.tables.specs.declared.tables.TypeDefKind.TheVariants as kind
use Rattle.tables.specs.declared.tables.TypeDef.{TypeDef}
use Rattle.tables.specs.declared.tables.Function.{Function}
use Rattle.tables.specs.declared.tables.Definition.{Definition}
use Rattle.tables.specs.declared.tables.Definition.TheVariants as row
use Rattle.tables.specs.declared.tables.Owner.{Owner}
use Rattle.tables.specs.declared.tables.Owner.TheVariants as owner
use Rattle.tables.specs.declared.tables.Interface.{Interface}
use Rattle.tables.specs.declared.tables.WorldItemKind.{WorldItemKind}
use Rattle.tables.specs.declared.tables.WorldItemKind.TheVariants as item
use Rattle.tables.specs.declared.tables.World.{World}

-- there is no type, or it has the property
abbrev pub option_all : (ValType → Bool) → Option ValType → Bool
option_all has None = true
option_all has (Some v) = has v

-- each type that a type of this kind names directly has the property
abbrev pub kind_all : (ValType → Bool) → TypeDefKind → Bool
kind_all has (kind.Use t) = has (val.Id t)
kind_all has (kind.Alias v) = has v
kind_all has (kind.List v) = has v
kind_all has (kind.Option v) = has v
kind_all has (kind.Result ok error) = option_all has ok && option_all has error
kind_all has (kind.Tuple vs) = list_all has vs
kind_all has (kind.Record fs) = list_all (λ f. has f.ty) fs
kind_all has (kind.Variant cs) = list_all (λ c. option_all has c.ty) cs
kind_all has (kind.Enum names) = true
kind_all has (kind.Flags names) = true

-- the types of a function's parameters and of its result have the property
abbrev pub function_all : (ValType → Bool) → Function → Bool
function_all has f = list_all (λ p. has p.ty) f.params && option_all has f.result

-- each type that a row names directly has the property
abbrev pub definition_all : (ValType → Bool) → Definition → Bool
definition_all has (row.Type d) = kind_all has d.kind
definition_all has (row.Function f) = function_all has f

-- the type is a primitive or string, or in the table before place n
abbrev pub is_below : ℕ → ValType → Bool
is_below n (val.Primitive p) = true
is_below n val.String = true
is_below n (val.Id t) = nat_lt t.0 n

-- there is no type, or it is a primitive, string, or in the table before place n
abbrev pub option_below : ℕ → Option ValType → Bool
option_below n v = option_all (is_below n) v

-- a type of this kind names only rows before place n
abbrev pub kind_below : ℕ → TypeDefKind → Bool
kind_below n k = kind_all (is_below n) k

-- the row names only rows before place n
abbrev pub definition_below : ℕ → Definition → Bool
definition_below n d = definition_all (is_below n) d

-- each of these definitions, the first of which stands at place n, names earlier ones alone
abbrev pub are_earlier : ℕ → List Definition → Bool
are_earlier n [] = true
are_earlier n (d ∷ ds) = definition_below n d && are_earlier (n + 1) ds

-- a count of cases or of labels is at least 1 and at most this limit
abbrev pub is_within : ℕ → ℕ → Bool
is_within n limit = nat_lt 0 n && nat_le n limit

-- a type of this kind is nonempty and within the limits of cases and flags
abbrev pub is_standard_kind : TypeDefKind → Bool
is_standard_kind (kind.Tuple vs) = nat_lt 0 (length vs)
is_standard_kind (kind.Record fs) = nat_lt 0 (length fs)
is_standard_kind (kind.Variant cs) = is_within (length cs) 100000
is_standard_kind (kind.Enum names) = is_within (length names) 100000
is_standard_kind (kind.Flags names) = is_within (length names) 32
is_standard_kind _ = true

-- the row is a function, or a type that is nonempty and within those limits
abbrev pub is_standard : Definition → Bool
is_standard (row.Type d) = is_standard_kind d.kind
is_standard (row.Function f) = true

-- all types of these rows are nonempty and within those limits
abbrev pub are_standard : List Definition → Bool
are_standard ds = list_all is_standard ds

-- the function in a row, or none if the row is a type or not there
abbrev pub function_of : Option Definition → Option Function
function_of None = None
function_of (Some (row.Type d)) = None
function_of (Some (row.Function f)) = Some f

-- the type in a row, or none if the row is a function or not there
abbrev pub type_of : Option Definition → Option TypeDef
type_of None = None
type_of (Some (row.Type d)) = Some d
type_of (Some (row.Function f)) = None

-- there is something
abbrev pub is_there : {A : Type 0} → Option A → Bool
is_there None = false
is_there (Some x) = true

-- the id is the place of a function
abbrev pub is_function_id : List Definition → FunctionId → Bool
is_function_id ds f = is_there (function_of (slice_get ds f.0))

-- the id is the place of a type
abbrev pub is_type_id : List Definition → TypeId → Bool
is_type_id ds t = is_there (type_of (slice_get ds t.0))

-- the ids of the interface's used names, types and functions are places of types and of functions
abbrev pub is_placed : List Definition → Interface → Bool
is_placed ds i = list_all (is_type_id ds) i.uses && (list_all (is_type_id ds) i.types && list_all (is_function_id ds) i.functions)

-- the ids of all these interfaces are places of types and of functions
abbrev pub are_placed : List Definition → List Interface → Bool
are_placed ds is = list_all (is_placed ds) is

-- each interface is of one of `count` packages, none of which stands before `first`, and those of a package stand together
abbrev pub are_grouped : ℕ → ℕ → List Interface → Bool
are_grouped count first [] = true
are_grouped count first (i ∷ is) = (nat_le first i.«package».0 && nat_lt i.«package».0 count) && are_grouped count i.«package».0 is

-- each world is of one of `count` packages, none of which is before `first`, and those of a package are together
abbrev pub are_worlds_grouped : ℕ → ℕ → List World → Bool
are_worlds_grouped count first [] = true
are_worlds_grouped count first (w ∷ ws) = (nat_le first w.«package».0 && nat_lt w.«package».0 count) && are_worlds_grouped count w.«package».0 ws

-- the owner is the world at place w
abbrev pub is_owner_world : ℕ → Owner → Bool
is_owner_world w (owner.Interface i) = false
is_owner_world w (owner.World v) = v.0 == w

-- there is a function, and it is one of the world at place w
abbrev pub is_function_of : ℕ → Option Function → Bool
is_function_of w None = false
is_function_of w (Some f) = is_owner_world w f.owner

-- an item of the world at place w is one of `count` interfaces, or a function of this world
abbrev pub is_placed_item : List Definition → ℕ → ℕ → WorldItemKind → Bool
is_placed_item ds count w (item.Interface i) = nat_lt i.0 count
is_placed_item ds count w (item.Function f) = is_function_of w (function_of (slice_get ds f.0))

-- each item of the world at place w is one of `count` interfaces, or a function of this world
abbrev pub is_placed_world : List Definition → ℕ → ℕ → World → Bool
is_placed_world ds count w x = list_all (λ i. is_placed_item ds count w i.kind) x.items

-- the items of each of these worlds, the first of which stands at place w
abbrev pub are_placed_worlds : List Definition → ℕ → ℕ → List World → Bool
are_placed_worlds ds count w [] = true
are_placed_worlds ds count w (x ∷ xs) = is_placed_world ds count w x && are_placed_worlds ds count (w + 1) xs

-- the type is a primitive or string, or a type of the table, not a function
abbrev pub is_type : List Definition → ValType → Bool
is_type ds (val.Primitive p) = true
is_type ds val.String = true
is_type ds (val.Id t) = is_type_id ds t

-- what these rows name are types, not functions
abbrev pub name_types : List Definition → Bool
name_types ds = list_all (definition_all (is_type ds)) ds

-- the type is a primitive or string, or in the table before place n and no function
abbrev pub is_type_before : List Definition → ℕ → ValType → Bool
is_type_before ds n v = is_below n v && is_type ds v
