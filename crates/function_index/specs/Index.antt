-- WIT.md, "Package Names": the functions of a table by the full names of their interfaces and their own names.
use Rattle.std.specs.Prelude.{◌≡◌, ◌&&◌, ℕ, Bool, false, List, [], ◌∷◌, ◌++◌, map, Option, None, Some, if◌then◌else◌}
use Rattle.std.specs.declared.alloc.Global.{Global}
use Rattle.std.specs.declared.string.String.{String}
use Rattle.std.specs.Map.{lookup}
use Rattle.std.specs.Str.{bytes_eq}
use Rattle.std.specs.String.{string_bytes}
use Rattle.tables.specs.Names.{full_name, function_name}
use Rattle.tables.specs.declared.tables.FunctionId.{FunctionId}
use Rattle.tables.specs.declared.tables.Interface.{Interface}
use Rattle.tables.specs.declared.tables.Resolve.{Resolve}

-- a name with what stands under it, as a map keeps them
abbrev pub named : {V : Type 0} → String Global × V → List ℕ × V
named e = (string_bytes e.0, e.1)

-- the function of this name among those of one interface, if there is the interface
abbrev pub function_among : Option (List (List ℕ × FunctionId)) → List ℕ → Option FunctionId
function_among None name = None
function_among (Some functions) name = lookup (bytes_eq name) functions

-- what stands under a full name and a name, in lists by full names
abbrev pub function_in : List (List ℕ × List (List ℕ × FunctionId)) → List ℕ → List ℕ → Option FunctionId
function_in x iface name = function_among (lookup (bytes_eq iface) x) name

-- ---- the index of a table

-- a row of a table under the full name of an interface that has it
pub record Candidate : Type 0 where
  pub interface : List ℕ
  pub row : FunctionId

-- functions under the full name of the interface that has them
abbrev pub under : List ℕ → List FunctionId → List Candidate
under iface fs = map (λ f. record { interface = iface; row = f }) fs

-- the functions of these interfaces, in the order of the table
abbrev pub candidates : Resolve → List Interface → List Candidate
candidates r [] = []
candidates r (i ∷ is) = under (full_name r i) i.functions ++ candidates r is

-- there is a name, and it is this one
abbrev pub is_name : List ℕ → Option (List ℕ) → Bool
is_name name None = false
is_name name (Some other) = bytes_eq name other

-- the first of these rows that is a function of this name under this full name
abbrev pub first_named : Resolve → List Candidate → List ℕ → List ℕ → Option FunctionId
first_named r [] iface name = None
first_named r (c ∷ cs) iface name = if bytes_eq iface c.interface && is_name name (function_name r c.row) then Some c.row else first_named r cs iface name

-- under a full name and a name stands the first of these rows that has them
abbrev pub IsIndexOver : Resolve → List Candidate → List (List ℕ × List (List ℕ × FunctionId)) → Type 0
IsIndexOver r cs x = (iface name : List ℕ) → function_in x iface name ≡ first_named r cs iface name

-- under a full name and a name stands the first function of the table that has them
abbrev pub IsIndexOf : Resolve → List (List ℕ × List (List ℕ × FunctionId)) → Type 0
IsIndexOf r x = IsIndexOver r (candidates r r.interfaces) x
