-- The steps that a layout table takes: one for each definition, and one for each type that stands directly in one.
use Rattle.std.specs.Prelude.{ℕ, ◌+◌, ◌^◌, ◌-◌, min, List, length, sum_by, filter, Option, None, Some, is_some}
use Rattle.tables.specs.declared.tables.TypeDefKind.{TypeDefKind}
use Rattle.tables.specs.declared.tables.TypeDefKind.TheVariants as kind
use Rattle.tables.specs.declared.tables.Definition.{Definition}
use Rattle.tables.specs.declared.tables.Definition.TheVariants as row

-- 1 if there is a type, else 0
abbrev pub count : {A : Type 0} → Option A → ℕ
count None = 0
count (Some x) = 1

-- how many types are directly in a type
abbrev pub direct_types : TypeDefKind → ℕ
direct_types (kind.Use t) = 1
direct_types (kind.Alias v) = 1
direct_types (kind.List v) = 1
direct_types (kind.Option v) = 1
direct_types (kind.Result ok error) = count ok + count error
direct_types (kind.Tuple vs) = length vs
direct_types (kind.Record fs) = length fs
direct_types (kind.Variant cs) = length (filter (λ c. is_some c.ty) cs)
direct_types (kind.Enum names) = 0
direct_types (kind.Flags names) = 0

-- how many types are directly in a definition: in a function those of its parameters and result
abbrev pub types_in : Definition → ℕ
types_in (row.Type d) = direct_types d.kind
types_in (row.Function f) = length f.params + count f.result

-- how many types are looked at while a definition's row is made: all in a type, the parameters of a function
abbrev pub laid_in : Definition → ℕ
laid_in (row.Type d) = direct_types d.kind
laid_in (row.Function f) = length f.params

-- how many types are looked at while a definition's result is made: 1 of a function with a result
abbrev pub results_in : Definition → ℕ
results_in (row.Type d) = 0
results_in (row.Function f) = count f.result

-- the steps that the rows of these definitions take
abbrev pub laid_work : List Definition → ℕ
laid_work ds = sum_by (λ d. 1 + laid_in d) ds

-- the steps that the results of these definitions take
abbrev pub results_work : List Definition → ℕ
results_work ds = sum_by results_in ds

-- the steps that these definitions take, rows and results together
abbrev pub total_work : List Definition → ℕ
total_work ds = sum_by (λ d. 1 + types_in d) ds

-- a count as 64 bits have it: it stays at their greatest number
abbrev pub saturated : ℕ → ℕ
saturated n = min n (2 ^ 64 - 1)
