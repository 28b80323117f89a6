-- Rows in postfix order, as one way over them: which rows are still to be used.
use Rattle.std.specs.Prelude.{ℕ, ◌+◌, ◌-◌, Bool, true, false, ◌&&◌, ◌==◌, nat_eq, List, [], ◌∷◌, ◌++◌, flat_map, take, length, slice_get, if◌then◌else◌}
use Rattle.std.specs.List.{ends_with}
use Rattle.tables.specs.declared.tables.TypeId.{TypeId}
use Rattle.tables.specs.declared.tables.TypeDefKind.{TypeDefKind}
use Rattle.tables.specs.declared.tables.TypeDefKind.TheVariants as kind
use Rattle.tables.specs.declared.tables.Definition.{Definition}
use Rattle.tables.specs.declared.tables.Definition.TheVariants as row
use Rattle.package_form.specs.Postfix.{is_unnamed, is_unnamed_row, one_if, is_inner}
use Rattle.package_form.specs.References.{row_references}

-- the row that is referred to, as a list of one if it has no name, or none
abbrev pub unnamed_at : List Definition → TypeId → List ℕ
unnamed_at rows t = one_if (is_unnamed_row (slice_get rows t.0)) t.0

-- the rows without names that a row is made of
abbrev pub inner_rows : List Definition → Definition → List ℕ
inner_rows rows d = flat_map (unnamed_at rows) (row_references d)

-- a type that is a new name of another (`type a = b`)
abbrev pub is_alias : TypeDefKind → Bool
is_alias (kind.Alias v) = true
is_alias _ = false

-- a row may be made of these types without names, `inner`: an alias of none, any other row of any
abbrev pub can_use : Definition → List ℕ → Bool
can_use (row.Type d) inner = if is_alias d.kind then length inner == 0 else true
can_use (row.Function f) inner = true

-- a list, an option, a result or a tuple can stand without a name; a row with a name leaves none unused
abbrev pub closes : Definition → ℕ → Bool
closes (row.Type d) left = if is_unnamed (row.Type d) then is_inner d.kind else left == 0
closes (row.Function f) left = left == 0

-- the rows without names of a row stand last among the unused, in order
abbrev pub is_next : List ℕ → List ℕ → Definition → Bool
is_next unused inner d = can_use d inner && (ends_with nat_eq unused inner && closes d (length unused - length inner))

-- the rows without names that are still unused after the row at place n
abbrev pub unused_after : ℕ → List ℕ → List ℕ → Definition → List ℕ
unused_after n unused inner d = take (length unused - length inner) unused ++ one_if (is_unnamed d) n

-- these rows, the first of which stands at place n, use the unused ones and one another
abbrev pub are_used : List Definition → ℕ → List ℕ → List Definition → Bool
are_used rows n unused [] = length unused == 0
are_used rows n unused (d ∷ ds) = is_next unused (inner_rows rows d) d && are_used rows (n + 1) (unused_after n unused (inner_rows rows d) d) ds
