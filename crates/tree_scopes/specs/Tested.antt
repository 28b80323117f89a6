-- What a test of imports asks of each.
use Rattle.std.specs.Prelude.{ℕ, ◌≡◌, Some}
use Rattle.tables.specs.declared.tables.Resolve.{Resolve}
use Rattle.tree_meaning.specs.Imports.{import_at, import_place, interfaces_of}

-- the interface at place k is the first of its name in its package
abbrev pub IsFirstOfName : Resolve → ℕ → Type 0
IsFirstOfName r k = import_place (interfaces_of r) (import_at (interfaces_of r) k).«package» (import_at (interfaces_of r) k).name ≡ Some k
