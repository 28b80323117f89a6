-- The types and functions of an interface stand in the layout table of their package.
use Rattle.std.proofs.Common.{◌≡◌, ◌<◌, IsTrue, List, Option, None, length, inl, inr, ap, sym, subst}
use Rattle.std.proofs.lemmas.Bool.{lt-ltb}
use Rattle.std.proofs.lemmas.Option.{slice_get_cases}
use Rattle.std.specs.Prelude.{nat_lt}
use Rattle.tables.specs.Tables.{is_there, type_of, function_of, is_type_id, is_function_id}
use Rattle.tables.specs.declared.tables.Definition.{Definition}
use Rattle.tables.specs.declared.tables.TypeId.{TypeId}
use Rattle.tables.specs.declared.tables.FunctionId.{FunctionId}
use Rattle.tables.specs.declared.tables.Resolve.{Resolve}
use Rattle.layout.specs.Layout.{LayoutTable, layouts_of}
use Rattle.layout.proofs.RowsSoFar.{length-table}

rows-length : (r : Resolve) (l : LayoutTable) → l ≡ layouts_of r → length l.rows ≡ length r.definitions
rows-length r l is = length-table r l.rows (ap (λ (t : LayoutTable). t.rows) is)

type-within : (ds : List Definition) (id : TypeId) → IsTrue (is_type_id ds id) → id.0 < length ds
type-within ds id there = elim (slice_get_cases ds id.0).1 [ inl found ↦ found.1 | inr past ↦ absurd (none (subst (λ (d : Option Definition). IsTrue (is_there (type_of d))) past.1 there)) ]
  where
    none : IsTrue (is_there (type_of None)) → ⊥
    none h = cc

function-within : (ds : List Definition) (id : FunctionId) → IsTrue (is_function_id ds id) → id.0 < length ds
function-within ds id there = elim (slice_get_cases ds id.0).1 [ inl found ↦ found.1 | inr past ↦ absurd (none (subst (λ (d : Option Definition). IsTrue (is_there (function_of d))) past.1 there)) ]
  where
    none : IsTrue (is_there (function_of None)) → ⊥
    none h = cc

pub type-below : (r : Resolve) (l : LayoutTable) (id : TypeId) → l ≡ layouts_of r → IsTrue (is_type_id r.definitions id) → IsTrue (nat_lt id.0 (length l.rows))
type-below r l id is there = lt-ltb id.0 (length l.rows) (subst (λ n. id.0 < n) (sym (rows-length r l is)) (type-within r.definitions id there))

pub function-below : (r : Resolve) (l : LayoutTable) (id : FunctionId) → l ≡ layouts_of r → IsTrue (is_function_id r.definitions id) → id.0 < length l.rows
function-below r l id is there = subst (λ n. id.0 < n) (sym (rows-length r l is)) (function-within r.definitions id there)
