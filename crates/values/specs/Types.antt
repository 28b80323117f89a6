-- The shape of a type: what it is once names are followed.
use Rattle.std.specs.Prelude.{◌≡◌, ◌≤◌, ℕ, IsTrue, List, length}
use Rattle.canonical_abi.specs.Types.{ClosedType, Fields, Cases, prim_type, string_type, list_type, record_type, variant_type, flags_type, field_count, case_count}
use Rattle.tables.specs.Tables.{is_below}
use Rattle.tables.specs.Closed.{prim_of, closed_val, closed_types}
use Rattle.tables.specs.declared.tables.Resolve.{Resolve}
use Rattle.tables.specs.declared.tables.ValType.{ValType}
use Rattle.layout.specs.declared.queries.Shape.{Shape}
use Rattle.layout.specs.declared.queries.Shape.TheVariants as shape

-- the type is a primitive or string, or stands in the package's table
abbrev pub IsInside : Resolve → ValType → Type 0
IsInside r v = IsTrue (is_below (length r.definitions) v)

-- the closed type has this shape, over the closed types of a table
abbrev pub HasShapeIn : List ClosedType → ClosedType → Shape → Type 0
HasShapeIn rows t (shape.Primitive p) = t ≡ prim_type (prim_of p)
HasShapeIn rows t shape.String = t ≡ string_type
HasShapeIn rows t (shape.List element) = t ≡ list_type (closed_val rows element)
HasShapeIn rows t (shape.Record n) = (fs : Fields) × (t ≡ record_type fs) × (field_count fs ≡ n)
HasShapeIn rows t (shape.Variant n) = (cs : Cases) × (t ≡ variant_type cs) × (case_count cs ≡ n)
HasShapeIn rows t (shape.Flags n) = t ≡ flags_type n

-- the type that a shape names stands before place n
abbrev pub ShapeBelow : ℕ → Shape → Type 0
ShapeBelow n (shape.List element) = IsTrue (is_below n element)
ShapeBelow n _ = Unit {0}

-- a type of the package has this shape
abbrev pub HasShape : Resolve → ClosedType → Shape → Type 0
HasShape r t s = HasShapeIn (closed_types r) t s × ShapeBelow (length r.definitions) s

-- flags have at most 32 labels
abbrev pub HasFewFlags : Shape → Type 0
HasFewFlags (shape.Flags n) = n ≤ 32
HasFewFlags _ = Unit {0}
