-- The types of an opened package are within the limits.
use Rattle.std.proofs.Common.{◌≡◌, ℕ, zero, suc, ◌<◌, ◌≤◌, IsTrue, List, [], ◌∷◌, length, get_or, slice_get, refl, arith}
use Rattle.std.proofs.Math.Bridge.{le_prop}
use Rattle.std.proofs.Math.Logic.{∥∥₁_elim}
use Rattle.canonical_abi.specs.Types.{Prim, boolean, unsigned, signed, scalar_value, int8, int16, int32, int64, prim_type, depth}
use Rattle.canonical_abi.specs.Layout.{size}
use Rattle.layout.specs.Layout.{AreWithin}
use Rattle.tables.specs.Closed.{prim_of, closed_type}
use Rattle.tables.specs.Standard.{IsTypeOf}
use Rattle.tables.specs.Tables.{is_there, type_of}
use Rattle.tables.specs.declared.tables.Definition.{Definition}
use Rattle.tables.specs.declared.tables.Definition.TheVariants as row
use Rattle.tables.specs.declared.tables.Resolve.{Resolve}
use Rattle.tables.specs.declared.tables.TypeDef.{TypeDef}
use Rattle.tables.specs.declared.tables.ValType.{ValType}
use Rattle.tables.specs.declared.tables.ValType.TheVariants as val

found-at : (ds : List Definition) (i : ℕ) → IsTrue (is_there (type_of (slice_get ds i))) → (d : TypeDef) × (i < length ds) × (get_or ds i (row.Type d) ≡ row.Type d)
found-at [] i h = absurd (cc)
found-at (row.Type d ∷ ds) zero h = (d, omega arith, refl)
found-at (row.Function f ∷ ds) zero h = absurd (cc)
found-at (e ∷ ds) (suc i) h = let (d, less, is) = found-at ds i h in (d, omega (arith, less), is)

prim-small : (p : Prim) → size (prim_type p) ≤ 16777216
prim-small boolean = omega arith
prim-small (unsigned int8) = omega arith
prim-small (unsigned int16) = omega arith
prim-small (unsigned int32) = omega arith
prim-small (unsigned int64) = omega arith
prim-small (signed int8) = omega arith
prim-small (signed int16) = omega arith
prim-small (signed int32) = omega arith
prim-small (signed int64) = omega arith
prim-small scalar_value = omega arith

within : (r : Resolve) → AreWithin r → (t : ValType) → IsTypeOf r t → (depth (closed_type r t) ≤ 64) × (size (closed_type r t) ≤ 16777216)
within r limits (val.Primitive p) h = (omega arith, prim-small (prim_of p))
within r limits val.String h = (omega arith, omega arith)
within r limits (val.Id t) h = let (d, less, is) = found-at r.definitions t.0 h in limits.each t.0 (row.Type d) less is

pub type-shallow : (r : Resolve) → ∥ AreWithin r ∥₁ → (t : ValType) → IsTypeOf r t → depth (closed_type r t) ≤ 64
type-shallow r limits t h = ∥∥₁_elim limits le_prop (λ l. (within r l t h).0)

pub type-small : (r : Resolve) → ∥ AreWithin r ∥₁ → (t : ValType) → IsTypeOf r t → size (closed_type r t) ≤ 16777216
type-small r limits t h = ∥∥₁_elim limits le_prop (λ l. (within r l t h).1)
