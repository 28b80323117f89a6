-- The shape that layouts tell of a type, and what follows of its closed type.
use Rattle.std.proofs.Common.{◌≡◌, ℕ, zero, suc, ◌<◌, ◌≤◌, true, IsTrue, List, [], ◌∷◌, length, get_or, slice_get, Option, Some, None, IfSome, option_map, refl, subst, arith}
use Rattle.std.proofs.lemmas.Bool.{and_parts, ltb-true}
use Rattle.canonical_abi.specs.Types.{ClosedType, flags_type, IsStandard, record_fields, nth_field}
use Rattle.std.specs.List.{list_all}
use Rattle.tables.specs.Tables.{is_below, option_below}
use Rattle.tables.specs.declared.tables.TypeDefKind.TheVariants as kind
use Rattle.tables.specs.Closed.{closed_type, closed_val, closed_kind}
use Rattle.tables.specs.declared.tables.Definition.{Definition}
use Rattle.tables.specs.declared.tables.Definition.TheVariants as row
use Rattle.tables.specs.declared.tables.Resolve.{Resolve}
use Rattle.tables.specs.declared.tables.ValType.{ValType}
use Rattle.tables.specs.declared.tables.ValType.TheVariants as val
use Rattle.tables.proofs.ClosedTypesRowByRow.{closed-at}
use Rattle.tables.proofs.HasStandardTypes.{type-standard}
use Rattle.layout.specs.Layout.{LayoutTable, layouts_of}
use Rattle.layout.specs.Queries as queries
use Rattle.layout.specs.declared.queries.Shape.{Shape}
use Rattle.layout.specs.declared.queries.Shape.TheVariants as shape
use Rattle.values.specs.Types.{IsInside, HasShape, HasFewFlags}
use Rattle.values.proofs.TypesExtents.{row-count}

-- ---- types side by side

pub field-Tuple : (rows : List ClosedType) (vs : List ValType) (k : ℕ) → nth_field (record_fields (closed_kind rows (kind.Tuple vs))) k ≡ option_map (closed_val rows) (slice_get vs k)
field-Tuple rows [] k = refl
field-Tuple rows (v ∷ vs) zero = refl
field-Tuple rows (v ∷ vs) (suc k) = field-Tuple rows vs k

pub below-Tuple : (n : ℕ) (vs : List ValType) (k : ℕ) → list_all (is_below n) vs ≡ true → IfSome (slice_get vs k) (λ v. IsTrue (is_below n v))
below-Tuple n [] k h = tt
below-Tuple n (v ∷ vs) zero h = (and_parts _ _ h).0
below-Tuple n (v ∷ vs) (suc k) h = below-Tuple n vs k (and_parts _ _ h).1

-- ---- what is told

shape-in : (r : Resolve) (t : ClosedType) (s : Shape) → queries.IsShaped (closed_type r) (length r.definitions) t s → HasShape r t s
shape-in r t (shape.Primitive p) h = (h, tt)
shape-in r t shape.String h = (h, tt)
shape-in r t (shape.List e) h = h
shape-in r t (shape.Record k) h = (h, tt)
shape-in r t (shape.Variant k) h = (h, tt)
shape-in r t (shape.Flags k) h = (h, tt)

pub shape-told : (r : Resolve) (table : LayoutTable) (v : ValType) (s : Shape) → table ≡ layouts_of r
    → queries.IsShaped (closed_type r) (length table.rows) (closed_type r v) s → HasShape r (closed_type r v) s
shape-told r table v s is h = shape-in r (closed_type r v) s (rw (row-count r table is) at h)

pub inside-told : (r : Resolve) (table : LayoutTable) (o : Option ValType) → table ≡ layouts_of r → IsTrue (option_below (length table.rows) o) → IfSome o (IsInside r)
inside-told r table None is h = tt
inside-told r table (Some v) is h = rw (row-count r table is) at h

-- ---- flags

got : (ds : List Definition) (i : ℕ) (d e : Definition) → slice_get ds i ≡ Some d → get_or ds i e ≡ d
got [] i d e h = absurd (cc)
got (x ∷ ds) zero d e h = cc
got (x ∷ ds) (suc i) d e h = got ds i d e h

missed : (ds : List Definition) (i : ℕ) → i < length ds → slice_get ds i ≡ None → ⊥
missed [] i l h = absurd (omega (arith, l))
missed (x ∷ ds) zero l h = absurd (cc)
missed (x ∷ ds) (suc i) l h = missed ds i (omega (arith, l)) h

flags-few : (r : Resolve) (v : ValType) (n : ℕ) → IsInside r v → closed_type r v ≡ flags_type n → n ≤ 32
flags-few r (val.Primitive p) n inside e = absurd (cc)
flags-few r val.String n inside e = absurd (cc)
flags-few r (val.Id t) n inside e = go (slice_get r.definitions t.0) refl
  where
    in_range : t.0 < length r.definitions
    in_range = ltb-true t.0 (length r.definitions) inside

    go : (o : Option Definition) → slice_get r.definitions t.0 ≡ o → n ≤ 32
    go None h = absurd (missed r.definitions t.0 in_range h)
    go (Some (row.Type d)) h = (subst IsStandard e (type-standard r (val.Id t) (rw h refl))).1
    go (Some (row.Function f)) h =
        let made = closed-at r.definitions t.0 (row.Function f) in_range in
        let is = got r.definitions t.0 (row.Function f) (row.Function f) h in
        absurd (cc (e, rw is at made))

pub few-flags : (r : Resolve) (v : ValType) (s : Shape) → IsInside r v → HasShape r (closed_type r v) s → HasFewFlags s
few-flags r v (shape.Primitive p) inside h = tt
few-flags r v shape.String inside h = tt
few-flags r v (shape.List e) inside h = tt
few-flags r v (shape.Record k) inside h = tt
few-flags r v (shape.Variant k) inside h = tt
few-flags r v (shape.Flags k) inside h = flags-few r v k inside h.0
