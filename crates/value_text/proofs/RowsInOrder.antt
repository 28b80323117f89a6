-- The order of each row of a table.
use Rattle.std.proofs.Common.{◌≡◌, ◌<◌, ℕ, zero, suc, List, [], ◌∷◌, length, get_or, slice_get, IsTrue, Vec, Global, refl, sym, subst, arith}
use Rattle.tables.specs.declared.tables.TypeDef.{TypeDef}
use Rattle.tables.specs.declared.tables.TypeDefKind.{TypeDefKind}
use Rattle.tables.specs.declared.tables.Definition.{Definition}
use Rattle.tables.specs.declared.tables.Definition.TheVariants as row
use Rattle.tables.specs.Tables.{is_there, type_of}
use Rattle.value_text.specs.Orders.{KindOrdered, RowOrdered, AreOrders, IsRowOf, IsKindOf}

pub in-range : (ds : List Definition) (i : ℕ) → IsTrue (is_there (type_of (slice_get ds i))) → i < length ds
in-range [] i h = absurd (cc)
in-range (d ∷ ds) zero h = omega arith
in-range (d ∷ ds) (suc i) h = let less = in-range ds i h in omega (arith, less)

pub kind-there : (ds : List Definition) (i : ℕ) (d : TypeDef) → i < length ds → get_or ds i (row.Type d) ≡ row.Type d → IsKindOf ds i d.kind
kind-there [] i d h is = absurd (omega arith)
kind-there (x ∷ ds) zero d h is = subst (λ y. IsRowOf y d.kind) (sym is) refl
kind-there (x ∷ ds) (suc i) d h is = kind-there ds i d (omega (arith, h)) is

of-row : (x : Definition) (k : TypeDefKind) (is : List ℕ) → IsRowOf x k → RowOrdered x is → KindOrdered k is
of-row (row.Type d) k is same h = subst (λ y. KindOrdered y is) same h
of-row (row.Function f) k is none h = absurd none

pub order-there : (ds : List Definition) (os : List (Vec ℕ Global)) (i : ℕ) (k : TypeDefKind) → IsKindOf ds i k → AreOrders ds os → i < length os
order-there [] os i k none h = absurd none
order-there (x ∷ ds) [] i k is h = absurd h
order-there (x ∷ ds) (o ∷ os) zero k is h = omega arith
order-there (x ∷ ds) (o ∷ os) (suc i) k is (first, h) = let less = order-there ds os i k is h in omega (arith, less)

pub order-is : (ds : List Definition) (os : List (Vec ℕ Global)) (i : ℕ) (k : TypeDefKind) (o : Vec ℕ Global) → IsKindOf ds i k → AreOrders ds os → o ≡ get_or os i o → KindOrdered k o.items
order-is [] os i k o none h is_o = absurd none
order-is (x ∷ ds) [] i k o is h is_o = absurd h
order-is (x ∷ ds) (p ∷ os) zero k o is (first, h) is_o = of-row x k o.items is (subst (λ y. RowOrdered x y.items) (sym is_o) first)
order-is (x ∷ ds) (p ∷ os) (suc i) k o is (first, h) is_o = order-is ds os i k o is h is_o
