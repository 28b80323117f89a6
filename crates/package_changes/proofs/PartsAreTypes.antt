-- The parts of a type, and of a function, are types of the table.
use Rattle.std.proofs.Common.{◌≡◌, ℕ, zero, suc, ◌+◌, ◌<◌, ◌≤◌, Bool, true, false, ◌&&◌, IsTrue, List, [], ◌∷◌, map, length, get_or, slice_get, Option, Some, None, refl, ap, sym, subst, ◌∙◌, arith}
use Rattle.std.specs.List.{list_all}
use Rattle.std.proofs.lemmas.List.{length-map}
use Rattle.std.proofs.lemmas.Bool.{ltb-true, lt-ltb}
use Rattle.canonical_abi.specs.Types.{ClosedType}
use Rattle.layout.specs.Layout.{LayoutTable, layouts_of, row_of}
use Rattle.tables.specs.Closed.{closed_types, function_at, IsFunction}
use Rattle.tables.specs.Standard.{IsTypeOf}
use Rattle.tables.specs.Tables.{is_below, is_type, option_all, kind_all, definition_all, definition_below, is_there, function_of}
use Rattle.tables.specs.declared.tables.Case.{Case}
use Rattle.tables.specs.declared.tables.Definition.{Definition}
use Rattle.tables.specs.declared.tables.Definition.TheVariants as row
use Rattle.tables.specs.declared.tables.Field.{Field}
use Rattle.tables.specs.declared.tables.Function.{Function}
use Rattle.tables.specs.declared.tables.FunctionId.{FunctionId}
use Rattle.tables.specs.declared.tables.Parameter.{Parameter}
use Rattle.tables.specs.declared.tables.Resolve.{Resolve}
use Rattle.tables.specs.declared.tables.TypeDefKind.{TypeDefKind}
use Rattle.tables.specs.declared.tables.TypeDefKind.TheVariants as kind
use Rattle.tables.specs.declared.tables.ValType.{ValType}
use Rattle.tables.specs.declared.tables.ValType.TheVariants as val
use Rattle.tables.proofs.ClosedTypesRowByRow.{split, both, below-at, earlier-at, length-closed_rows, stands, RowStands, is_below-later}
use Rattle.package_changes.specs.Nodes.{parts_of}
use Rattle.package_changes.specs.Comparing.{AreParts, AreTyped, AreParametersOf}
use Rattle.package_changes.proofs.LabelledRows.{in-range, all-at}

and-true : (a : Bool) → (a && true) ≡ a
and-true true = refl
and-true false = refl

module _ (has : ValType → Bool) where
  all-some : {A : Type 0} (ty : A → ValType) (xs : List A) → list_all (option_all has) (map (λ x. Some (ty x)) xs) ≡ list_all (λ x. has (ty x)) xs
  all-some ty [] = refl
  all-some ty (x ∷ xs) = ap (λ b. has (ty x) && b) (all-some ty xs)

  all-cases : (cs : List Case) → list_all (option_all has) (map (λ c. c.ty) cs) ≡ list_all (λ c. option_all has c.ty) cs
  all-cases [] = refl
  all-cases (c ∷ cs) = ap (λ b. option_all has c.ty && b) (all-cases cs)

  all-none : {A : Type 0} (xs : List A) → list_all (option_all has) (map (λ x. None) xs) ≡ true
  all-none [] = refl
  all-none (x ∷ xs) = all-none xs

  parts-all : (k : TypeDefKind) → list_all (option_all has) (parts_of k) ≡ kind_all has k
  parts-all (kind.Use t) = and-true (has (val.Id t))
  parts-all (kind.Alias v) = and-true (has v)
  parts-all (kind.List v) = and-true (has v)
  parts-all (kind.Option v) = and-true (has v)
  parts-all (kind.Result ok error) = ap (λ b. option_all has ok && b) (and-true (option_all has error))
  parts-all (kind.Tuple vs) = all-some (λ v. v) vs
  parts-all (kind.Record fs) = all-some (λ (f : Field). f.ty) fs
  parts-all (kind.Variant cs) = all-cases cs
  parts-all (kind.Enum names) = all-none names
  parts-all (kind.Flags names) = refl

-- the parts of a type are what its kind names
pub parts-are : (r : Resolve) (n : ℕ) (k : TypeDefKind) (ps : List (Option ValType)) → ps ≡ parts_of k → IsTrue (kind_all (is_below n) k) → IsTrue (kind_all (is_type r.definitions) k) → AreParts r n ps
parts-are r n k ps is below typed = (
  ap (list_all (option_all (is_below n))) is ∙ parts-all (is_below n) k ∙ below,
  ap (list_all (option_all (is_type r.definitions))) is ∙ parts-all (is_type r.definitions) k ∙ typed,
)

-- a type of the table has a layout
pub in-layouts : (r : Resolve) (l : LayoutTable) (n : ℕ) → l ≡ layouts_of r → IsTypeOf r (val.Id (record { 0 = n })) → IsTrue (is_below (length l.rows) (val.Id (record { 0 = n })))
in-layouts r l n is there =
    let within = in-range r.definitions n there in
    let rows : length l.rows ≡ length (closed_types r) = ap (λ (x : LayoutTable). length x.rows) is ∙ length-map (closed_types r) row_of in
    let count = length-closed_rows [] r.definitions in
    lt-ltb n (length l.rows) (omega (arith, within, rows, count))

below-more : (m n : ℕ) → m ≤ n → (ps : List Parameter) → IsTrue (list_all (λ p. is_below m p.ty) ps) → IsTrue (list_all (λ p. is_below n p.ty) ps)
below-more m n h [] b = refl
below-more m n h (p ∷ ps) b =
    let bs = split (is_below m p.ty) (list_all (λ (q : Parameter). is_below m q.ty) ps) b in
    both (is_below n p.ty) (list_all (λ (q : Parameter). is_below n q.ty) ps) (is_below-later m n p.ty h bs.0) (below-more m n h ps bs.1)

-- the parameters and the result of a function are types of the table
pub function-typed : (r : Resolve) (f : FunctionId) (g : Function) → function_at r f ≡ Some g → AreParametersOf r g.params × IsTrue (option_all (is_type r.definitions) g.result)
function-typed r f g at =
    let there : IsFunction r f = ap is_there at in
    let s = stands r f there in
    let same : s.function ≡ g = some-one (sym s.at ∙ at) in
    let d = row.Function s.function in
    let typed : IsTrue (definition_all (is_type r.definitions) d) =
    subst (λ (e : Definition). IsTrue (definition_all (is_type r.definitions) e)) (s.is d) (all-at (definition_all (is_type r.definitions)) r.definitions f.0 d s.in_range r.typed) in
    let types = split (list_all (λ (p : Parameter). is_type r.definitions p.ty) s.function.params) (option_all (is_type r.definitions) s.function.result) typed in
    let below : IsTrue (definition_below f.0 d) = below-at f.0 r.definitions f.0 d r.earlier s.in_range refl (sym (s.is d)) in
    let belows = split (list_all (λ (p : Parameter). is_below f.0 p.ty) s.function.params) (option_all (is_below f.0) s.function.result) below in
    let n = length r.definitions in
    let all_below : IsTrue (list_all (λ (p : Parameter). is_below n p.ty) s.function.params) = below-more f.0 n (omega (arith, s.in_range)) s.function.params belows.0 in
    subst (λ (h : Function). AreParametersOf r h.params × IsTrue (option_all (is_type r.definitions) h.result)) same (
      (all-some (is_below n) (λ (p : Parameter). p.ty) s.function.params ∙ all_below, all-some (is_type r.definitions) (λ (p : Parameter). p.ty) s.function.params ∙ types.0),
      types.1,
    )
  where
    some-one : {A : Type 0} {a b : A} → Some a ≡ Some b → a ≡ b
    some-one e = cc
