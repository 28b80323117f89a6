-- Rows of one shape are those of functions of one type, and the other way round.
use Rattle.std.proofs.Common.{◌≡◌, ℕ, ◌<◌, Bool, true, List, [], length, get_or, Option, Some, None, refl, ap, sym, subst, ◌∙◌, arith}
use Rattle.std.proofs.Math.Logic.{∥∥₁_elim}
use Rattle.std.proofs.Math.Bridge.{le_prop}
use Rattle.std.proofs.Math.Bool.{Bool-set}
use Rattle.std.proofs.lemmas.List.{get_or-map, length-map}
use Rattle.std.specs.Option.{option_map}
use Rattle.canonical_abi.specs.Types.{ClosedType, string_type, record_type, fields_of, FunctionType}
use Rattle.tables.specs.Closed.{closed_val, closed_params, closed_types, function_type, IsFunction}
use Rattle.tables.specs.declared.tables.FunctionId.{FunctionId}
use Rattle.tables.specs.declared.tables.Definition.TheVariants as row
use Rattle.tables.specs.declared.tables.Resolve.{Resolve}
use Rattle.tables.proofs.ClosedTypesRowByRow.{stands, function-row, function-type, length-closed_rows}
use Rattle.package_diff.specs.Shapes.{type_at, IsNumberOf, IsPartOf, IsPartBelow, IsRowAmong, TellTypesApart, AreRowsOf, result_type}
use Rattle.package_diff.specs.declared.shapes.Shape.{Shape}
use Rattle.package_diff.specs.declared.shapes.RowShape.{RowShape}
use Rattle.package_diff.proofs.ClosedTypesAreASet.{functions-set}

rows-count : (ss : List Shape) (r : Resolve) (rows : List RowShape) → AreRowsOf ss r rows → length rows ≡ length r.definitions
rows-count ss r rows are =
    sym (length-map rows (λ (x : RowShape). type_at ss x.number)) ∙ ap (length {A = ClosedType}) are.types ∙ omega (arith, length-closed_rows [] r.definitions)

-- a function has a row
has-row : (ss : List Shape) (r : Resolve) (rows : List RowShape) → AreRowsOf ss r rows → (f : FunctionId) → IsFunction r f → f.0 < length rows
has-row ss r rows are f known = omega (arith, rows-count ss r rows are, (stands r f known).in_range)

-- a row's shapes are those of parameters, as a record, and of a result
record RowTells (ss : List Shape) (t : FunctionType) (row : RowShape) : Type 0 where
  pub params : IsNumberOf ss (record_type t.params) row.number
  pub result : IsPartOf ss t.result row.result

row-tells : (ss : List Shape) (r : Resolve) (rows : List RowShape) → AreRowsOf ss r rows → (f : FunctionId) → IsFunction r f → (own : RowShape) → own ≡ get_or rows f.0 own
    → RowTells ss (function_type r f) own
row-tells ss r rows are f known own at =
    let s = stands r f known in
    let ts = closed_types r in
    let within = has-row ss r rows are f known in
    let among : IsRowAmong ss own = subst (IsRowAmong ss) (sym at) (are.among f.0 own within) in
    let number : type_at ss own.number ≡ record_type (fields_of (closed_params ts s.function.params)) =
    ap (λ (x : RowShape). type_at ss x.number) at
    ∙ sym (get_or-map (λ (x : RowShape). type_at ss x.number) rows f.0 own string_type within)
    ∙ ap (λ us. get_or us f.0 string_type) are.types ∙ function-row r f s in
    let d = row.Function s.function in
    let result : option_map (type_at ss) own.result ≡ option_map (closed_val ts) s.function.result =
    ap (λ (x : RowShape). option_map (type_at ss) x.result) at
    ∙ sym (get_or-map (λ (x : RowShape). option_map (type_at ss) x.result) rows f.0 own None within)
    ∙ ap (λ us. get_or us f.0 None) are.results
    ∙ get_or-map (result_type ts) r.definitions f.0 d None s.in_range
    ∙ ap (result_type ts) (s.is d) in
    subst (λ t. RowTells ss t own) (sym (function-type r f s)) record { params = (among.0, number); result = (among.1, result) }

-- two rows have the same shapes
abbrev AreOneRow : RowShape → RowShape → Type 0
AreOneRow a b = (a.number ≡ b.number) × (a.result ≡ b.result)

-- such rows tell of one type
one-type : (ss : List Shape) (t u : FunctionType) (a b : RowShape) → RowTells ss t a → RowTells ss u b → AreOneRow a b → t ≡ u
one-type ss t u a b p q h =
    let records : record_type t.params ≡ record_type u.params = sym p.params.1 ∙ ap (type_at ss) h.0 ∙ q.params.1 in
    let params : t.params ≡ u.params = cc in
    let result : t.result ≡ u.result = sym p.result.1 ∙ ap (option_map (type_at ss)) h.1 ∙ q.result.1 in
    λ i. record { params = params i; result = result i }

one-part : (ss : List Shape) (x y : Option ℕ) → TellTypesApart ss → IsPartBelow (length ss) x → IsPartBelow (length ss) y → option_map (type_at ss) x ≡ option_map (type_at ss) y → x ≡ y
one-part ss None None apart p q h = refl
one-part ss None (Some n) apart p q h = cc
one-part ss (Some m) None apart p q h = cc
one-part ss (Some m) (Some n) apart p q h =
    let types : type_at ss m ≡ type_at ss n = cc in
    ap (λ k. Some k) (apart m n (p m refl) (q n refl) types)

-- functions of one type have such rows
one-row : (ss : List Shape) (t u : FunctionType) (a b : RowShape) → TellTypesApart ss → RowTells ss t a → RowTells ss u b → t ≡ u → AreOneRow a b
one-row ss t u a b apart p q h = (
  apart a.number b.number p.params.0 q.params.0 (p.params.1 ∙ ap (λ (v : FunctionType). record_type v.params) h ∙ sym q.params.1),
  one-part ss a.result b.result apart p.result.0 q.result.0 (p.result.1 ∙ ap (λ (v : FunctionType). v.result) h ∙ sym q.result.1),
)

module _ (ss : List Shape) (r s : Resolve) (rows others : List RowShape) (f g : FunctionId) (a b : RowShape)
    (known : IsFunction r f) (known' : IsFunction s g) (at : a ≡ get_or rows f.0 a) (at' : b ≡ get_or others g.0 b) where
  -- rows that have the same shapes are those of functions of one type
  pub told-alike : ∥ AreRowsOf ss r rows ∥₁ → ∥ AreRowsOf ss s others ∥₁ → AreOneRow a b → function_type r f ≡ function_type s g
  told-alike old new same =
      ∥∥₁_elim old (functions-set _ _) (λ p. ∥∥₁_elim new (functions-set _ _) (λ q.
      one-type ss (function_type r f) (function_type s g) a b (row-tells ss r rows p f known a at) (row-tells ss s others q g known' b at') same))

  -- and the rows of functions of one type have the same shapes, so that a test of it is true
  pub alike-told : TellTypesApart ss → ∥ AreRowsOf ss r rows ∥₁ → ∥ AreRowsOf ss s others ∥₁ → function_type r f ≡ function_type s g
      → (test : Bool) → (AreOneRow a b → test ≡ true) → test ≡ true
  alike-told apart old new same test says =
      ∥∥₁_elim old (Bool-set _ _) (λ p. ∥∥₁_elim new (Bool-set _ _) (λ q.
      says (one-row ss (function_type r f) (function_type s g) a b apart (row-tells ss r rows p f known a at) (row-tells ss s others q g known' b at') same)))

-- a function has a row
pub row-there : (ss : List Shape) (r : Resolve) (rows : List RowShape) → ∥ AreRowsOf ss r rows ∥₁ → (f : FunctionId) → IsFunction r f → f.0 < length rows
row-there ss r rows are f known = ∥∥₁_elim are le_prop (λ p. has-row ss r rows p f known)
