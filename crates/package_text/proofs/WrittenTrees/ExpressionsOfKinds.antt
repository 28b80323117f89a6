-- The expressions and the definitions that are written for kinds of types.
use Rattle.std.proofs.Common.{◌≡◌, ℕ, List, [], ◌∷◌, map, refl, sym, ap, ◌∙◌, Option, None, Some, Global, Vec}
use Rattle.std.specs.Option.{option_map}
use Rattle.wit_tokens.specs.Syntax.{more, tys_of, TupleOf, Record, Variant, Enumeration}
use Rattle.wit_tokens.specs.View.{ty_view}
use Rattle.wit_tokens.specs.declared.wit_syntax.ast.TypeExpression.{TypeExpression, Tuple}
use Rattle.wit_tokens.proofs.wit_syntax.TreesOfExpressions.{view-Tuple}
use Rattle.tables.specs.Package.{Tree, Choices, read_val, read_choice, read_tuple, read_fields, read_params, read_cases, read_enum, read_kind}
use Rattle.tables.specs.declared.tables.ValType.{ValType}
use Rattle.tables.specs.declared.tables.TypeDefKind.{TypeDefKind}
use Rattle.tables.specs.declared.tables.TypeDefKind.TheVariants as kind
use Rattle.tables.specs.declared.tables.Field.{Field}
use Rattle.tables.specs.declared.tables.Parameter.{Parameter}
use Rattle.tables.specs.declared.tables.Case.{Case}
use Rattle.package_text.specs.Written.{ty_of, tys_in, members_in, cases_in, labels_in, body_of}
use Rattle.package_text.specs.Pieces.{type_by, field_by, parameter_by, case_by}

module _ (trees : List Tree) where
  -- ---- lists of parts

  types-written : (vs : List ValType) → tys_in (read_tuple trees vs) ≡ tys_of (map (type_by trees) vs)
  types-written [] = refl
  types-written (v ∷ vs) = ap (more (type_by trees v)) (types-written vs)

  fields-written : (fs : List Field) → members_in (read_fields trees fs) ≡ map (field_by trees) fs
  fields-written [] = refl
  fields-written (f ∷ fs) = ap (λ ms. field_by trees f ∷ ms) (fields-written fs)

  pub parameters-written : (ps : List Parameter) → members_in (read_params trees ps) ≡ map (parameter_by trees) ps
  parameters-written [] = refl
  parameters-written (p ∷ ps) = ap (λ ms. parameter_by trees p ∷ ms) (parameters-written ps)

  case-written : (n : List ℕ) (o : Option ValType) (cs : Choices) → cases_in (read_choice trees n o cs) ≡ record { name = n; payload = option_map (type_by trees) o } ∷ cases_in cs
  case-written n None cs = refl
  case-written n (Some v) cs = refl

  cases-written : (cs : List Case) → cases_in (read_cases trees cs) ≡ map (case_by trees) cs
  cases-written [] = refl
  cases-written (c ∷ cs) = case-written c.name c.ty (read_cases trees cs) ∙ ap (λ xs. case_by trees c ∷ xs) (cases-written cs)

  pub optional-written : (o : Option ValType) → option_map ty_of (option_map (read_val trees) o) ≡ option_map (type_by trees) o
  optional-written None = refl
  optional-written (Some v) = refl

  -- ---- types without names

  module _ (k : TypeDefKind) where
    pub tuple-written : (vs : List ValType) (ts : Vec TypeExpression Global) → k ≡ kind.Tuple vs → map ty_view ts.items ≡ map (type_by trees) vs → ty_view (Tuple ts) ≡ ty_of (read_kind trees k)
    tuple-written vs ts is h = view-Tuple ts ∙ ap (λ xs. TupleOf (tys_of xs)) h ∙ sym (ap TupleOf (types-written vs)) ∙ sym (ap (λ c. ty_of (read_kind trees c)) is)

    -- ---- definitions

    pub record-written : (fs : List Field) → k ≡ kind.Record fs → body_of (read_kind trees k) ≡ Record (map (field_by trees) fs)
    record-written fs is = ap (λ c. body_of (read_kind trees c)) is ∙ ap Record (fields-written fs)

    pub variant-written : (cs : List Case) → k ≡ kind.Variant cs → body_of (read_kind trees k) ≡ Variant (map (case_by trees) cs)
    variant-written cs is = ap (λ c. body_of (read_kind trees c)) is ∙ ap Variant (cases-written cs)

    labels-written : (ns : List (List ℕ)) → labels_in (read_enum ns) ≡ ns
    labels-written [] = refl
    labels-written (n ∷ ns) = ap (λ ms. n ∷ ms) (labels-written ns)

    pub enum-written : (ns : List (List ℕ)) → k ≡ kind.Enum ns → body_of (read_kind trees k) ≡ Enumeration ns
    enum-written ns is = ap (λ c. body_of (read_kind trees c)) is ∙ ap Enumeration (labels-written ns)
