-- Whether two closed types are equal is decided, so they are a set, and so are the types of functions.
use Rattle.std.proofs.Common.{◌≡◌, Bool, true, false, ◌&&◌, eqb, Option, Some, None, refl, ap, sym, ◌∙◌}
use Rattle.std.proofs.lemmas.Bool.{eqb-true, eq-eqb, false≢true}
use Rattle.std.specs.Option.{option_eq}
use Rattle.canonical_abi.specs.Types.{Prim, ClosedType, prim_type, string_type, list_type, record_type, variant_type, flags_type, Fields, no_field, field, Cases, no_case, plain_case, case_with, FunctionType}
use mathlib.Core.HLevel.{hedberg}
use Rattle.package_diff.proofs.ShapesCompared.{prim_code, prim-one, both-true}

abbrev mutual
  same_type : ClosedType → ClosedType → Bool
  same_type (prim_type p) (prim_type q) = eqb (prim_code p) (prim_code q)
  same_type string_type string_type = true
  same_type (list_type t) (list_type u) = same_type t u
  same_type (record_type fs) (record_type gs) = same_fields fs gs
  same_type (variant_type cs) (variant_type ds) = same_cases cs ds
  same_type (flags_type m) (flags_type n) = eqb m n
  same_type _ _ = false

  same_fields : Fields → Fields → Bool
  same_fields no_field no_field = true
  same_fields (field t fs) (field u gs) = same_type t u && same_fields fs gs
  same_fields _ _ = false

  same_cases : Cases → Cases → Bool
  same_cases no_case no_case = true
  same_cases (plain_case cs) (plain_case ds) = same_cases cs ds
  same_cases (case_with t cs) (case_with u ds) = same_type t u && same_cases cs ds
  same_cases _ _ = false

mutual
  type-one : (t u : ClosedType) → same_type t u ≡ true → t ≡ u
  type-one (prim_type p) (prim_type q) h = ap prim_type (prim-one p q (eqb-true _ _ h))
  type-one string_type string_type h = refl
  type-one (list_type t) (list_type u) h = ap list_type (type-one t u h)
  type-one (record_type fs) (record_type gs) h = ap record_type (fields-one fs gs h)
  type-one (variant_type cs) (variant_type ds) h = ap variant_type (cases-one cs ds h)
  type-one (flags_type m) (flags_type n) h = ap flags_type (eqb-true m n h)
  type-one _ _ h = absurd (false≢true h)

  fields-one : (fs gs : Fields) → same_fields fs gs ≡ true → fs ≡ gs
  fields-one no_field no_field h = refl
  fields-one (field t fs) (field u gs) h =
      let hs = both-true (same_type t u) (same_fields fs gs) h in
      ap (λ x. field x fs) (type-one t u hs.0) ∙ ap (field u) (fields-one fs gs hs.1)
  fields-one _ _ h = absurd (false≢true h)

  cases-one : (cs ds : Cases) → same_cases cs ds ≡ true → cs ≡ ds
  cases-one no_case no_case h = refl
  cases-one (plain_case cs) (plain_case ds) h = ap plain_case (cases-one cs ds h)
  cases-one (case_with t cs) (case_with u ds) h =
      let hs = both-true (same_type t u) (same_cases cs ds) h in
      ap (λ x. case_with x cs) (type-one t u hs.0) ∙ ap (case_with u) (cases-one cs ds hs.1)
  cases-one _ _ h = absurd (false≢true h)

mutual
  type-self : (t : ClosedType) → same_type t t ≡ true
  type-self (prim_type p) = eq-eqb _ _ refl
  type-self string_type = refl
  type-self (list_type t) = type-self t
  type-self (record_type fs) = fields-self fs
  type-self (variant_type cs) = cases-self cs
  type-self (flags_type n) = eq-eqb n n refl

  fields-self : (fs : Fields) → same_fields fs fs ≡ true
  fields-self no_field = refl
  fields-self (field t fs) = rw (type-self t, fields-self fs) refl

  cases-self : (cs : Cases) → same_cases cs cs ≡ true
  cases-self no_case = refl
  cases-self (plain_case cs) = cases-self cs
  cases-self (case_with t cs) = rw (type-self t, cases-self cs) refl

decided : {A : Type 0} (test : A → A → Bool) → ((x y : A) → test x y ≡ true → x ≡ y) → ((x : A) → test x x ≡ true) → IsSet A
decided {A = A} test one self = hedberg (λ x y. by x y (test x y) refl)
  where
    by : (x y : A) (b : Bool) → test x y ≡ b → Dec (x ≡ y)
    by x y true e = yes (one x y e)
    by x y false e = no (λ same. false≢true (sym e ∙ ap (test x) (sym same) ∙ self x))

fields-set : IsSet Fields
fields-set = decided same_fields fields-one fields-self

result-one : (x y : Option ClosedType) → option_eq same_type x y ≡ true → x ≡ y
result-one None None h = refl
result-one (Some t) (Some u) h = ap (λ v. Some v) (type-one t u h)
result-one _ _ h = absurd (false≢true h)

result-self : (x : Option ClosedType) → option_eq same_type x x ≡ true
result-self None = refl
result-self (Some t) = type-self t

results-set : IsSet (Option ClosedType)
results-set = decided (option_eq same_type) result-one result-self

pub functions-set : IsSet FunctionType
functions-set = hlevel (fields-set, results-set)
