-- CanonicalABI.md, "Alignment", "Element Size", "Flattening", "Loading" and "Lifting": a type that takes each value of an older type as it was.
use Rattle.std.specs.Prelude.{◌≡◌, ℕ, ◌≤◌}
use Rattle.canonical_abi.specs.Types.{ClosedType, prim_type, string_type, list_type, record_type, variant_type, flags_type, Fields, no_field, field, Cases, no_case, plain_case, case_with, case_count}
use Rattle.canonical_abi.specs.Layout.{size, align, field_kinds, flags_size, discriminant_size}
use Rattle.layout.specs.Kinds.{kinds_of}

-- values of both types take the same room in memory, and go by the same core values, or by memory
pub record HaveOneLayout (t u : ClosedType) : Type 0 where
  pub sizes : size t ≡ size u
  pub aligns : align t ≡ align u
  pub carriers : kinds_of (field_kinds (field t no_field)) ≡ kinds_of (field_kinds (field u no_field))

abbrev mutual
  -- each value of t is a value of u, with the same bytes and the same core values: variants in u may have more cases at their end and flags
  -- more labels, if no size, alignment, discriminant or core value changes
  pub Widens : ClosedType → ClosedType → Type 0
  Widens (prim_type p) (prim_type q) = p ≡ q
  Widens string_type string_type = Unit {0}
  Widens (list_type t) (list_type u) = Widens t u
  Widens (record_type fs) (record_type gs) = WidenFields fs gs
  Widens (variant_type cs) (variant_type ds) =
      HaveOneLayout (variant_type cs) (variant_type ds) × (discriminant_size (case_count cs) ≡ discriminant_size (case_count ds)) × WidenCases cs ds
  Widens (flags_type m) (flags_type n) = (m ≤ n) × (flags_size m ≡ flags_size n)
  Widens _ _ = ⊥

  -- as many fields, each of a type that takes the older one's values
  pub WidenFields : Fields → Fields → Type 0
  WidenFields no_field no_field = Unit {0}
  WidenFields (field t fs) (field u gs) = Widens t u × WidenFields fs gs
  WidenFields _ _ = ⊥

  -- each older case is there, with a payload that takes the older one's values, and maybe more cases after them
  pub WidenCases : Cases → Cases → Type 0
  WidenCases no_case ds = Unit {0}
  WidenCases (plain_case cs) (plain_case ds) = WidenCases cs ds
  WidenCases (case_with t cs) (case_with u ds) = Widens t u × WidenCases cs ds
  WidenCases _ _ = ⊥
