-- The members of a record, each told once for all elements of a list: what it is, and where it stands.
use Rattle.std.specs.Prelude.{◌≡◌, ℕ, ◌+◌, List, [], ◌∷◌}
use Rattle.std.specs.Int.{next_multiple_of}
use Rattle.canonical_abi.specs.Types.{ClosedType, prim_type, string_type, list_type, flags_type, record_type, record_fields, Fields, no_field, field}
use Rattle.canonical_abi.specs.Layout.{size, align}
use Rattle.ranges.specs.Bytewise.{IsNumber}
use Rattle.tables.specs.Closed.{prim_of}
use Rattle.crossing.specs.declared.records.Leaf.{Leaf}
use Rattle.crossing.specs.declared.records.Leaf.TheVariants as leaf
use Rattle.crossing.specs.declared.records.Step.{Step}

-- the closed type of a member without parts of its own: a scalar, flags, a string or a list of numbers
abbrev pub leaf_type : Leaf → ClosedType
leaf_type (leaf.Scalar p) = prim_type (prim_of p)
leaf_type (leaf.Flags n) = flags_type n
leaf_type leaf.Text = string_type
leaf_type (leaf.Numbers p) = list_type (prim_type (prim_of p))

-- a member that is a list of numbers has elements that are integers
abbrev pub IsLeaf : Leaf → Type 0
IsLeaf (leaf.Numbers p) = IsNumber (prim_of p)
IsLeaf _ = Unit {0}

-- these steps are the fields in turn, with their offsets; the field before them ends at offset `end`
abbrev pub AreSteps : Fields → ℕ → List Step → Type 0
AreSteps no_field end [] = Unit {0}
AreSteps no_field end (s ∷ ss) = ⊥
AreSteps (field t fs) end [] = ⊥
AreSteps (field t fs) end (s ∷ ss) = IsLeaf s.leaf × (t ≡ leaf_type s.leaf) × (s.place ≡ next_multiple_of end (align t)) × AreSteps fs (s.place + size t) ss

-- the type is a record, and these steps are its fields in turn, with their offsets
abbrev pub AreStepsOf : ClosedType → List Step → Type 0
AreStepsOf t steps = (t ≡ record_type (record_fields t)) × AreSteps (record_fields t) 0 steps
