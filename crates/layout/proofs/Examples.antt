-- Worked examples: the rows of a small package, types at the limits of size and depth, and the definition that is refused first.
use Rattle.std.proofs.Common.{◌≡◌, ℕ, zero, suc, ◌<◌, ◌≤◌, List, [], ◌∷◌, ◌++◌, map, replicate, Some, None, Bool, true, false, ◌&&◌, nat_le, slice_index_or, codes, refl, subst, arith}
use Rattle.std.proofs.lemmas.Bool.{and_parts, leb-true}
use Rattle.canonical_abi.specs.Types.{ClosedType, string_type, depth}
use Rattle.canonical_abi.specs.Layout.{size, align}
use Rattle.canonical_abi.specs.declared.flat.CoreKind.{CoreKind}
use Rattle.canonical_abi.specs.declared.flat.CoreKind.TheVariants.{I32, I64}
use Rattle.tables.specs.Closed.{closed_types}
use Rattle.tables.specs.declared.tables.Primitive.TheVariants as primitive
use Rattle.tables.specs.declared.tables.ValType.{ValType}
use Rattle.tables.specs.declared.tables.ValType.TheVariants as val
use Rattle.tables.specs.declared.tables.TypeDefKind.{TypeDefKind}
use Rattle.tables.specs.declared.tables.TypeDefKind.TheVariants as kind
use Rattle.tables.specs.declared.tables.TypeDef.{TypeDef}
use Rattle.tables.specs.declared.tables.Function.{Function}
use Rattle.tables.specs.declared.tables.Definition.{Definition}
use Rattle.tables.specs.declared.tables.Definition.TheVariants as row
use Rattle.tables.specs.declared.tables.Owner.TheVariants as owner
use Rattle.tables.specs.declared.tables.Resolve.{Resolve}
use Rattle.layout.specs.Kinds.{kinds_of, append_kinds, join_kinds}
use Rattle.layout.specs.declared.kinds.Kinds.{Kinds}
use Rattle.layout.specs.declared.kinds.Kinds.TheVariants.{Flat, Spilled}
use Rattle.layout.specs.Standing as parts
use Rattle.layout.specs.declared.rows.Row.{Row}
use Rattle.layout.specs.declared.error.LayoutError.TheVariants.{TooDeep, TooLarge}
use Rattle.layout.specs.Layout.{max_depth, max_size, capped, layouts_of, IsDefinitionWithin, LayoutRefuses, RefusesAt, RefusesFirst, AreWithin}
use Rattle.layout.specs.Rows.{definition_row}
use Rattle.layout.specs.Signature.{lifted_by, lowered_by}

-- ---- a table of ten definitions
--
--   0 list<string>                          5 enum { a, b }
--   1 record { a: u8, b: u32, c: u16 }      6 option<char>
--   2 variant { a, b(u64), c(string) }      7 result<_, u64>
--   3 a new name of 1                       8 a tuple of seventeen u32
--   4 flags { a, b, c }                     9 func(x: 3, y: 0) -> 6

abbrev id : ℕ → ValType
id n = val.Id (record { 0 = n })

abbrev u32 : ValType
u32 = val.Primitive primitive.U32

abbrev u64 : ValType
u64 = val.Primitive primitive.U64

abbrev type_row : TypeDefKind → Definition
type_row k = row.Type (record { name = None; kind = k })

abbrev a : List ℕ
a = codes "a"

abbrev b : List ℕ
b = codes "b"

abbrev c : List ℕ
c = codes "c"

abbrev members : List ValType
members = val.Primitive primitive.U8 ∷ u32 ∷ val.Primitive primitive.U16 ∷ []

abbrev action : Function
action = record { owner = owner.Interface (record { 0 = 0 }); name = a; params = record { name = a; ty = id 3 } ∷ record { name = b; ty = id 0 } ∷ []; result = Some (id 6) }

abbrev ten : List Definition
ten =
    type_row (kind.List val.String)
    ∷ type_row (kind.Record (record { name = a; ty = val.Primitive primitive.U8 } ∷ record { name = b; ty = u32 } ∷ record { name = c; ty = val.Primitive primitive.U16 } ∷ []))
    ∷ type_row (kind.Variant (record { name = a; ty = None } ∷ record { name = b; ty = Some u64 } ∷ record { name = c; ty = Some val.String } ∷ []))
    ∷ type_row (kind.Alias (id 1))
    ∷ type_row (kind.Flags (a ∷ b ∷ c ∷ []))
    ∷ type_row (kind.Enum (a ∷ b ∷ []))
    ∷ type_row (kind.Option (val.Primitive primitive.Char))
    ∷ type_row (kind.Result None (Some u64))
    ∷ type_row (kind.Tuple (replicate 17 u32))
    ∷ row.Function action
    ∷ []

abbrev t : Resolve
t = record {
  packages = [];
  interfaces = [];
  worlds = [];
  definitions = ten;
  earlier = refl;
  typed = refl;
  standard = refl;
  placed = refl;
  grouped = refl;
  worlds_grouped = refl;
  worlds_placed = refl;
}

abbrev flat : List CoreKind → Kinds
flat ks = Flat (record { items = ks })

abbrev a_row : ℕ → ℕ → ℕ → Kinds → Row
a_row depth size align kinds = record { depth = depth; size = size; align = align; kinds = kinds }

abbrev ten_rows : List Row
ten_rows =
    a_row 2 8 4 (flat (I32 ∷ I32 ∷ []))
    ∷ a_row 2 12 4 (flat (I32 ∷ I32 ∷ I32 ∷ []))
    ∷ a_row 2 16 8 (flat (I32 ∷ I64 ∷ I32 ∷ []))
    ∷ a_row 2 12 4 (flat (I32 ∷ I32 ∷ I32 ∷ []))
    ∷ a_row 1 1 1 (flat (I32 ∷ []))
    ∷ a_row 1 1 1 (flat (I32 ∷ []))
    ∷ a_row 2 8 4 (flat (I32 ∷ I32 ∷ []))
    ∷ a_row 2 16 8 (flat (I32 ∷ I64 ∷ []))
    ∷ a_row 2 68 4 Spilled
    ∷ a_row 3 20 4 (flat (replicate 5 I32))
    ∷ []

t-rows : (layouts_of t).rows ≡ ten_rows
t-rows = refl

-- of a function its result
t-results : (layouts_of t).results ≡ replicate 9 (flat []) ++ flat (I32 ∷ I32 ∷ []) ∷ []
t-results = refl

t-parts : (layouts_of t).parts
    ≡ parts.List val.String
    ∷ parts.Record members (0 ∷ 4 ∷ 8 ∷ [])
    ∷ parts.Variant 8 (None ∷ Some u64 ∷ Some val.String ∷ [])
    ∷ parts.Same (id 1)
    ∷ parts.Flags 3
    ∷ parts.Variant 1 (None ∷ None ∷ [])
    ∷ parts.Variant 4 (None ∷ Some (val.Primitive primitive.Char) ∷ [])
    ∷ parts.Variant 8 (None ∷ Some u64 ∷ [])
    ∷ parts.Record (replicate 17 u32) (0 ∷ 4 ∷ 8 ∷ 12 ∷ 16 ∷ 20 ∷ 24 ∷ 28 ∷ 32 ∷ 36 ∷ 40 ∷ 44 ∷ 48 ∷ 52 ∷ 56 ∷ 60 ∷ 64 ∷ [])
    ∷ parts.Record (id 3 ∷ id 0 ∷ []) (0 ∷ 12 ∷ [])
    ∷ []
t-parts = refl

-- 2 4 3 2 1 1 2 2 18 4
t-work : (layouts_of t).work ≡ 39
t-work = refl

-- each row, by the rows before it
abbrev rows_by : List Row → List Definition → List Row
rows_by rows [] = rows
rows_by rows (d ∷ ds) = rows_by (rows ++ definition_row rows d ∷ []) ds

t-rows-by-rows : rows_by [] ten ≡ ten_rows
t-rows-by-rows = refl

-- ---- kinds and signatures

sixteen-kinds : kinds_of (replicate 16 I32) ≡ flat (replicate 16 I32)
sixteen-kinds = refl

seventeen-kinds : kinds_of (replicate 17 I32) ≡ Spilled
seventeen-kinds = refl

appended-kinds : append_kinds (flat (replicate 9 I32)) (flat (replicate 8 I32)) ≡ Spilled
appended-kinds = refl

joined-kinds : join_kinds (flat (I32 ∷ I64 ∷ [])) (flat (I64 ∷ [])) ≡ flat (I64 ∷ I64 ∷ [])
joined-kinds = refl

lifted : lifted_by Spilled (flat (I32 ∷ I32 ∷ [])) ≡ record { params = I32 ∷ []; results = I32 ∷ [] }
lifted = refl

lowered : lowered_by (flat (I64 ∷ [])) (flat (I32 ∷ I32 ∷ [])) ≡ record { params = I64 ∷ I32 ∷ []; results = [] }
lowered = refl

lowered-one : lowered_by (flat (I64 ∷ [])) (flat (I32 ∷ [])) ≡ record { params = I64 ∷ []; results = I32 ∷ [] }
lowered-one = refl

-- ---- types at the limits

abbrev some_type : TypeDef
some_type = record { name = None; kind = kind.Alias val.String }

largest : (u : ClosedType) → depth u ≡ 64 → size u ≡ 16777216 → IsDefinitionWithin (row.Type some_type) u
largest u deep large = (omega (arith, deep), omega (arith, large))

largest-not-refused : (u : ClosedType) → size u ≡ 16777216 → LayoutRefuses TooLarge (row.Type some_type) u → ⊥
largest-not-refused u large refused = let more = refused.1 in omega (arith, large, more)

larger : (u : ClosedType) → depth u ≡ 64 → size u ≡ 16777217 → LayoutRefuses TooLarge (row.Type some_type) u
larger u deep large = (omega (arith, deep), omega (arith, large))

deeper : (u : ClosedType) → depth u ≡ 65 → LayoutRefuses TooDeep (row.Type some_type) u
deeper u deep = omega (arith, deep)

deepest-not-refused : (u : ClosedType) → depth u ≡ 64 → LayoutRefuses TooDeep (row.Type some_type) u → ⊥
deepest-not-refused u deep refused = omega (arith, deep, refused)

-- what is too deep is not refused for its size
deeper-first : (u : ClosedType) → depth u ≡ 65 → LayoutRefuses TooLarge (row.Type some_type) u → ⊥
deeper-first u deep refused = let most = refused.0 in omega (arith, deep, most)

-- parameters may be as deep as types, so the record of them may be deeper
deeper-parameters : (u : ClosedType) → depth u ≡ 65 → size u ≡ 8 → IsDefinitionWithin (row.Function action) u
deeper-parameters u deep large = omega (arith, large)

parameters-not-deep : (u : ClosedType) → LayoutRefuses TooDeep (row.Function action) u → ⊥
parameters-not-deep u refused = refused

larger-parameters : (u : ClosedType) → size u ≡ 16777217 → LayoutRefuses TooLarge (row.Function action) u
larger-parameters u large = omega (arith, large)

capped-depths : map capped (64 ∷ 65 ∷ 66 ∷ []) ≡ 64 ∷ 65 ∷ 65 ∷ []
capped-depths = refl

-- ---- which definition is refused

never_deep : (d : Definition) (u : ClosedType) → LayoutRefuses TooDeep d u → IsDefinitionWithin d u → ⊥
never_deep (row.Type d) u refused kept = let most = kept.0 in omega (arith, most, refused)
never_deep (row.Function f) u refused kept = refused

never_large : (d : Definition) (u : ClosedType) → LayoutRefuses TooLarge d u → IsDefinitionWithin d u → ⊥
never_large (row.Type d) u refused kept = let most = kept.1 in let more = refused.1 in omega (arith, most, more)
never_large (row.Function f) u refused kept = omega (arith, kept, refused)

-- these definitions, whose closed types are these, are within the limits
abbrev is_within : Definition → ClosedType → Bool
is_within (row.Type d) u = nat_le (depth u) max_depth && nat_le (size u) max_size
is_within (row.Function f) u = nat_le (size u) max_size

abbrev are_within : ℕ → List Definition → List ClosedType → Bool
are_within zero ds us = true
are_within (suc n) [] us = false
are_within (suc n) (d ∷ ds) [] = false
are_within (suc n) (d ∷ ds) (u ∷ us) = is_within d u && are_within n ds us

within : (d : Definition) (u : ClosedType) → is_within d u ≡ true → IsDefinitionWithin d u
within (row.Type d) u h =
    let both = and_parts (nat_le (depth u) max_depth) (nat_le (size u) max_size) h in
    (leb-true (depth u) max_depth both.0, leb-true (size u) max_size both.1)
within (row.Function f) u h = leb-true (size u) max_size h

each-within : (n : ℕ) (ds : List Definition) (us : List ClosedType) → are_within n ds us ≡ true → (i : ℕ) (d : Definition) → i < n → slice_index_or ds i d ≡ d → IsDefinitionWithin d (slice_index_or us i string_type)
each-within zero ds us h i d below is = absurd (omega (arith, below))
each-within (suc n) [] us h i d below is = absurd cc
each-within (suc n) (e ∷ ds) [] h i d below is = absurd cc
each-within (suc n) (e ∷ ds) (u ∷ us) h zero d below is = subst (λ d. IsDefinitionWithin d u) is (within e u (and_parts (is_within e u) (are_within n ds us) h).0)
each-within (suc n) (e ∷ ds) (u ∷ us) h (suc i) d below is = each-within n ds us (and_parts (is_within e u) (are_within n ds us) h).1 i d (omega (arith, below)) is

t-within : AreWithin t
t-within = record { each = each-within 10 ten (closed_types t) refl }

-- so no definition of it is refused
t-not-deep : (k : ℕ) → RefusesAt TooDeep t k → ⊥
t-not-deep k r = never_deep r.definition _ r.refused (t-within.each k r.definition r.in_range r.is)

t-not-large : (k : ℕ) → RefusesAt TooLarge t k → ⊥
t-not-large k r = never_large r.definition _ r.refused (t-within.each k r.definition r.in_range r.is)

-- lists of lists: list k stands k + 2 deep
abbrev list_rows : ℕ → ℕ → List Definition
list_rows k zero = []
list_rows k (suc n) = type_row (kind.List (id k)) ∷ list_rows (suc k) n

abbrev lists : Resolve
lists = record {
  packages = [];
  interfaces = [];
  worlds = [];
  definitions = type_row (kind.List val.String) ∷ list_rows 0 70;
  earlier = refl;
  typed = refl;
  standard = refl;
  placed = refl;
  grouped = refl;
  worlds_grouped = refl;
  worlds_placed = refl;
}

abbrev list_row : ℕ → Definition
list_row k = type_row (kind.List (id k))

-- list 62 is 64 deep, and list 63 is refused, as the first
lists-refused : RefusesFirst TooDeep lists
lists-refused = (
  63,
  record {
    definition = list_row 62;
    is = refl;
    in_range = omega arith;
    refused = omega arith;
    before = each-within 63 lists.definitions (closed_types lists) refl;
  },
)

-- none after it is the first
lists-not-later : RefusesAt TooDeep lists 64 → ⊥
lists-not-later r = let within-63 = r.before 63 (list_row 62) (omega arith) refl in let most : 65 ≤ 64 = within-63.0 in omega (arith, most)

lists-not-within : AreWithin lists → ⊥
lists-not-within h = let within-63 = h.each 63 (list_row 62) (omega arith) refl in let most : 65 ≤ 64 = within-63.0 in omega (arith, most)
