-- What a definition's row is, by the rows before it.
use Rattle.std.specs.Prelude.{◌≡◌, ℕ, ◌+◌, ◌<◌, ◌≤◌, max, min, Bool, true, List, [], ◌∷◌, length, map, fold, slice_index_or, Option, None, Some}
use Rattle.std.specs.Option.{option_map}
use Rattle.canonical_abi.specs.Types.{prim_type, string_type, flags_type}
use Rattle.std.specs.Int.{next_multiple_of}
use Rattle.canonical_abi.specs.Layout.{Extent, places_from, end_from, greatest_size, greatest_align}
use Rattle.canonical_abi.specs.Layout.{record_extent, variant_extent}
use Rattle.canonical_abi.specs.declared.flat.CoreKind.{CoreKind}
use Rattle.canonical_abi.specs.declared.flat.CoreKind.TheVariants.{I32}
use Rattle.tables.specs.Closed.{prim_of}
use Rattle.tables.specs.Tables.{option_below}
use Rattle.tables.specs.declared.tables.ValType.{ValType}
use Rattle.tables.specs.declared.tables.ValType.TheVariants as val
use Rattle.tables.specs.declared.tables.TypeDefKind.{TypeDefKind}
use Rattle.tables.specs.declared.tables.TypeDefKind.TheVariants as kind
use Rattle.tables.specs.declared.tables.Definition.{Definition}
use Rattle.tables.specs.declared.tables.Definition.TheVariants as row
use Rattle.layout.specs.Kinds.{kinds_of, passed, append_kinds, join_kinds}
use Rattle.layout.specs.Parts.{payloads}
use Rattle.layout.specs.Layout.{row_of, capped, max_depth, max_size}
use Rattle.layout.specs.declared.kinds.Kinds.{Kinds}
use Rattle.layout.specs.declared.rows.Row.{Row}
use Rattle.layout.specs.declared.error.LayoutError.{LayoutError}
use Rattle.layout.specs.declared.error.LayoutError.TheVariants.{TooDeep, TooLarge, NoMemory}

-- the row of a value type, over the rows of the table; a row that is not there counts as that of string
abbrev pub row_in : List Row → ValType → Row
row_in rows (val.Primitive p) = row_of (prim_type (prim_of p))
row_in rows val.String = row_of string_type
row_in rows (val.Id t) = slice_index_or rows t.0 (row_of string_type)

-- the rows of these members' types, or of these payloads
abbrev pub rows_at : {A : Type 0} → List Row → (A → ValType) → List A → List Row
rows_at rows ty xs = map (λ a. row_in rows (ty a)) xs

-- the rows of the payloads of these cases, None for a case without
abbrev pub choices_at : {A : Type 0} → List Row → (A → Option ValType) → List A → List (Option Row)
choices_at rows payload xs = map (λ x. option_map (row_in rows) (payload x)) xs

-- the size and alignment that a row gives
abbrev pub extent_in : Row → Extent
extent_in r = record { size = r.size; align = r.align }

-- the size and alignment of a value type, over the rows of the table
abbrev pub extent_at : List Row → ValType → Extent
extent_at rows v = extent_in (row_in rows v)

-- the sizes and alignments that rows give
abbrev pub extents : List Row → List Extent
extents rows = map extent_in rows

-- the greatest depth of these rows, and 0 of none
abbrev pub deepest : List Row → ℕ
deepest rows = fold (λ n r. max n r.depth) 0 rows

-- the row of a record with fields of these rows
abbrev pub record_row : List Row → Row
record_row rows = record {
  depth = capped (deepest rows + 1);
  size = (record_extent (extents rows)).size;
  align = (record_extent (extents rows)).align;
  kinds = fold (λ ks r. append_kinds ks r.kinds) (kinds_of []) rows;
}

-- the row of a variant whose payloads have these rows
abbrev pub variant_row : List (Option Row) → Row
variant_row cs = record {
  depth = capped (deepest (payloads cs) + 1);
  size = (variant_extent (length cs) (extents (payloads cs))).size;
  align = (variant_extent (length cs) (extents (payloads cs))).align;
  kinds = append_kinds (kinds_of (I32 ∷ [])) (fold (λ ks r. join_kinds ks r.kinds) (kinds_of []) (payloads cs));
}

-- the row of a list of elements with this row
abbrev pub list_row : Row → Row
list_row r = record (row_of string_type) { depth = capped (r.depth + 1) }

-- the row of a type of this kind, by the rows before it
abbrev pub kind_row : List Row → TypeDefKind → Row
kind_row rows (kind.Use t) = row_in rows (val.Id t)
kind_row rows (kind.Alias v) = row_in rows v
kind_row rows (kind.List v) = list_row (row_in rows v)
kind_row rows (kind.Option v) = variant_row (choices_at rows (λ c. c) (None ∷ Some v ∷ []))
kind_row rows (kind.Result ok error) = variant_row (choices_at rows (λ c. c) (ok ∷ error ∷ []))
kind_row rows (kind.Tuple vs) = record_row (rows_at rows (λ v. v) vs)
kind_row rows (kind.Record fs) = record_row (rows_at rows (λ f. f.ty) fs)
kind_row rows (kind.Variant cs) = variant_row (choices_at rows (λ c. c.ty) cs)
kind_row rows (kind.Enum names) = variant_row (choices_at rows (λ n. None) names)
kind_row rows (kind.Flags names) = row_of (flags_type (length names))

-- the row of a definition by the rows before it: of a function, that of the record of its parameters
abbrev pub definition_row : List Row → Definition → Row
definition_row rows (row.Type d) = kind_row rows d.kind
definition_row rows (row.Function f) = record_row (rows_at rows (λ p. p.ty) f.params)

-- the result's type, if there is one, is a primitive, string, or in a row before place n
abbrev pub result_below : ℕ → Definition → Bool
result_below n (row.Type d) = true
result_below n (row.Function f) = option_below n f.result

-- the flat kinds of a result, and no kinds without one
abbrev pub result_in : List Row → Option ValType → Kinds
result_in rows None = kinds_of []
result_in rows (Some v) = (row_in rows v).kinds

-- the flat kinds of a function's result, and no kinds of a type
abbrev pub definition_result : List Row → Definition → Kinds
definition_result rows (row.Type d) = kinds_of []
definition_result rows (row.Function f) = result_in rows f.result

-- the row of a number of so many bytes, carried by one core value of this type
abbrev pub number_row : ℕ → CoreKind → Row
number_row bytes k = record { depth = 1; size = bytes; align = bytes; kinds = kinds_of (k ∷ []) }

-- no bytes, aligned to one, and no kinds
abbrev pub empty_row : Row
empty_row = record { depth = 0; size = 0; align = 1; kinds = kinds_of [] }

-- the row of a record's fields so far, with one more at this place; its size is where the last one ends, and one above
-- the greatest size where that is more
abbrev pub row_with : Row → ℕ → Row → Row
row_with laid place r = record {
  depth = max laid.depth r.depth;
  size = min (place + r.size) (max_size + 1);
  align = max laid.align r.align;
  kinds = append_kinds laid.kinds r.kinds;
}

-- the row that has room for either of two payloads
abbrev pub joined_rows : Row → Row → Row
joined_rows a b = record {
  depth = max a.depth b.depth;
  size = max a.size b.size;
  align = max a.align b.align;
  kinds = join_kinds a.kinds b.kinds;
}

-- the row of a variant with a discriminant of so many bytes and a payload at this place, which the other row is of
abbrev pub tagged_row : ℕ → ℕ → Row → Row
tagged_row discriminant place r = record {
  depth = capped (r.depth + 1);
  size = next_multiple_of (place + r.size) (max discriminant r.align);
  align = max discriminant r.align;
  kinds = append_kinds (kinds_of (I32 ∷ [])) r.kinds;
}

-- fields of these rows lie one after the other at these offsets; where they are larger than the greatest size, the
-- offsets are of no use
pub record AreLaid (rows : List Row) (laid : Row) (offsets : List ℕ) : Type 0 where
  pub depth_is : laid.depth ≡ deepest rows
  pub depth_fits : laid.depth ≤ 65
  pub size_is : laid.size ≡ min (end_from 0 (extents rows)) (max_size + 1)
  pub align_is : laid.align ≡ greatest_align (extents rows)
  pub least : 1 ≤ laid.align
  pub most : laid.align ≤ 8
  pub kinds_is : laid.kinds ≡ fold (λ ks r. append_kinds ks r.kinds) (kinds_of []) rows
  pub fits : length (passed laid.kinds) ≤ 16
  pub offsets_are : laid.size ≤ max_size → offsets ≡ places_from 0 (extents rows)

-- the row has room for any payload of these rows, and is no larger
pub record AreJoined (rows : List Row) (joined : Row) : Type 0 where
  pub depth_is : joined.depth ≡ deepest rows
  pub depth_fits : joined.depth ≤ 65
  pub size_is : joined.size ≡ greatest_size (extents rows)
  pub size_fits : joined.size ≤ max_size
  pub align_is : joined.align ≡ greatest_align (extents rows)
  pub least : 1 ≤ joined.align
  pub most : joined.align ≤ 8
  pub kinds_is : joined.kinds ≡ fold (λ ks r. join_kinds ks r.kinds) (kinds_of []) rows

-- what is true of a row before its limits are tested
pub record IsKeptRow (r : Row) : Type 0 where
  pub depth : r.depth ≤ 65
  pub least_align : 1 ≤ r.align
  pub most_align : r.align ≤ 8
  pub fits : length (passed r.kinds) ≤ 16

-- the row is within the limits of depth and size
abbrev pub IsLimitedRow : Row → Type 0
IsLimitedRow r = (r.depth ≤ max_depth) × (r.size ≤ max_size)

-- the definition's row is within the limits; a function's parameters have no limit of depth
abbrev pub IsLimitedDefinition : Definition → Row → Type 0
IsLimitedDefinition (row.Type d) r = IsLimitedRow r
IsLimitedDefinition (row.Function f) r = r.size ≤ max_size

-- the refusal is true of a row whose depth may be at most `most`
abbrev pub RefusesDeeper : ℕ → LayoutError → Row → Type 0
RefusesDeeper most TooDeep r = most < r.depth
RefusesDeeper most TooLarge r = (r.depth ≤ most) × (max_size < r.size)
RefusesDeeper most NoMemory r = Unit {0}

-- the refusal is true of a type's row
abbrev pub RefusesRow : LayoutError → Row → Type 0
RefusesRow e r = RefusesDeeper max_depth e r

-- the refusal is true of the definition's row; a function is never too deep
abbrev pub RefusesDefinition : LayoutError → Definition → Row → Type 0
RefusesDefinition e (row.Type d) r = RefusesRow e r
RefusesDefinition TooLarge (row.Function f) r = max_size < r.size
RefusesDefinition NoMemory (row.Function f) r = Unit {0}
RefusesDefinition TooDeep (row.Function f) r = ⊥
