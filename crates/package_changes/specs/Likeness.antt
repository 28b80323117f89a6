-- How alike two labelled types are, as tests: of their labels, of their closed types, and of what an older host knows.
use Rattle.std.specs.Prelude.{Bool, true, false, ◌&&◌, ◌||◌, ◌==◌, ℕ, nat_le, List, [], ◌∷◌}
use Rattle.canonical_abi.specs.Types.{Prim, boolean, unsigned, signed, scalar_value, int8, int16, int32, int64, ClosedType, prim_type, string_type, list_type, record_type, variant_type, flags_type, Fields, no_field, field, Cases, no_case, plain_case, case_with, case_count}
use Rattle.canonical_abi.specs.Layout.{size, align, field_kinds, flags_size, discriminant_size}
use Rattle.canonical_abi.specs.Labelled.{Label, LabelledType, closed}
use Rattle.canonical_abi.specs.declared.flat.CoreKind.{CoreKind}
use Rattle.canonical_abi.specs.declared.flat.CoreKind.TheVariants.{I32, I64}
use Rattle.layout.specs.Kinds.{kinds_of}
use Rattle.layout.specs.declared.kinds.Kinds.{Kinds}
use Rattle.layout.specs.declared.kinds.Kinds.TheVariants.{Flat, Spilled}
use Rattle.package_changes.specs.declared.likeness.Likeness.{Likeness}
use Rattle.package_changes.specs.declared.type_nodes.Spelling.{Spelling}
use Rattle.package_changes.specs.declared.type_nodes.Spelling.TheVariants as spelled
use Rattle.package_changes.specs.Forms.{Form, prim_form, string_form, node_form, Parts, no_part, bare, part, form_of, is_first, behind_first, moves, renames}

-- a number for each primitive
abbrev pub prim_code : Prim → ℕ
prim_code boolean = 0
prim_code (signed int8) = 1
prim_code (unsigned int8) = 2
prim_code (signed int16) = 3
prim_code (unsigned int16) = 4
prim_code (signed int32) = 5
prim_code (unsigned int32) = 6
prim_code (signed int64) = 7
prim_code (unsigned int64) = 8
prim_code scalar_value = 9

abbrev pub is_same_prim : Prim → Prim → Bool
is_same_prim p q = prim_code p == prim_code q

-- a number for each way to spell a type
abbrev pub spelling_code : Spelling → ℕ
spelling_code spelled.List = 0
spelling_code spelled.Option = 1
spelling_code spelled.Tuple = 2
spelling_code spelled.Result = 3
spelling_code spelled.Record = 4
spelling_code spelled.Variant = 5
spelling_code spelled.Enum = 6
spelling_code spelled.Flags = 7

abbrev pub is_same_spelling : Spelling → Spelling → Bool
is_same_spelling j k = spelling_code j == spelling_code k

abbrev pub are_same_labels : List Label → List Label → Bool
are_same_labels [] [] = true
are_same_labels [] (m ∷ ms) = false
are_same_labels (l ∷ ls) ms = is_first l ms && are_same_labels ls (behind_first ms)

abbrev mutual
  pub is_same_form : Form → Form → Bool
  is_same_form (prim_form p) (prim_form q) = is_same_prim p q
  is_same_form string_form string_form = true
  is_same_form (node_form j ls ps) (node_form k ms qs) = is_same_spelling j k && (are_same_labels ls ms && are_same_parts ps qs)
  is_same_form _ _ = false

  pub are_same_parts : Parts → Parts → Bool
  are_same_parts no_part no_part = true
  are_same_parts (bare ps) (bare qs) = are_same_parts ps qs
  are_same_parts (part a ps) (part b qs) = is_same_form a b && are_same_parts ps qs
  are_same_parts _ _ = false

abbrev mutual
  pub is_same_type : ClosedType → ClosedType → Bool
  is_same_type (prim_type p) (prim_type q) = is_same_prim p q
  is_same_type string_type string_type = true
  is_same_type (list_type t) (list_type u) = is_same_type t u
  is_same_type (record_type fs) (record_type gs) = are_same_fields fs gs
  is_same_type (variant_type cs) (variant_type ds) = are_same_cases cs ds
  is_same_type (flags_type m) (flags_type n) = m == n
  is_same_type _ _ = false

  pub are_same_fields : Fields → Fields → Bool
  are_same_fields no_field no_field = true
  are_same_fields (field t fs) (field u gs) = is_same_type t u && are_same_fields fs gs
  are_same_fields _ _ = false

  pub are_same_cases : Cases → Cases → Bool
  are_same_cases no_case no_case = true
  are_same_cases (plain_case cs) (plain_case ds) = are_same_cases cs ds
  are_same_cases (case_with t cs) (case_with u ds) = is_same_type t u && are_same_cases cs ds
  are_same_cases _ _ = false

abbrev pub is_same_kind : CoreKind → CoreKind → Bool
is_same_kind I32 I32 = true
is_same_kind I64 I64 = true
is_same_kind _ _ = false

abbrev pub are_same_kinds : List CoreKind → List CoreKind → Bool
are_same_kinds [] [] = true
are_same_kinds (j ∷ js) (k ∷ ks) = is_same_kind j k && are_same_kinds js ks
are_same_kinds _ _ = false

abbrev pub are_same_carriers : Kinds → Kinds → Bool
are_same_carriers (Flat js) (Flat ks) = are_same_kinds js.items ks.items
are_same_carriers Spilled Spilled = true
are_same_carriers _ _ = false

abbrev pub have_one_layout : ClosedType → ClosedType → Bool
have_one_layout t u =
    (size t == size u) && ((align t == align u) && are_same_carriers (kinds_of (field_kinds (field t no_field))) (kinds_of (field_kinds (field u no_field))))

abbrev mutual
  pub widens : ClosedType → ClosedType → Bool
  widens (prim_type p) (prim_type q) = is_same_prim p q
  widens string_type string_type = true
  widens (list_type t) (list_type u) = widens t u
  widens (record_type fs) (record_type gs) = fields_widen fs gs
  widens (variant_type cs) (variant_type ds) =
      have_one_layout (variant_type cs) (variant_type ds) && ((discriminant_size (case_count cs) == discriminant_size (case_count ds)) && cases_widen cs ds)
  widens (flags_type m) (flags_type n) = nat_le m n && (flags_size m == flags_size n)
  widens _ _ = false

  pub fields_widen : Fields → Fields → Bool
  fields_widen no_field no_field = true
  fields_widen (field t fs) (field u gs) = widens t u && fields_widen fs gs
  fields_widen _ _ = false

  pub cases_widen : Cases → Cases → Bool
  cases_widen no_case ds = true
  cases_widen (plain_case cs) (plain_case ds) = cases_widen cs ds
  cases_widen (case_with t cs) (case_with u ds) = widens t u && cases_widen cs ds
  cases_widen _ _ = false

-- how alike an older and a newer type are
unfoldable pub likeness : LabelledType → LabelledType → Likeness
likeness t u = record {
  same = is_same_form (form_of t) (form_of u);
  equal = is_same_type (closed t) (closed u);
  wider = widens (closed t) (closed u);
  moved = moves (form_of t) (form_of u);
  renamed = renames (form_of t) (form_of u);
}
