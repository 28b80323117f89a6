-- WIT.md, "Types", and CanonicalABI.md, "Despecialization": the labels of a type at their places, whatever the type is spelled as.
use Rattle.std.specs.Prelude.{ℕ, ◌==◌, Bool, true, false, ◌&&◌, ◌||◌, not, List, [], ◌∷◌}
use Rattle.std.specs.List.{list_any}
use Rattle.std.specs.Str.{bytes_eq}
use Rattle.canonical_abi.specs.Types.{Prim}
use Rattle.canonical_abi.specs.Labelled.{Label, none_label, some_label, ok_label, error_label, LabelledType, labelled_prim, labelled_string, labelled_list, labelled_option, labelled_tuple, labelled_result, labelled_record, labelled_variant, labelled_enum, labelled_flags, LabelledTypes, no_member, member, Payload, no_payload, payload, LabelledFields, no_labelled_field, labelled_field, LabelledCases, no_labelled_case, labelled_case}
use Rattle.package_changes.specs.declared.type_nodes.Family.{Family}
use Rattle.package_changes.specs.declared.type_nodes.Family.TheVariants as families
use Rattle.package_changes.specs.declared.type_nodes.Spelling.{Spelling}
use Rattle.package_changes.specs.declared.type_nodes.Spelling.TheVariants as spelled

-- a tuple is a record, and an option, a result and an enum are variants
abbrev pub family : Spelling → Family
family spelled.List = families.List
family spelled.Option = families.Variant
family spelled.Tuple = families.Record
family spelled.Result = families.Variant
family spelled.Record = families.Record
family spelled.Variant = families.Variant
family spelled.Enum = families.Variant
family spelled.Flags = families.Flags

-- a number for each of them
abbrev pub family_code : Family → ℕ
family_code families.List = 0
family_code families.Record = 1
family_code families.Variant = 2
family_code families.Flags = 3

abbrev pub is_one_family : Spelling → Spelling → Bool
is_one_family j k = family_code (family j) == family_code (family k)

mutual
  -- a type by its parts: what it is spelled as, its labels in order, and the types in it in order
  pub data Form : Type 0 where
    prim_form : Prim → Form
    string_form : Form
    node_form : Spelling → List Label → Parts → Form

  -- the types in a type, in order; a case without a payload is bare
  pub data Parts : Type 0 where
    no_part : Parts
    bare : Parts → Parts
    part : Form → Parts → Parts

-- the labels of a record's fields, in order
abbrev pub field_labels : LabelledFields → List Label
field_labels no_labelled_field = []
field_labels (labelled_field l t fs) = l ∷ field_labels fs

-- the labels of a variant's cases, in order
abbrev pub case_labels : LabelledCases → List Label
case_labels no_labelled_case = []
case_labels (labelled_case l p cs) = l ∷ case_labels cs

-- as many bare cases as there are labels
abbrev pub bare_parts : List Label → Parts
bare_parts [] = no_part
bare_parts (l ∷ ls) = bare (bare_parts ls)

abbrev mutual
  -- a labelled type by its parts; a list and a tuple have no labels
  pub form_of : LabelledType → Form
  form_of (labelled_prim p) = prim_form p
  form_of labelled_string = string_form
  form_of (labelled_list t) = node_form spelled.List [] (part (form_of t) no_part)
  form_of (labelled_option t) = node_form spelled.Option (none_label ∷ some_label ∷ []) (bare (part (form_of t) no_part))
  form_of (labelled_tuple ts) = node_form spelled.Tuple [] (member_parts ts)
  form_of (labelled_result ok error) = node_form spelled.Result (ok_label ∷ error_label ∷ []) (payload_part ok (payload_part error no_part))
  form_of (labelled_record fs) = node_form spelled.Record (field_labels fs) (field_parts fs)
  form_of (labelled_variant cs) = node_form spelled.Variant (case_labels cs) (case_parts cs)
  form_of (labelled_enum ls) = node_form spelled.Enum ls (bare_parts ls)
  form_of (labelled_flags ls) = node_form spelled.Flags ls no_part

  -- the members of a tuple
  pub member_parts : LabelledTypes → Parts
  member_parts no_member = no_part
  member_parts (member t ts) = part (form_of t) (member_parts ts)

  -- a payload, or a bare case, before these
  pub payload_part : Payload → Parts → Parts
  payload_part no_payload ps = bare ps
  payload_part (payload t) ps = part (form_of t) ps

  -- the types of a record's fields
  pub field_parts : LabelledFields → Parts
  field_parts no_labelled_field = no_part
  field_parts (labelled_field l t fs) = part (form_of t) (field_parts fs)

  -- the payloads of a variant's cases
  pub case_parts : LabelledCases → Parts
  case_parts no_labelled_case = no_part
  case_parts (labelled_case l p cs) = payload_part p (case_parts cs)

-- the label is one of these
abbrev pub has_label : Label → List Label → Bool
has_label l ms = list_any (bytes_eq l) ms

-- the label is the first of these
abbrev pub is_first : Label → List Label → Bool
is_first l [] = false
is_first l (m ∷ ms) = bytes_eq l m

-- all but the first of these
abbrev pub behind_first : List Label → List Label
behind_first [] = []
behind_first (m ∷ ms) = ms

-- one of the older labels ls is not at its place in ms, and is one of all
abbrev pub label_moves : List Label → List Label → List Label → Bool
label_moves all [] ms = false
label_moves all (l ∷ ls) ms = (not (is_first l ms) && has_label l all) || label_moves all ls (behind_first ms)

-- one of the older labels ls is not at its place in ms
abbrev pub label_goes : List Label → List Label → Bool
label_goes [] ms = false
label_goes (l ∷ ls) ms = not (is_first l ms) || label_goes ls (behind_first ms)

abbrev mutual
  -- in the type, or in one that is at the same place in both, an older label is at another place
  pub moves : Form → Form → Bool
  moves (node_form j ls ps) (node_form k ms qs) = is_one_family j k && (label_moves ms ls ms || part_moves ps qs)
  moves _ _ = false

  -- the same of one of the types in both
  pub part_moves : Parts → Parts → Bool
  part_moves (bare ps) (bare qs) = part_moves ps qs
  part_moves (bare ps) (part b qs) = part_moves ps qs
  part_moves (part a ps) (bare qs) = part_moves ps qs
  part_moves (part a ps) (part b qs) = moves a b || part_moves ps qs
  part_moves _ _ = false

abbrev mutual
  -- in the type, or in one that is at the same place in both, an older label is not where it was
  pub renames : Form → Form → Bool
  renames (node_form j ls ps) (node_form k ms qs) = is_one_family j k && (label_goes ls ms || part_renames ps qs)
  renames _ _ = false

  -- the same of one of the types in both
  pub part_renames : Parts → Parts → Bool
  part_renames (bare ps) (bare qs) = part_renames ps qs
  part_renames (bare ps) (part b qs) = part_renames ps qs
  part_renames (part a ps) (bare qs) = part_renames ps qs
  part_renames (part a ps) (part b qs) = renames a b || part_renames ps qs
  part_renames _ _ = false
