-- The labelled types of a package as its names tell them: what the trees of its definitions are, where each name stands for the labelled type of its
-- definition. No row of a table and no id is in it.
use Rattle.std.specs.Prelude.{◌≡◌, List, [], ◌∷◌, ◌++◌, if◌then◌else◌}
use Rattle.canonical_abi.specs.Labelled.{Label, LabelledType, labelled_prim, labelled_string, labelled_list, labelled_option, labelled_tuple, labelled_result, labelled_record, labelled_variant, labelled_enum, labelled_flags, LabelledTypes, no_member, member, Payload, no_payload, payload, LabelledFields, no_labelled_field, labelled_field, LabelledCases, no_labelled_case, labelled_case}
use Rattle.tables.specs.Closed.{prim_of}
use Rattle.tables.specs.Labelled.{labelled_type}
use Rattle.tables.specs.Package.{Key, is_same_key, Tree, PrimTree, TextTree, Reference, ListTree, RecordTree, VariantTree, FlagsTree, AsTuple, AsEnum, AsOption, AsResult, TreeFields, no_fields, field, Choices, no_choices, empty, holding, Meaning, IsUse, IsType, IsFunction, NamedDefinition, HasDistinctTypes, interface_names, definitions, trees, read_val}
use Rattle.tables.specs.declared.tables.ValType.{ValType}
use Rattle.tables.specs.declared.tables.Resolve.{Resolve}

-- the labelled type of each name
abbrev pub LabelledNames : Type 0
LabelledNames = List (Key × LabelledType)

-- the labelled type under a name; an unknown name stands for a string
abbrev pub labelled_name : LabelledNames → Key → LabelledType
labelled_name [] n = labelled_string
labelled_name (e ∷ es) n = if is_same_key e.0 n then e.1 else labelled_name es n

-- the labels of cases
abbrev pub choice_labels : Choices → List Label
choice_labels no_choices = []
choice_labels (empty l cs) = l ∷ choice_labels cs
choice_labels (holding l t cs) = l ∷ choice_labels cs

abbrev mutual
  -- what a tree of names is with its labels: each name is what the names known so far say
  pub labelled_tree : LabelledNames → Tree → LabelledType
  labelled_tree names (PrimTree p) = labelled_prim (prim_of p)
  labelled_tree names TextTree = labelled_string
  labelled_tree names (Reference n) = labelled_name names n
  labelled_tree names (ListTree t) = labelled_list (labelled_tree names t)
  labelled_tree names (RecordTree AsTuple fs) = labelled_tuple (tree_members names fs)
  labelled_tree names (RecordTree _ fs) = labelled_record (tree_fields names fs)
  labelled_tree names (VariantTree AsEnum cs) = labelled_enum (choice_labels cs)
  labelled_tree names (VariantTree AsOption cs) = option_tree names cs
  labelled_tree names (VariantTree AsResult cs) = labelled_result (first_payload names cs) (second_payload names cs)
  labelled_tree names (VariantTree _ cs) = labelled_variant (tree_cases names cs)
  labelled_tree names (FlagsTree labels) = labelled_flags labels

  -- an option of the payload of its second case
  pub option_tree : LabelledNames → Choices → LabelledType
  option_tree names (empty l (holding m t cs)) = labelled_option (labelled_tree names t)
  option_tree names _ = labelled_string

  -- the payloads of a result's two cases
  pub first_payload : LabelledNames → Choices → Payload
  first_payload names (holding l t cs) = payload (labelled_tree names t)
  first_payload names _ = no_payload

  -- the second case has no payload where there is none
  pub second_payload : LabelledNames → Choices → Payload
  second_payload names (empty l cs) = first_payload names cs
  second_payload names (holding l t cs) = first_payload names cs
  second_payload names no_choices = no_payload

  -- the members of a tuple, whose fields have no labels
  pub tree_members : LabelledNames → TreeFields → LabelledTypes
  tree_members names no_fields = no_member
  tree_members names (field l t fs) = member (labelled_tree names t) (tree_members names fs)

  -- the fields of a record, in order
  pub tree_fields : LabelledNames → TreeFields → LabelledFields
  tree_fields names no_fields = no_labelled_field
  tree_fields names (field l t fs) = labelled_field l (labelled_tree names t) (tree_fields names fs)

  -- the cases of a variant, in order, with a payload or without
  pub tree_cases : LabelledNames → Choices → LabelledCases
  tree_cases names no_choices = no_labelled_case
  tree_cases names (empty l cs) = labelled_case l no_payload (tree_cases names cs)
  tree_cases names (holding l t cs) = labelled_case l (payload (labelled_tree names t)) (tree_cases names cs)

-- what a definition adds: a function adds no type
abbrev pub labelled_entry : LabelledNames → Key → Meaning → LabelledNames
labelled_entry names n (IsUse t) = (n, labelled_tree names t) ∷ []
labelled_entry names n (IsType t) = (n, labelled_tree names t) ∷ []
labelled_entry names n (IsFunction fs result) = []

-- the names after these definitions, each by those before it
abbrev pub labelled_names : LabelledNames → List NamedDefinition → LabelledNames
labelled_names names [] = names
labelled_names names (d ∷ ds) = labelled_names (names ++ labelled_entry names d.key d.meaning) ds

-- a type of the package, told by the names of the package alone, has its labelled type
abbrev pub IsLabelledByNames : Resolve → Type 0
IsLabelledByNames r = (v : ValType) → labelled_tree (labelled_names [] (definitions r)) (read_val (trees r) v) ≡ labelled_type r v

-- it has where no interface has two types of one name
abbrev pub LabelsAlike : Resolve → Type 0
LabelsAlike r = HasDistinctTypes (interface_names r) r.definitions [] → IsLabelledByNames r
