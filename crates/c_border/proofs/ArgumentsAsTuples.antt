-- Arguments stand in JSON as a tuple of their types does, so what is written of them is read back as them alone.
use Rattle.std.proofs.Common.{◌≡◌, ◌≤◌, ℕ, false, List, [], ◌∷◌, Some, refl, sym, ap, ◌∙◌, subst, arith}
use Rattle.std.proofs.lemmas.Option.{same_Some}
use Rattle.canonical_abi.specs.Labelled.{LabelledTypes, labelled_tuple, closed_members}
use Rattle.canonical_abi.specs.Types.{field, fields_depth}
use Rattle.canonical_abi.specs.Values.{Value, record_value, values_of}
use Rattle.package_values.specs.Json.{IsArrayTextOf, JsonArray}
use Rattle.serde_json.specs.Data as json
use Rattle.serde_json.specs.Data.{Data}
use Rattle.serde_json.specs.Read.{read, max_depth}
use Rattle.serde_json.specs.Written.{has_float}
use Rattle.tables.proofs.ErasesToClosed.{erases}
use Rattle.tables.specs.Closed.{closed_type}
use Rattle.tables.specs.Labelled.{labelled_members, labelled_type, labelled_types}
use Rattle.tables.specs.declared.tables.Resolve.{Resolve}
use Rattle.tables.specs.declared.tables.ValType.{ValType}
use Rattle.value_json.specs.Json.{Json, HasDistinctLabels, HasOneValue, MembersHaveDistinctLabels}
use Rattle.value_json.proofs.JsonHasNoFloats.{json-whole}
use Rattle.value_json.proofs.JsonNestingDepth.{json-depth}
use Rattle.values.proofs.ValuesOfTypesByShape.{values_of-same}
use Rattle.values.specs.Members.{fields_of_types}

module _ (r : Resolve) where
  -- the members of a tuple of these types
  abbrev members : List ValType → LabelledTypes
  members ts = labelled_members (labelled_types r) ts

  pub members-closed : (ts : List ValType) → closed_members (members ts) ≡ fields_of_types r ts
  members-closed [] = refl
  members-closed (t ∷ ts) = ap (λ u. field u (closed_members (members ts))) (erases r t) ∙ ap (field (closed_type r t)) (members-closed ts)

  members-apart : ((ty : ValType) → HasDistinctLabels (labelled_type r ty)) → (ts : List ValType) → MembersHaveDistinctLabels (members ts)
  members-apart apart [] = tt
  members-apart apart (t ∷ ts) = (apart t, members-apart apart ts)

  module _ (ts : List ValType) where
    as-tuple : (vs : List Value) (j : Data) → JsonArray r ts vs j → Json (labelled_tuple (members ts)) (record_value (values_of vs)) j
    as-tuple vs j (js, each, is) = (vs, js, each, refl, is)

    pub array-whole : (vs : List Value) (j : Data) → JsonArray r ts vs j → has_float j ≡ false
    array-whole vs j array = json-whole (labelled_tuple (members ts)) (record_value (values_of vs)) j (as-tuple vs j array)

    pub array-nests : (vs : List Value) (j : Data) → JsonArray r ts vs j → fields_depth (fields_of_types r ts) ≤ 64 → json.depth j ≤ max_depth
    array-nests vs j array few =
        let below = json-depth (labelled_tuple (members ts)) (record_value (values_of vs)) j (as-tuple vs j array) in
        let same = ap fields_depth (members-closed ts) in
        omega (arith, below, same, few)

    same-record : (vs ws : List Value) → record_value (values_of ws) ≡ record_value (values_of vs) → ws ≡ vs
    same-record vs ws e = let same : values_of ws ≡ values_of vs = cc in values_of-same ws vs same

    pub array-only : (vs : List Value) (j : Data) (text : List ℕ) → HasOneValue → ((ty : ValType) → HasDistinctLabels (labelled_type r ty)) → JsonArray r ts vs j → read text ≡ Some j
        → IsArrayTextOf r ts text vs × ((ws : List Value) → IsArrayTextOf r ts text ws → ws ≡ vs)
    array-only vs j text one apart array reads = (
      (j, reads, array),
      λ ws. λ (k, also, says). same-record vs ws (one (labelled_tuple (members ts)) (record_value (values_of ws)) (record_value (values_of vs)) j (members-apart apart ts)
          (as-tuple ws j (subst (JsonArray r ts ws) (same_Some k j (sym also ∙ reads)) says)) (as-tuple vs j array)),
    )
