-- Texts of JSON, and the values of a package's types that they say.
use Rattle.std.specs.Prelude.{◌≡◌, ℕ, List, Some, None}
use Rattle.canonical_abi.specs.Values.{Value}
use Rattle.tables.specs.Labelled.{labelled_type, labelled_types, labelled_members}
use Rattle.tables.specs.declared.tables.Resolve.{Resolve}
use Rattle.tables.specs.declared.tables.ValType.{ValType}
use Rattle.value_json.specs.Json.{Json, HasMembers, HasNone}
use Rattle.serde_json.specs.Data.{Data}
use Rattle.serde_json.specs.Read.{read}
use Rattle.serde_json.specs.Written.{compact_text}
use Rattle.package_values.specs.declared.json.JsonError.{JsonError}
use Rattle.package_values.specs.declared.json.JsonError.TheVariants as error

module _ (r : Resolve) where
  -- the text is JSON for this value of the type
  abbrev pub IsTextOf : ValType → List ℕ → Value → Type 0
  IsTextOf t text v = (j : Data) × (read text ≡ Some j) × Json (labelled_type r t) v j

  -- the text is JSON, and it stands for no value of the type
  abbrev pub IsTextOfNone : ValType → List ℕ → Type 0
  IsTextOfNone t text = (j : Data) × (read text ≡ Some j) × HasNone (labelled_type r t) j

  -- the text is JSON for this value of the type, and for no other
  abbrev pub IsTextOfOnly : ValType → List ℕ → Value → Type 0
  IsTextOfOnly t text v = IsTextOf t text v × ((w : Value) → IsTextOf t text w → w ≡ v)

  -- the text is the compact JSON of this value of the type
  abbrev pub IsCompactTextOf : ValType → Value → List ℕ → Type 0
  IsCompactTextOf t v text = (j : Data) × Json (labelled_type r t) v j × (text ≡ compact_text j)

  -- the JSON value is an array that stands for these values, each of its type
  abbrev pub JsonArray : List ValType → List Value → Data → Type 0
  JsonArray ts vs j = HasMembers (labelled_members (labelled_types r) ts) vs j

  -- the text is JSON for these values
  abbrev pub IsArrayTextOf : List ValType → List ℕ → List Value → Type 0
  IsArrayTextOf ts text vs = (j : Data) × (read text ≡ Some j) × JsonArray ts vs j

  -- the text is JSON, and it stands for no values of the types
  abbrev pub IsArrayTextOfNone : List ValType → List ℕ → Type 0
  IsArrayTextOfNone ts text = (j : Data) × (read text ≡ Some j) × ((vs : List Value) → JsonArray ts vs j → ⊥)

  -- why a text is refused where it is to be JSON for values of these types
  abbrev pub RefusesArray : List ValType → List ℕ → JsonError → Type 0
  RefusesArray ts text error.BadJson = read text ≡ None
  RefusesArray ts text error.NotThisType = IsArrayTextOfNone ts text
  RefusesArray ts text error.NoMemory = Unit {0}
