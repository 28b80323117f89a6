-- A text that was written of a value is read back as this value alone.
use Rattle.std.proofs.Common.{◌≡◌, List, ℕ, Some, sym, ◌∙◌, subst}
use Rattle.std.proofs.lemmas.Option.{same_Some}
use Rattle.canonical_abi.specs.Values.{Value}
use Rattle.serde_json.specs.Data.{Data}
use Rattle.serde_json.specs.Read.{read}
use Rattle.tables.specs.Labelled.{labelled_type}
use Rattle.tables.specs.declared.tables.Resolve.{Resolve}
use Rattle.tables.specs.declared.tables.ValType.{ValType}
use Rattle.value_json.specs.Json.{Json, HasOneValue, HasDistinctLabels}
use Rattle.package_values.specs.Json.{IsTextOfOnly}

pub read-back : (r : Resolve) (t : ValType) (text : List ℕ) (v : Value) (j : Data) → HasOneValue → HasDistinctLabels (labelled_type r t)
    → Json (labelled_type r t) v j → read text ≡ Some j → IsTextOfOnly r t text v
read-back r t text v j one apart stands reads =
    ((j, reads, stands), λ w. λ (k, also, says). one (labelled_type r t) w v j apart (subst (Json (labelled_type r t) w) (same_Some k j (sym also ∙ reads)) says) stands)
