use Rattle.std.proofs.Common.{◌≡◌, ℕ, ◌-◌, ◌<◌, ◌^◌, ◌++◌, List, map, length, drop}
use Rattle.canonical_abi.specs.Values.{flags_value}
use Rattle.serde_json.specs.Data.{Data}
use Rattle.serde_json.specs.View.{view}
use Rattle.values.specs.Val.{value_of}
use Rattle.value_json.specs.Json.{FlagsJson}
use Rattle.value_json.proofs.writing.write_flags.Given as goal

abbrev pub invariant-loop-label : goal.invariant-loop-label
invariant-loop-label l =
    (l.rest < 2 ^ (length l.labels - l.label-index))
    × ((n : ℕ) → value_of l.value ≡ flags_value n
    → (js : List Data) → FlagsJson (drop l.label-index l.labels) l.rest js → FlagsJson l.labels n (map view l.items.items ++ js))
