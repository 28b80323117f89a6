-- The numbers of JSON that is refused (docs/ERRORS.md).
use Rattle.std.specs.Prelude.{ℕ}
use Rattle.package_values.specs.declared.json.JsonError.{JsonError}
use Rattle.package_values.specs.declared.json.JsonError.TheVariants as error

-- the number of the line that says why a text says no value
abbrev pub json_number : JsonError → ℕ
json_number error.BadJson = 61
json_number error.NotThisType = 62
json_number error.NoMemory = 66
