-- The texts of files.
use Rattle.std.specs.Prelude.{ℕ, List, [], slice_get}
use Rattle.std.specs.Option.{option_map_or}
use Rattle.wit_names.specs.declared.file.File.{File}

-- the text of a file of a set, by its number: nothing if there is no such file
abbrev pub text_of : List File → ℕ → List ℕ
text_of fs number = option_map_or (λ (f : File). f.text.now) (slice_get fs number) []
