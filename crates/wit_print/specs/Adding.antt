-- What a writer puts behind a text.
use Rattle.std.specs.Prelude.{◌≡◌, List, [], ◌++◌}
use Rattle.std.specs.declared.alloc.Global.{Global}
use Rattle.std.specs.declared.string.String.{String}
use Rattle.std.specs.String.{string_bytes}
use Rattle.wit_print.specs.Words.{Word, words_text}

-- the text grew by just these words
pub record AddsWords (ws : List Word) (old new : String Global) : Type 0 where
  pub bytes : string_bytes new ≡ string_bytes old ++ words_text ws []
