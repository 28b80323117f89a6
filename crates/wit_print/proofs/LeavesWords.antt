-- What is left to be put behind a text.
use Rattle.std.proofs.Common.{◌≡◌, List, [], ◌++◌}
use Rattle.std.specs.declared.alloc.Global.{Global}
use Rattle.std.specs.declared.string.String.{String}
use Rattle.std.specs.String.{string_bytes}
use Rattle.wit_print.specs.Words.{Word, words_text}

-- once the text grows by the rest it has grown by the whole
pub record LeavesWords (whole rest : List Word) (old new : String Global) : Type 0 where
  pub bytes : string_bytes old ++ words_text whole [] ≡ string_bytes new ++ words_text rest []
