-- What `clap` is told of the program's words: five commands, each with words that must be there, and no help.
use Rattle.std.specs.Prelude.{ℕ, true, false, List, [], ◌∷◌, map, codes, Some}
use Rattle.clap.specs.Simple.{App, Shape, new_rule, new_shape}
use Rattle.clap.specs.Walk.{Rule}
use Rattle.clap.specs.declared.builder.action.ArgAction.TheVariants.{Set}

-- a word of this name that must be there
abbrev pub required : List ℕ → Rule
required id = record (new_rule id) { action = Some Set; required = true }

-- a command of this name with these words, all of which must be there
abbrev pub with_words : List ℕ → List (List ℕ) → Shape
with_words name ids = record (new_shape name) { rules = map required ids; disable_help_flag = true }

-- a command of this name that takes one word, a file
abbrev pub file_command : List ℕ → Shape
file_command name = with_words name (codes "file" ∷ [])

-- the command `call`, with its five words
abbrev pub call_command : Shape
call_command = with_words (codes "call") (codes "file" ∷ codes "interface" ∷ codes "function" ∷ codes "arguments" ∷ codes "reply" ∷ [])

-- the five commands of the program, one of which must be given
abbrev pub program_app : App
program_app = record {
  top = record (new_shape (codes "witcall")) { is_leaf = false; disable_help_flag = true; disable_help_subcommand = true; subcommand_required = true };
  subs = file_command (codes "show") ∷ file_command (codes "bin") ∷ file_command (codes "text") ∷ file_command (codes "layout") ∷ call_command ∷ [];
}
