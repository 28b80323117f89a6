-- What a command line asks for, by its command's name and the words that `clap` found for it.
use Rattle.std.specs.Prelude.{◌≡◌, ◌⊎◌, ℕ, true, List, Option, Some, None, is_some, codes, string_bytes}
use Rattle.clap.specs.Simple.{subcommand_of}
use Rattle.clap.specs.Takes.{takes}
use Rattle.clap.specs.Walk.{Row, first_of}
use Rattle.words.specs.Earlier.{texts_of}
use Rattle.words.specs.Reader.{program_app}
use Rattle.words.specs.declared.asked.Job.{Job}
use Rattle.words.specs.declared.asked.Job.TheVariants.{Show, Bin, Text, Layout}
use Rattle.words.specs.declared.asked.Command.{Command}
use Rattle.words.specs.declared.asked.Command.TheVariants.{Convert, Call}

-- the text is the word of this name
abbrev pub IsWord : List Row → List ℕ → List ℕ → Type 0
IsWord rows id text = first_of id rows ≡ Some text

-- the name of a command that reads one package and prints it
abbrev pub job_name : Job → List ℕ
job_name Show = codes "show"
job_name Bin = codes "bin"
job_name Text = codes "text"
job_name Layout = codes "layout"

-- the command of this name, each of its parts the word of its own name
abbrev pub IsAsked : List ℕ → List Row → Command → Type 0
IsAsked name rows (Convert job earlier file) = (name ≡ job_name job) × IsWord rows (codes "file") (string_bytes file)
IsAsked name rows (Call earlier file interface function arguments reply) =
    (name ≡ codes "call") × IsWord rows (codes "file") (string_bytes file)
    × IsWord rows (codes "interface") (string_bytes interface) × IsWord rows (codes "function") (string_bytes function)
    × IsWord rows (codes "arguments") (string_bytes arguments) × IsWord rows (codes "reply") (string_bytes reply)

-- a word of this name was found
abbrev pub HasWord : List Row → List ℕ → Type 0
HasWord rows id = is_some (first_of id rows) ≡ true

-- this is the name of a command, all of whose words were found
abbrev pub IsCommand : List ℕ → List Row → Type 0
IsCommand name rows =
    ((job : Job) × (name ≡ job_name job) × HasWord rows (codes "file"))
    ⊎ ((name ≡ codes "call") × HasWord rows (codes "file") × HasWord rows (codes "interface") × HasWord rows (codes "function")
    × HasWord rows (codes "arguments") × HasWord rows (codes "reply"))

-- what `clap` found is this command
abbrev pub IsAskedBy : Option (List ℕ × List Row) → Command → Type 0
IsAskedBy None asked = ⊥
IsAskedBy (Some found) asked = IsAsked found.0 found.1 asked

-- what `clap` found is a command
abbrev pub NamesCommand : Option (List ℕ × List Row) → Type 0
NamesCommand None = ⊥
NamesCommand (Some found) = IsCommand found.0 found.1

-- `clap` takes the words, and finds a command in them
abbrev pub AreTaken : List (List ℕ) → Type 0
AreTaken words = (takes program_app words ≡ true) × NamesCommand (subcommand_of program_app words)

-- the files of the packages that the last one may use
abbrev pub earlier_of : Command → List (List ℕ)
earlier_of (Convert job earlier file) = texts_of earlier.items
earlier_of (Call earlier file interface function arguments reply) = texts_of earlier.items
