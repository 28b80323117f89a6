-- What holds of canonical text.
use Rattle.std.specs.Prelude.{◌≡◌, ◌≤◌, length}
use Rattle.wit_tokens.specs.Syntax.{File}
use Rattle.wit_tokens.specs.Lexing.{limit}
use Rattle.wit_text.specs.Reading.{IsRead}
use Rattle.wit_print.specs.Canonical.{canonical_text}
use Rattle.wit_print.specs.Printable.{IsPrintable}
use Rattle.wit_print.specs.Unplaced.{unplaced}

-- the text is read as this file, but for where its items stand
abbrev pub IsReadBack : File → Type 0
IsReadBack f = IsPrintable f → length (canonical_text f) ≤ limit → (g : File) × IsRead (canonical_text f) g × (unplaced g ≡ unplaced f)
