-- The canonical text of a package.
use Rattle.std.specs.Prelude.{ℕ, List}
use Rattle.tables.specs.declared.tables.Resolve.{Resolve}
use Rattle.wit_print.specs.Canonical.{canonical_text}
use Rattle.package_text.specs.Tree.{file_of}

-- the text of a table's own package: the canonical text of its tree
abbrev pub text_of : Resolve → List ℕ
text_of r = canonical_text (file_of r)
