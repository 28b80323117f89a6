-- The names of a tree make full names: those of its package by its type, and those of its interfaces where they are labels.
use Rattle.std.proofs.Common.{IsTrue, Option, None, Some, map, Global, refl}
use Rattle.std.specs.List.{list_all}
use Rattle.std.specs.Option.{option_map}
use Rattle.std.specs.String.{string_bytes}
use Rattle.std.specs.declared.string.String.{String}
use Rattle.atoms.specs.FullName.{is_version_or_none}
use Rattle.wit_tokens.specs.FullNames.{has_label, file_has_full_names}
use Rattle.wit_tokens.specs.View.{item_view, version_view, file_view}
use Rattle.wit_tokens.specs.declared.wit_syntax.ast.Ast.{Ast}

version-told : (v : Option (String Global)) → IsTrue (is_version_or_none (option_map string_bytes v)) → IsTrue (is_version_or_none (version_view v))
version-told None h = h
version-told (Some s) h = h

pub full-names : (a : Ast) → IsTrue (list_all has_label (map item_view a.items.items)) → IsTrue (file_has_full_names (file_view a))
full-names a labels = rw (a.namespace_is, a.name_is, version-told a.«package».version a.version_is, labels) refl
