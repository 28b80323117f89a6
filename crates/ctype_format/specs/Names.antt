-- Names of imports and exports, as texts.
use Rattle.std.specs.Prelude.{ℕ, Bool, false, ◌&&◌, ◌||◌, ◌==◌, List, [], ◌∷◌, Option, Some, None, if◌then◌else◌}
use Rattle.std.specs.Str.{is_utf8}
use Rattle.atoms.specs.Label.{is_label}
use Rattle.atoms.specs.FullName.{is_package_label, is_version, full_name_text}
use Rattle.atoms.specs.FullNameView.{name_parts_of}
use Rattle.ctype_format.specs.declared.name.ExternName.{ExternName}
use Rattle.ctype_format.specs.declared.name.ExternName.TheVariants as ext

-- the text before a mark with one more byte at its front
abbrev pub behind_first : ℕ → Option (List ℕ × List ℕ) → Option (List ℕ × List ℕ)
behind_first c None = None
behind_first c (Some x) = Some (c ∷ x.0, x.1)

-- the text before the first such mark and the text after it; none if it has no such mark
abbrev pub cut_at : ℕ → List ℕ → Option (List ℕ × List ℕ)
cut_at mark [] = None
cut_at mark (c ∷ cs) = if c == mark then Some ([], cs) else behind_first c (cut_at mark cs)

-- a label, or a label and a version with `@` between them
abbrev pub is_versioned : List ℕ → Option (List ℕ × List ℕ) → Bool
is_versioned text None = is_label text
is_versioned text (Some x) = is_label x.0 && is_version x.1

-- the text is a label, perhaps with `@` and a version after it
abbrev pub is_versioned_name : List ℕ → Bool
is_versioned_name text = is_versioned text (cut_at 64 text)

-- the text before `/` is a package's name, and after it comes a label, perhaps with a version
abbrev pub is_packaged : Option (List ℕ × List ℕ) → Bool
is_packaged None = false
is_packaged (Some x) = is_package_label x.0 && is_versioned_name x.1

-- the text before `:` is a namespace, and after it come a package's name, `/` and a label
abbrev pub is_spaced : Option (List ℕ × List ℕ) → Bool
is_spaced None = false
is_spaced (Some x) = is_package_label x.0 && is_packaged (cut_at 47 x.1)

-- a full name: `namespace:package/name`, and perhaps `@version`
unfoldable pub is_full_name : List ℕ → Bool
is_full_name text = is_spaced (cut_at 58 text)

-- the name of an import or an export: a label, or a full name in UTF-8
unfoldable pub is_extern_name : List ℕ → Bool
is_extern_name text = is_label text || (is_utf8 text && is_full_name text)

-- the bytes of the name of an import or an export
abbrev pub name_view : ExternName → List ℕ
name_view (ext.Label l) = l
name_view (ext.FullName n) = full_name_text (name_parts_of n.value)
