-- Full names among the names of exports.
use Rattle.std.proofs.Common.{◌≡◌, ℕ, Bool, true, false, List, IsTrue, refl, ap, sym, ◌∙◌, subst}
use Rattle.atoms.specs.Label.{is_label, IsLabel}
use Rattle.atoms.specs.FullName.{NameParts, IsFullName, is_package_label, full_name_text, package_text}
use Rattle.atoms.specs.FullNameView.{name_parts_of}
use Rattle.atoms.specs.declared.full_name.FullName.{FullName}
use Rattle.atoms.proofs.FullNamesHaveOneReading.{label_lacks, has_mark}
use Rattle.tables.proofs.ClosedTypesRowByRow.{split}

-- a full name has a mark that no label has
pub no-label : (parts : NameParts) → is_label (full_name_text parts) ≡ false
no-label parts = by (is_label (full_name_text parts)) refl
  where
    by : (b : Bool) → is_label (full_name_text parts) ≡ b → b ≡ false
    by false is = refl
    by true is = absurd (has_mark 58 parts.namespace (package_text parts) (label_lacks 58 (full_name_text parts) refl is))

full-named : (name : FullName) → IsLabel name.name → IsFullName (full_name_text (name_parts_of name)) (name_parts_of name)
full-named name label = record {
  spelt = refl;
  namespace = name.namespace_is;
  package_name = name.package_is;
  name = record { spelt = refl; label = label; reads = name.version_is };
}

pub name-of-parts : (text : List ℕ) (name : FullName) (parts : NameParts) → text ≡ full_name_text (name_parts_of name) → IsLabel name.name → parts ≡ name_parts_of name
    → (is_label text ≡ false) × IsFullName text parts
name-of-parts text name parts is label same = (
  ap is_label is ∙ no-label (name_parts_of name),
  subst (IsFullName text) (sym same) (subst (λ (t : List ℕ). IsFullName t (name_parts_of name)) (sym is) (full-named name label)),
)

pub package-label : (text : List ℕ) → IsTrue (is_package_label text) → IsLabel text
unfolding is_package_label
package-label text h = (split (is_label text) _ h).0
