-- The parts cut from a full name's text are the name's parts.
use Rattle.std.proofs.Common.{◌≡◌, ℕ, suc, eqb, false, List, [], ◌∷◌, ◌++◌, Option, None, Some, refl, ap, ◌∙◌, arith}
use Rattle.std.proofs.lemmas.Bool.{eq-eqb, ne_eqb}
use Rattle.std.proofs.lemmas.List.{append-nil}
use Rattle.atoms.specs.FullName.{NameParts, Lacks, IsName, IsFullName, name_text, package_text}
use Rattle.atoms.proofs.FullNamesHaveOneReading.{label_lacks, package_lacks}
use Rattle.ctype_format.specs.Names.{cut_at}
use Rattle.component_reader.specs.Component.{before, behind, second, namespace_in, text_behind_namespace, package_in, behind_package, interface_text, version_in, package_in_name}
use Rattle.component_reader.specs.Names.{package_parts}

module _ (mark : ℕ) where
  no-mark : (c : ℕ) (cs : List ℕ) → Lacks mark (c ∷ cs) → eqb c mark ≡ false
  no-mark c cs h = ne_eqb c mark (h 0 (omega arith))

  lacks-behind : (c : ℕ) (cs : List ℕ) → Lacks mark (c ∷ cs) → Lacks mark cs
  lacks-behind c cs h i below e = h (suc i) (omega arith) e

  cut-found : (front back : List ℕ) → Lacks mark front → cut_at mark (front ++ mark ∷ back) ≡ Some (front, back)
  cut-found [] back h = rw (eq-eqb mark mark refl) refl
  cut-found (c ∷ front) back h = rw (no-mark c front h, cut-found front back (lacks-behind c front h)) refl

  cut-none : (text : List ℕ) → Lacks mark text → cut_at mark text ≡ None
  cut-none [] h = refl
  cut-none (c ∷ text) h = rw (no-mark c text h, cut-none text (lacks-behind c text h)) refl

-- a name cut at its version's mark
name-cut : (text name : List ℕ) (version : Option (List ℕ)) → IsName text name version
    → (before text (cut_at 64 text) ≡ name) × (second (cut_at 64 text) ≡ version)
name-cut text name None h =
    let is : text ≡ name = h.spelt ∙ append-nil name in
    let cut : cut_at 64 text ≡ None = ap (cut_at 64) is ∙ cut-none 64 name (label_lacks 64 name refl h.label) in
    (ap (before text) cut ∙ is, ap second cut)
name-cut text name (Some version) h =
    let cut : cut_at 64 text ≡ Some (name, version) = ap (cut_at 64) h.spelt ∙ cut-found 64 name version (label_lacks 64 name refl h.label) in
    (ap (before text) cut, ap second cut)

pub parts-cut : (text : List ℕ) (parts : NameParts) → IsFullName text parts
    → (namespace_in text ≡ parts.namespace) × (package_in text ≡ parts.package_name) × (interface_text text ≡ parts.name) × (version_in text ≡ parts.version)
parts-cut text parts h =
    let spaced : cut_at 58 text ≡ Some (parts.namespace, package_text parts) =
    ap (cut_at 58) h.spelt ∙ cut-found 58 parts.namespace (package_text parts) (package_lacks 58 parts.namespace refl h.namespace) in
    let packaged : cut_at 47 (package_text parts) ≡ Some (parts.package_name, name_text parts) =
    cut-found 47 parts.package_name (name_text parts) (package_lacks 47 parts.package_name refl h.package_name) in
    let behind_space : text_behind_namespace text ≡ package_text parts = ap (behind text) spaced in
    let behind_named : behind_package text ≡ name_text parts =
    ap (λ (t : List ℕ). behind t (cut_at 47 t)) behind_space ∙ ap (behind (package_text parts)) packaged in
    let last = name-cut (name_text parts) parts.name parts.version h.name in (
      ap (before text) spaced,
      ap (λ (t : List ℕ). before t (cut_at 47 t)) behind_space ∙ ap (before (package_text parts)) packaged,
      ap (λ (t : List ℕ). before t (cut_at 64 t)) behind_named ∙ last.0,
      ap (λ (t : List ℕ). second (cut_at 64 t)) behind_named ∙ last.1,
    )

-- so is the name of its package
pub package-cut : (text : List ℕ) (parts : NameParts) → IsFullName text parts → package_in_name text ≡ package_parts parts
package-cut text parts h = let cut = parts-cut text parts h in λ j. record { namespace = cut.0 j; name = cut.1 j; version = cut.3 j }
