use Rattle.std.proofs.Common.{◌≡◌, ap, sym, ◌∙◌}
use Rattle.std.specs.Prelude.{Decides}
use Rattle.atoms.specs.FullName.{NameParts}
use Rattle.wit_component.proofs.SameDeclarations.{same-parts, same-versions, same-texts, same-bytes}
use Rattle.wit_component.proofs.same_declarations.is_same_full_name.Goals as goal
use Rattle.wit_component.proofs.same_declarations.is_same_full_name.Goals.{then-eq, else-eq, then-is_same, else-is_same}

pub returns-then-is_same-2 : goal.returns-then-is_same-2
returns-then-is_same-2 c =
    let some = c.args.some.now in
    let other = c.args.other.now in
    let named : Decides c.eq.result (some.name ≡ other.name) = same-bytes _ _ _ _ _ c.as_bytes.ensures.is c.as_bytes-2.ensures.is c.eq.ensures in
    let packaged : Decides c.if-eq.value ((some.name ≡ other.name) × (some.«package» ≡ other.«package»)) =
    elim c.if-eq.branch [
      | then-eq w ↦ (λ t. (named.0 w.if-eq.true, w.is_same.ensures.0 (sym w.value-is ∙ t)), λ p. w.value-is ∙ w.is_same.ensures.1 p.1)
      | else-eq w ↦ (λ t. absurd (let f = w.value-is in cc), λ p. absurd (let f = w.if-eq.false in let g = named.1 p.0 in cc))
    ] in
    let spaced : Decides c.if-is_same.value (((some.name ≡ other.name) × (some.«package» ≡ other.«package»)) × (some.namespace ≡ other.namespace)) =
    elim c.if-is_same.branch [
      | then-is_same w ↦ (λ t. (packaged.0 w.if-is_same.true, w.is_same-then-is_same.ensures.0 (sym w.value-is ∙ t)), λ p. w.value-is ∙ w.is_same-then-is_same.ensures.1 p.1)
      | else-is_same w ↦ (λ t. absurd (let f = w.value-is in cc), λ p. absurd (let f = w.if-is_same.false in let g = packaged.1 p.0 in cc))
    ] in
    let told = spaced.0 c.if-is_same-2.true in (
      λ t. same-texts some other told.0.0 told.0.1 told.1 ((same-versions _ _).0 (sym c.is_same_version.ensures ∙ t)),
      λ e. c.is_same_version.ensures ∙ (same-versions _ _).1 (ap (λ (p : NameParts). p.version) (same-parts some other c.as_bytes.ensures.label c.as_bytes-2.ensures.label e)),
    )

pub returns-else-is_same-2 : goal.returns-else-is_same-2
returns-else-is_same-2 c =
    let some = c.args.some.now in
    let other = c.args.other.now in
    let named : Decides c.eq.result (some.name ≡ other.name) = same-bytes _ _ _ _ _ c.as_bytes.ensures.is c.as_bytes-2.ensures.is c.eq.ensures in
    let packaged : Decides c.if-eq.value ((some.name ≡ other.name) × (some.«package» ≡ other.«package»)) =
    elim c.if-eq.branch [
      | then-eq w ↦ (λ t. (named.0 w.if-eq.true, w.is_same.ensures.0 (sym w.value-is ∙ t)), λ p. w.value-is ∙ w.is_same.ensures.1 p.1)
      | else-eq w ↦ (λ t. absurd (let f = w.value-is in cc), λ p. absurd (let f = w.if-eq.false in let g = named.1 p.0 in cc))
    ] in (
      λ t. absurd (let f = c.if-is_same-2.false in cc),
      λ e. absurd (let p = same-parts some other c.as_bytes.ensures.label c.as_bytes-2.ensures.label e in
          let f = c.if-is_same-2.false in
          elim c.if-is_same.branch [
            | then-is_same w ↦ let g = w.value-is ∙ w.is_same-then-is_same.ensures.1 (ap (λ (q : NameParts). q.namespace) p) in cc
            | else-is_same w ↦ let h = w.if-is_same.false in let g = packaged.1 (ap (λ (q : NameParts). q.name) p, ap (λ (q : NameParts). q.package_name) p) in cc
          ]),
    )
