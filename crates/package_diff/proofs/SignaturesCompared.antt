-- Core signatures are one exactly if they are made of the same kinds.
use Rattle.std.proofs.Common.{◌≡◌, Bool, true, eqb, Option, Some, None, IsTrue, ◌↔◌, refl, ap, sym, subst, ◌∙◌}
use Rattle.std.proofs.lemmas.Bool.{eqb-true, eq-eqb, false≢true}
use Rattle.std.specs.Option.{option_eq}
use Rattle.canonical_abi.specs.Layout.{CoreSignature}
use Rattle.canonical_abi.specs.declared.flat.CoreKind.{CoreKind}
use Rattle.canonical_abi.specs.contracts.flat.CoreKind as kind_type
use Rattle.layout.specs.Layout.{core_signature_of, results_of}
use Rattle.layout.specs.declared.signature.CoreSignature.{CoreSignature as Signature}
use denote.Enum.Bare.{tag_one}
use denote.Enum.Declared.{tag_of}
use lib.Pointwise.{pointwise}
use Rattle.package_diff.proofs.ShapesCompared.{pointwise-one, pointwise-self}

abbrev same_kind : CoreKind → CoreKind → Bool
same_kind a b = eqb (tag_of kind_type.the_type a) (tag_of kind_type.the_type b)

kind-one : (a b : CoreKind) → same_kind a b ≡ true → a ≡ b
kind-one a b h = tag_one kind_type.the_type tt a b (eqb-true _ _ h)

kind-self : (a : CoreKind) → same_kind a a ≡ true
kind-self a = eq-eqb _ _ refl

result-one : (x y : Option CoreKind) → option_eq same_kind x y ≡ true → x ≡ y
result-one None None h = refl
result-one (Some a) (Some b) h = ap (λ k. Some k) (kind-one a b h)
result-one _ _ h = absurd (false≢true h)

pub signature-told : (a b : Signature) (r : Bool) → option_eq same_kind a.result b.result ≡ true → r ≡ pointwise same_kind a.params.items b.params.items
    → IsTrue r ↔ core_signature_of a ≡ core_signature_of b
signature-told a b r results is =
    let result = result-one a.result b.result results in (
      λ same. let params = pointwise-one same_kind kind-one a.params.items b.params.items (sym is ∙ same) in λ i. record { params = params i; results = results_of (result i) },
      λ one. is ∙ subst (λ ks. pointwise same_kind a.params.items ks ≡ true) (ap (λ (s : CoreSignature). s.params) one) (pointwise-self same_kind kind-self a.params.items),
    )
