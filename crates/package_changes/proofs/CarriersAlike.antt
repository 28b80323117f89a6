-- Lists of core value types are compared one by one.
use Rattle.std.proofs.Common.{◌≡◌, Bool, ◌&&◌, eqb, List, [], ◌∷◌, refl, ap}
use Rattle.canonical_abi.specs.declared.flat.CoreKind.{CoreKind}
use Rattle.canonical_abi.specs.declared.flat.CoreKind.TheVariants.{I32, I64}
use Rattle.canonical_abi.specs.contracts.flat.CoreKind as kind_type
use denote.Enum.Declared.{tag_of}
use lib.Pointwise.{pointwise}
use Rattle.package_changes.specs.Likeness.{is_same_kind, are_same_kinds}

abbrev pub tag_eq : CoreKind → CoreKind → Bool
tag_eq a b = eqb (tag_of kind_type.the_type a) (tag_of kind_type.the_type b)

kind-told : (a b : CoreKind) → tag_eq a b ≡ is_same_kind a b
kind-told I32 I32 = refl
kind-told I32 I64 = refl
kind-told I64 I32 = refl
kind-told I64 I64 = refl

pub kinds-told : (js ks : List CoreKind) → pointwise tag_eq js ks ≡ are_same_kinds js ks
kinds-told [] [] = refl
kinds-told [] (k ∷ ks) = refl
kinds-told (j ∷ js) [] = refl
kinds-told (j ∷ js) (k ∷ ks) = rw (kind-told j k, kinds-told js ks) refl
