-- Lists of flat kinds that are cut at sixteen.
use Rattle.std.proofs.Common.{◌≡◌, ◌⊎◌, inl, inr, ℕ, ◌<◌, ◌≤◌, List, ◌++◌, length, refl, arith}
use Rattle.std.proofs.lemmas.Bool.Decides.{nat_tests}
use Rattle.std.proofs.lemmas.Bool.{cases_lt}
use Rattle.std.proofs.lemmas.List.{length-append}
use Rattle.canonical_abi.specs.Layout.{join}
use Rattle.canonical_abi.specs.declared.flat.CoreKind.{CoreKind}
use Rattle.layout.specs.Kinds.{kinds_of, passed, append_kinds, join_kinds}
use Rattle.layout.specs.declared.kinds.Kinds.{Kinds}
use Rattle.layout.specs.declared.kinds.Kinds.TheVariants.{Flat, Spilled}
use Rattle.layout.proofs.JoinsOfFlatKinds.{length-join}

pub kinds_of-flat : (ks : List CoreKind) → length ks ≤ 16 → kinds_of ks ≡ Flat (record { items = ks })
kinds_of-flat ks h = grind (arith, nat_tests)

pub kinds_of-spilled : (ks : List CoreKind) → 16 < length ks → kinds_of ks ≡ Spilled
kinds_of-spilled ks h = grind (arith, nat_tests)

pub few-or-many : (n : ℕ) → (n ≤ 16) ⊎ (16 < n)
few-or-many n = elim (cases_lt 16 n) [ inl h ↦ inr h | inr h ↦ inl h ]

pub append_kinds-of : (js ks : List CoreKind) → append_kinds (kinds_of js) (kinds_of ks) ≡ kinds_of (js ++ ks)
append_kinds-of js ks = elim (few-or-many (length js)) [
  | inl h ↦ elim (few-or-many (length ks)) [
    | inl g ↦ rw (kinds_of-flat js h, kinds_of-flat ks g) refl
    | inr g ↦ rw (kinds_of-flat js h, kinds_of-spilled ks g, kinds_of-spilled (js ++ ks) (omega (arith, length-append js ks))) refl
  ]
  | inr h ↦ rw (kinds_of-spilled js h, kinds_of-spilled (js ++ ks) (omega (arith, length-append js ks))) refl
]

pub join_kinds-of : (js ks : List CoreKind) → join_kinds (kinds_of js) (kinds_of ks) ≡ kinds_of (join js ks)
join_kinds-of js ks = elim (few-or-many (length js)) [
  | inl h ↦ elim (few-or-many (length ks)) [
    | inl g ↦ rw (kinds_of-flat js h, kinds_of-flat ks g) refl
    | inr g ↦ rw (kinds_of-flat js h, kinds_of-spilled ks g, kinds_of-spilled (join js ks) (omega (arith, length-join js ks))) refl
  ]
  | inr h ↦ rw (kinds_of-spilled js h, kinds_of-spilled (join js ks) (omega (arith, length-join js ks))) refl
]

pub fits-kinds_of : (ks : List CoreKind) → length (passed (kinds_of ks)) ≤ 16
fits-kinds_of ks = elim (few-or-many (length ks)) [
  | inl h ↦ rw (kinds_of-flat ks h) h
  | inr h ↦ rw (kinds_of-spilled ks h) (omega arith)
]

pub fits-append : (js ks : Kinds) → length (passed (append_kinds js ks)) ≤ 16
fits-append (Flat js) (Flat ks) = fits-kinds_of (js.items ++ ks.items)
fits-append (Flat js) Spilled = omega arith
fits-append Spilled ks = omega arith
