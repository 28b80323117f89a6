-- Two shapes are equal by `==` exactly if they are made of the same numbers in the same way.
use Rattle.std.proofs.Common.{◌≡◌, ℕ, ◌<◌, ◌&&◌, Bool, true, false, nat_eq, List, [], ◌∷◌, map, get_or, Option, Some, None, All, refl, ap, sym, subst, ◌∙◌, arith}
use Rattle.std.proofs.lemmas.Bool.{eqb-true, eq-eqb, false≢true}
use Rattle.std.proofs.lemmas.List.Elements.{All-head, All-tail}
use Rattle.std.specs.Option.{option_map, option_eq}
use Rattle.canonical_abi.specs.Types.{Prim, boolean, unsigned, signed, scalar_value, int8, int16, int32, int64, ClosedType, prim_type, string_type, list_type, flags_type, record_type, variant_type, fields_of, cases_of}
use Rattle.tables.specs.Closed.{prim_of}
use Rattle.tables.specs.declared.tables.Primitive.{Primitive}
use Rattle.tables.specs.declared.tables.Primitive.TheVariants as primitive
use Rattle.tables.specs.contracts.tables.Primitive as primitive_type
use denote.Enum.Bare.{tag_one}
use denote.Enum.Declared.{tag_of}
use lib.Pointwise.{pointwise}
use Rattle.package_diff.specs.Shapes.{shape_type, IsPartBelow, IsMadeBelow}
use Rattle.package_diff.specs.declared.shapes.Shape.{Shape}
use Rattle.package_diff.specs.declared.shapes.Shape.TheVariants as shape
use Rattle.package_diff.specs.contracts.shapes.ShapePartialEq.TheImpl.{eq-value}

-- what `==` answers at two shapes
abbrev pub same_shape : Shape → Shape → Bool
same_shape a b = eq-value.it a b

pub both-true : (a b : Bool) → (a && b) ≡ true → (a ≡ true) × (b ≡ true)
both-true true b h = (refl, h)
both-true false b h = absurd (false≢true h)

pub pointwise-one : {A : Type 0} (e : A → A → Bool) → ((x y : A) → e x y ≡ true → x ≡ y) → (xs ys : List A) → pointwise e xs ys ≡ true → xs ≡ ys
pointwise-one e one [] [] h = refl
pointwise-one e one [] (y ∷ ys) h = absurd (false≢true h)
pointwise-one e one (x ∷ xs) [] h = absurd (false≢true h)
pointwise-one e one (x ∷ xs) (y ∷ ys) h =
    let hs = both-true (e x y) (pointwise e xs ys) h in
    rw (one x y hs.0, pointwise-one e one xs ys hs.1) refl

pub pointwise-self : {A : Type 0} (e : A → A → Bool) → ((x : A) → e x x ≡ true) → (xs : List A) → pointwise e xs xs ≡ true
pointwise-self e self [] = refl
pointwise-self e self (x ∷ xs) = rw (self x, pointwise-self e self xs) refl

number-one : (x y : ℕ) → nat_eq x y ≡ true → x ≡ y
number-one x y h = eqb-true x y h

number-self : (x : ℕ) → nat_eq x x ≡ true
number-self x = eq-eqb x x refl

part-one : (x y : Option ℕ) → option_eq nat_eq x y ≡ true → x ≡ y
part-one None None h = refl
part-one None (Some y) h = absurd (false≢true h)
part-one (Some x) None h = absurd (false≢true h)
part-one (Some x) (Some y) h = ap (λ n. Some n) (eqb-true x y h)

part-self : (x : Option ℕ) → option_eq nat_eq x x ≡ true
part-self None = refl
part-self (Some x) = number-self x

-- equal shapes are of one closed type
pub same-type : (ts : List ClosedType) (a b : Shape) → same_shape a b ≡ true → shape_type ts a ≡ shape_type ts b
same-type ts (shape.Primitive a) (shape.Primitive b) h = ap (λ p. prim_type (prim_of p)) (tag_one primitive_type.the_type tt a b (eqb-true _ _ h))
same-type ts shape.String shape.String h = refl
same-type ts (shape.List a) (shape.List b) h = ap (λ n. list_type (get_or ts n string_type)) (number-one a b h)
same-type ts (shape.Record a) (shape.Record b) h =
    ap (λ ns. record_type (fields_of (map (λ n. get_or ts n string_type) ns))) (pointwise-one nat_eq number-one a.items b.items h)
same-type ts (shape.Variant a) (shape.Variant b) h =
    ap (λ ns. variant_type (cases_of (map (option_map (λ n. get_or ts n string_type)) ns))) (pointwise-one (option_eq nat_eq) part-one a.items b.items h)
same-type ts (shape.Flags a) (shape.Flags b) h = ap flags_type (number-one a b h)
same-type ts _ _ h = absurd (false≢true h)

-- the primitive of a despecialized one
pub primitive_from : Prim → Primitive
primitive_from boolean = primitive.Bool
primitive_from (unsigned int8) = primitive.U8
primitive_from (unsigned int16) = primitive.U16
primitive_from (unsigned int32) = primitive.U32
primitive_from (unsigned int64) = primitive.U64
primitive_from (signed int8) = primitive.S8
primitive_from (signed int16) = primitive.S16
primitive_from (signed int32) = primitive.S32
primitive_from (signed int64) = primitive.S64
primitive_from scalar_value = primitive.Char

primitive-back : (p : Primitive) → primitive_from (prim_of p) ≡ p
unfolding primitive_from
primitive-back primitive.Bool = refl
primitive-back primitive.S8 = refl
primitive-back primitive.U8 = refl
primitive-back primitive.S16 = refl
primitive-back primitive.U16 = refl
primitive-back primitive.S32 = refl
primitive-back primitive.U32 = refl
primitive-back primitive.S64 = refl
primitive-back primitive.U64 = refl
primitive-back primitive.Char = refl

primitive-there : (p : Prim) → prim_of (primitive_from p) ≡ p
unfolding primitive_from
primitive-there boolean = refl
primitive-there (unsigned int8) = refl
primitive-there (unsigned int16) = refl
primitive-there (unsigned int32) = refl
primitive-there (unsigned int64) = refl
primitive-there (signed int8) = refl
primitive-there (signed int16) = refl
primitive-there (signed int32) = refl
primitive-there (signed int64) = refl
primitive-there scalar_value = refl

-- a number for each despecialized primitive
abbrev pub prim_code : Prim → ℕ
prim_code p = tag_of primitive_type.the_type (primitive_from p)

pub prim-one : (p q : Prim) → prim_code p ≡ prim_code q → p ≡ q
prim-one p q h = sym (primitive-there p) ∙ ap prim_of (tag_one primitive_type.the_type tt (primitive_from p) (primitive_from q) h) ∙ primitive-there q

-- no two numbers below n have one of these types
abbrev AreApart : List ClosedType → ℕ → Type 0
AreApart ts n = (i j : ℕ) → i < n → j < n → get_or ts i string_type ≡ get_or ts j string_type → i ≡ j

-- a part's number is below n
below : (n k : ℕ) → IsPartBelow n (Some k) → k < n
below n k h = h k refl

numbers-one : (ts : List ClosedType) (n : ℕ) → AreApart ts n → (xs ys : List ℕ) → All (IsPartBelow n) (map (λ k. Some k) xs) → All (IsPartBelow n) (map (λ k. Some k) ys)
    → fields_of (map (λ k. get_or ts k string_type) xs) ≡ fields_of (map (λ k. get_or ts k string_type) ys) → xs ≡ ys
numbers-one ts n apart [] [] p q h = refl
numbers-one ts n apart [] (y ∷ ys) p q h = cc
numbers-one ts n apart (x ∷ xs) [] p q h = cc
numbers-one ts n apart (x ∷ xs) (y ∷ ys) p q h =
    let first : get_or ts x string_type ≡ get_or ts y string_type = cc in
    let others : fields_of (map (λ k. get_or ts k string_type) xs) ≡ fields_of (map (λ k. get_or ts k string_type) ys) = cc in
    let here = apart x y (below n x (All-head (IsPartBelow n) (Some x) (map (λ k. Some k) xs) p)) (below n y (All-head (IsPartBelow n) (Some y) (map (λ k. Some k) ys) q)) first in
    let rest = numbers-one ts n apart xs ys (All-tail (IsPartBelow n) (Some x) (map (λ k. Some k) xs) p) (All-tail (IsPartBelow n) (Some y) (map (λ k. Some k) ys) q) others in
    rw (here, rest) refl

parts-one : (ts : List ClosedType) (n : ℕ) → AreApart ts n → (xs ys : List (Option ℕ)) → All (IsPartBelow n) xs → All (IsPartBelow n) ys
    → cases_of (map (option_map (λ k. get_or ts k string_type)) xs) ≡ cases_of (map (option_map (λ k. get_or ts k string_type)) ys) → xs ≡ ys
parts-one ts n apart [] [] p q h = refl
parts-one ts n apart [] (None ∷ ys) p q h = cc
parts-one ts n apart [] (Some y ∷ ys) p q h = cc
parts-one ts n apart (None ∷ xs) [] p q h = cc
parts-one ts n apart (Some x ∷ xs) [] p q h = cc
parts-one ts n apart (None ∷ xs) (None ∷ ys) p q h =
    let others : cases_of (map (option_map (λ k. get_or ts k string_type)) xs) ≡ cases_of (map (option_map (λ k. get_or ts k string_type)) ys) = cc in
    ap (λ rest. None ∷ rest) (parts-one ts n apart xs ys (All-tail (IsPartBelow n) None xs p) (All-tail (IsPartBelow n) None ys q) others)
parts-one ts n apart (None ∷ xs) (Some y ∷ ys) p q h = cc
parts-one ts n apart (Some x ∷ xs) (None ∷ ys) p q h = cc
parts-one ts n apart (Some x ∷ xs) (Some y ∷ ys) p q h =
    let first : get_or ts x string_type ≡ get_or ts y string_type = cc in
    let others : cases_of (map (option_map (λ k. get_or ts k string_type)) xs) ≡ cases_of (map (option_map (λ k. get_or ts k string_type)) ys) = cc in
    let here = apart x y (below n x (All-head (IsPartBelow n) (Some x) xs p)) (below n y (All-head (IsPartBelow n) (Some y) ys q)) first in
    let rest = parts-one ts n apart xs ys (All-tail (IsPartBelow n) (Some x) xs p) (All-tail (IsPartBelow n) (Some y) ys q) others in
    rw (here, rest) refl

-- shapes of one closed type are equal, if their numbers stand for types that differ
pub same-shape : (ts : List ClosedType) (n : ℕ) → AreApart ts n → (a b : Shape) → IsMadeBelow n a → IsMadeBelow n b → shape_type ts a ≡ shape_type ts b → same_shape a b ≡ true
same-shape ts n apart (shape.Primitive a) (shape.Primitive b) p q h =
    let prims : prim_of a ≡ prim_of b = cc in
    let one : a ≡ b = sym (primitive-back a) ∙ ap primitive_from prims ∙ primitive-back b in
    eq-eqb _ _ (ap (tag_of primitive_type.the_type) one)
same-shape ts n apart shape.String shape.String p q h = refl
same-shape ts n apart (shape.List a) (shape.List b) p q h =
    let types : get_or ts a string_type ≡ get_or ts b string_type = cc in
    eq-eqb a b (apart a b (below n a (p 0 None (omega arith))) (below n b (q 0 None (omega arith))) types)
same-shape ts n apart (shape.Record a) (shape.Record b) p q h =
    let fields : fields_of (map (λ k. get_or ts k string_type) a.items) ≡ fields_of (map (λ k. get_or ts k string_type) b.items) = cc in
    let one = numbers-one ts n apart a.items b.items p q fields in
    subst (λ ns. pointwise nat_eq a.items ns ≡ true) one (pointwise-self nat_eq number-self a.items)
same-shape ts n apart (shape.Variant a) (shape.Variant b) p q h =
    let cases : cases_of (map (option_map (λ k. get_or ts k string_type)) a.items) ≡ cases_of (map (option_map (λ k. get_or ts k string_type)) b.items) = cc in
    let one = parts-one ts n apart a.items b.items p q cases in
    subst (λ ns. pointwise (option_eq nat_eq) a.items ns ≡ true) one (pointwise-self (option_eq nat_eq) part-self a.items)
same-shape ts n apart (shape.Flags a) (shape.Flags b) p q h =
    let counts : a ≡ b = cc in
    eq-eqb a b counts
same-shape ts n apart _ _ p q h = cc
