-- A number stands for the closed type of its shape, over the shapes before it, and for the same one if more shapes come.
use Rattle.std.proofs.Common.{◌≡◌, ℕ, zero, suc, ◌+◌, ◌<◌, ◌≤◌, Bool, true, false, IsTrue, if◌then◌else◌, List, [], ◌∷◌, ◌++◌, map, length, take, drop, get_or, slice_get, Result, Ok, Err, OnOk, Option, Some, None, All, ◌⊎◌, inl, inr, refl, ap, sym, subst, ◌∙◌, arith}
use Rattle.std.proofs.Math.Nat.{eq-or-lt_of_le}
use Rattle.std.proofs.lemmas.List.{length-append, length-take, get_or_append_left, take-append-drop, get_or_at, append_assoc, append-nil, map-append}
use Rattle.std.proofs.lemmas.List.Elements.{All-head, All-tail, All-push, All-map}
use Rattle.std.proofs.lemmas.List.Folds.{list_any_at}
use Rattle.std.proofs.lemmas.Option.{get_or_from_slice_get, slice_get-get_or, slice_get_within}
use Rattle.std.proofs.lemmas.Bool.{false≢true}
use Rattle.std.proofs.lemmas.Grind.{take_at_read}
use Rattle.std.proofs.lemmas.Simd.{map-map}
use Rattle.std.specs.List.{list_any, list_all}
use Rattle.std.specs.Option.{option_map}
use Rattle.canonical_abi.specs.Types.{ClosedType, string_type, list_type, record_type, variant_type, fields_of, cases_of}
use Rattle.tables.specs.Tables.{is_below, option_below, definition_below}
use Rattle.tables.specs.Closed.{closed_val, closed_definition, closed_rows, closed_types}
use Rattle.tables.specs.declared.tables.ValType.{ValType}
use Rattle.tables.specs.declared.tables.Definition.{Definition}
use Rattle.tables.specs.declared.tables.Definition.TheVariants as row
use Rattle.tables.specs.declared.tables.Resolve.{Resolve}
use Rattle.tables.proofs.ClosedTypesRowByRow.{split, below-at, closed_rows-more, closed_val-stays}
use Rattle.indexmap.specs.IndexSet.{insert_key}
use Rattle.package_diff.specs.Shapes.{shape_type, shape_types, type_at, parts_of, IsNumberOf, IsPartBelow, IsMadeBelow, AreMadeInOrder, TellTypesApart, Extends, IsPartOf, IsRowAmong, AreRowsOf, row_types, row_results, result_type}
use Rattle.package_diff.specs.declared.shapes.RowShape.{RowShape}
use Rattle.package_diff.specs.declared.shapes.Shape.{Shape}
use Rattle.package_diff.specs.declared.shapes.Shape.TheVariants as shape
use Rattle.package_diff.proofs.ShapesCompared.{same_shape, same-type, same-shape}

length-types : (ts : List ClosedType) (ss : List Shape) → length (shape_types ts ss) ≡ length ts + length ss
length-types ts [] = omega arith
length-types ts (s ∷ ss) =
    let rest = length-types (ts ++ shape_type ts s ∷ []) ss in
    omega (arith, length-append ts (shape_type ts s ∷ []))

types-append : (ts : List ClosedType) (ss us : List Shape) → shape_types ts (ss ++ us) ≡ shape_types (shape_types ts ss) us
types-append ts [] us = refl
types-append ts (s ∷ ss) us = types-append (ts ++ shape_type ts s ∷ []) ss us

-- a type stands as it was made
types-front : (ts : List ClosedType) (ss : List Shape) (k : ℕ) (t : ClosedType) → k < length ts → get_or (shape_types ts ss) k t ≡ get_or ts k t
types-front ts [] k t h = refl
types-front ts (s ∷ ss) k t h =
    types-front (ts ++ shape_type ts s ∷ []) ss k t (omega (arith, length-append ts (shape_type ts s ∷ [])))
    ∙ get_or_append_left ts (shape_type ts s ∷ []) t k h

-- more shapes change no type
type-stays : (ss rest : List Shape) (n : ℕ) → n < length ss → type_at (ss ++ rest) n ≡ type_at ss n
type-stays ss rest n h =
    let there : n < length (shape_types [] ss) = omega (arith, length-types [] ss) in
    ap (λ (ts : List ClosedType). get_or ts n string_type) (types-append [] ss rest) ∙ types-front (shape_types [] ss) rest n string_type there

-- the last of these shapes has the type that it is made of
last-type : (ss : List Shape) (s : Shape) → type_at (ss ++ s ∷ []) (length ss) ≡ shape_type (shape_types [] ss) s
last-type ss s =
    let ts = shape_types [] ss in
    let count : length ts ≡ length ss = omega (arith, length-types [] ss) in
    ap (λ (us : List ClosedType). get_or us (length ss) string_type) (types-append [] ss (s ∷ []))
    ∙ get_or_at ts (shape_type ts s) [] string_type (length ss) count

length-front : (ss : List Shape) (i : ℕ) → i ≤ length ss → length (shape_types [] (take i ss)) ≡ i
length-front ss i h = omega (arith, length-types [] (take i ss), length-take i ss)

-- what the first shapes have, all have
types-prefix : (ss : List Shape) (i k : ℕ) → i ≤ length ss → k < i → type_at ss k ≡ type_at (take i ss) k
types-prefix ss i k h q =
    let whole : shape_types [] ss ≡ shape_types (shape_types [] (take i ss)) (drop i ss) =
    ap (λ (us : List Shape). shape_types [] us) (sym (take-append-drop i ss)) ∙ types-append [] (take i ss) (drop i ss) in
    let within : k < length (shape_types [] (take i ss)) = omega (arith, length-front ss i h) in
    rw whole (types-front (shape_types [] (take i ss)) (drop i ss) k string_type within)

types-more : (ss : List Shape) (i : ℕ) (s : Shape) → i < length ss
    → shape_types [] (take (i + 1) ss) ≡ shape_types [] (take i ss) ++ shape_type (shape_types [] (take i ss)) (get_or ss i s) ∷ []
types-more ss i s h = rw ((take_at_read ss i s h).1) (types-append [] (take i ss) (get_or ss i s ∷ []))

-- the type of shape k is made of those of the shapes before it
types-at : (ss : List Shape) (k : ℕ) (s : Shape) → k < length ss → type_at ss k ≡ shape_type (shape_types [] (take k ss)) (get_or ss k s)
types-at ss k s h =
    let ts = shape_types [] (take k ss) in
    types-prefix ss (k + 1) k (omega arith) (omega arith)
    ∙ ap (λ (us : List ClosedType). get_or us k string_type) (types-more ss k s h)
    ∙ get_or_at ts (shape_type ts (get_or ss k s)) [] string_type k (omega (arith, length-front ss k (omega arith)))

-- ---- a shape that is made of numbers below n has one type over all lists that agree there

numbers-same : (f g : ℕ → ClosedType) (n : ℕ) → ((k : ℕ) → k < n → f k ≡ g k) → (ns : List ℕ) → All (IsPartBelow n) (map (λ k. Some k) ns) → map f ns ≡ map g ns
numbers-same f g n same [] h = refl
numbers-same f g n same (k ∷ ns) h =
    rw (same k (All-head (IsPartBelow n) (Some k) (map (λ k. Some k) ns) h k refl), numbers-same f g n same ns (All-tail (IsPartBelow n) (Some k) (map (λ k. Some k) ns) h)) refl

parts-same : (f g : ℕ → ClosedType) (n : ℕ) → ((k : ℕ) → k < n → f k ≡ g k) → (ps : List (Option ℕ)) → All (IsPartBelow n) ps → map (option_map f) ps ≡ map (option_map g) ps
parts-same f g n same [] h = refl
parts-same f g n same (None ∷ ps) h = ap (λ rest. None ∷ rest) (parts-same f g n same ps (All-tail (IsPartBelow n) None ps h))
parts-same f g n same (Some k ∷ ps) h =
    rw (same k (All-head (IsPartBelow n) (Some k) ps h k refl), parts-same f g n same ps (All-tail (IsPartBelow n) (Some k) ps h)) refl

shape-same : (ts us : List ClosedType) (n : ℕ) → ((k : ℕ) → k < n → get_or ts k string_type ≡ get_or us k string_type) → (s : Shape) → IsMadeBelow n s → shape_type ts s ≡ shape_type us s
shape-same ts us n same (shape.Primitive p) h = refl
shape-same ts us n same shape.String h = refl
shape-same ts us n same (shape.List k) h = ap list_type (same k (h 0 None (omega arith) k refl))
shape-same ts us n same (shape.Record ns) h =
    ap (λ l. record_type (fields_of l)) (numbers-same (λ k. get_or ts k string_type) (λ k. get_or us k string_type) n same ns.items h)
shape-same ts us n same (shape.Variant ps) h =
    ap (λ l. variant_type (cases_of l)) (parts-same (λ k. get_or ts k string_type) (λ k. get_or us k string_type) n same ps.items h)
shape-same ts us n same (shape.Flags k) h = refl

below-later : (n m : ℕ) → n ≤ m → (ps : List (Option ℕ)) → All (IsPartBelow n) ps → All (IsPartBelow m) ps
below-later n m h ps p k d q x e = let at = p k d q x e in omega arith

-- ---- a shape that is found at a number

-- has the type that it is made of, over all shapes
found-type : (ss : List Shape) (n : ℕ) (s : Shape) → AreMadeInOrder ss → slice_get ss n ≡ Some s → type_at ss n ≡ shape_type (shape_types [] ss) s
found-type ss n s order at =
    let within = slice_get_within ss n s at in
    let kept : (k : ℕ) → k < n → type_at (take n ss) k ≡ type_at ss k = λ k h. sym (types-prefix ss n k (omega arith) h) in
    types-at ss n s within
    ∙ ap (shape_type (shape_types [] (take n ss))) (get_or_from_slice_get ss n s s at)
    ∙ shape-same (shape_types [] (take n ss)) (shape_types [] ss) n kept s (order n s at)

-- ---- one shape more

pushed-at : (ss : List Shape) (s : Shape) (n : ℕ) (t : Shape) → slice_get (ss ++ s ∷ []) n ≡ Some t → (slice_get ss n ≡ Some t) ⊎ ((n ≡ length ss) × (s ≡ t))
pushed-at [] s zero t h = inr (refl, cc)
pushed-at [] s (suc n) t h = absurd cc
pushed-at (u ∷ ss) s zero t h = inl h
pushed-at (u ∷ ss) s (suc n) t h = elim (pushed-at ss s n t h) [ inl e ↦ inl e | inr e ↦ inr (ap suc e.0, e.1) ]

pushed-in-order : (ss : List Shape) (s : Shape) → AreMadeInOrder ss → IsMadeBelow (length ss) s → AreMadeInOrder (ss ++ s ∷ [])
pushed-in-order ss s order made n t at =
    elim (pushed-at ss s n t at) [
      | inl e ↦ order n t e
      | inr e ↦ let P : ℕ → Type 0 = λ k. IsMadeBelow k t in subst P (sym e.0) (subst (IsMadeBelow (length ss)) e.1 made)
    ]

-- the type of a shape that equals none of these is none of theirs
pushed-differs : (ss : List Shape) (s : Shape) (n : ℕ) → AreMadeInOrder ss → TellTypesApart ss → IsMadeBelow (length ss) s → list_any (same_shape s) ss ≡ false → n < length ss
    → type_at ss n ≡ type_at (ss ++ s ∷ []) (length ss) → ⊥
pushed-differs ss s n order apart made new h e =
    let t = get_or ss n s in
    let at : slice_get ss n ≡ Some t = slice_get-get_or ss n s h in
    let types : shape_type (shape_types [] ss) s ≡ shape_type (shape_types [] ss) t = sym (last-type ss s) ∙ sym e ∙ found-type ss n t order at in
    let same : same_shape s t ≡ true = same-shape (shape_types [] ss) (length ss) apart s t made (below-later n (length ss) (omega arith) (parts_of t) (order n t at)) types in
    false≢true (sym new ∙ list_any_at (same_shape s) ss n s h same)

pushed-apart : (ss : List Shape) (s : Shape) → AreMadeInOrder ss → TellTypesApart ss → IsMadeBelow (length ss) s → list_any (same_shape s) ss ≡ false → TellTypesApart (ss ++ s ∷ [])
pushed-apart ss s order apart made new m n h q e =
    let longer = length-append ss (s ∷ []) in
    let m_in : m ≤ length ss = omega arith in
    let n_in : n ≤ length ss = omega arith in
    elim (eq-or-lt_of_le m_in) [
      | inl m_last ↦ elim (eq-or-lt_of_le n_in) [
        | inl n_last ↦ m_last ∙ sym n_last
        | inr n_before ↦ absurd (pushed-differs ss s n order apart made new n_before (sym (type-stays ss (s ∷ []) n n_before) ∙ sym e ∙ ap (type_at (ss ++ s ∷ [])) m_last))
      ]
      | inr m_before ↦ elim (eq-or-lt_of_le n_in) [
        | inl n_last ↦ absurd (pushed-differs ss s m order apart made new m_before (sym (type-stays ss (s ∷ []) m m_before) ∙ e ∙ ap (type_at (ss ++ s ∷ [])) n_last))
        | inr n_before ↦ apart m n m_before n_before (sym (type-stays ss (s ∷ []) m m_before) ∙ e ∙ type-stays ss (s ∷ []) n n_before)
      ]
    ]

-- what is true of shapes in which types are looked up
abbrev pub AreShapes : List Shape → Type 0
AreShapes ss = AreMadeInOrder ss × TellTypesApart ss

pub inserted : (ss us : List Shape) (s : Shape) → AreShapes ss → IsMadeBelow (length ss) s → us ≡ insert_key same_shape ss s → AreShapes us
inserted ss us s are made is = subst AreShapes (sym is) (by (list_any (same_shape s) ss) refl)
  where
    by : (b : Bool) → list_any (same_shape s) ss ≡ b → AreShapes (if b then ss else (ss ++ s ∷ []))
    by true e = are
    by false e = (pushed-in-order ss s are.0 made, pushed-apart ss s are.0 are.1 made e)

pub extends-inserted : (ss us : List Shape) (s : Shape) → us ≡ insert_key same_shape ss s → Extends ss us
extends-inserted ss us s is = by (list_any (same_shape s) ss) is
  where
    by : (b : Bool) → us ≡ (if b then ss else (ss ++ s ∷ [])) → Extends ss us
    by true e = ([], e ∙ sym (append-nil ss))
    by false e = (s ∷ [], e)

-- the number of a shape that equals this one is a number of its type
pub stored-number : (ss us : List Shape) (s t : Shape) (n : ℕ) → AreMadeInOrder us → Extends ss us → IsMadeBelow (length ss) s → slice_get us n ≡ Some t → same_shape s t ≡ true
    → IsNumberOf us (shape_type (shape_types [] ss) s) n
stored-number ss us s t n order (rest, is) made at same =
    let kept : (k : ℕ) → k < length ss → type_at us k ≡ type_at ss k = λ k h. ap (λ l. type_at l k) is ∙ type-stays ss rest k h in (
      slice_get_within us n t at,
      found-type us n t order at
          ∙ sym (same-type (shape_types [] us) s t same)
          ∙ shape-same (shape_types [] us) (shape_types [] ss) (length ss) kept s made,
    )

-- ---- what stays as more shapes come

pub extends-trans : (ss us vs : List Shape) → Extends ss us → Extends us vs → Extends ss vs
extends-trans ss us vs (a, p) (b, q) = (a ++ b, q ∙ ap (λ (l : List Shape). l ++ b) p ∙ append_assoc ss a b)

grown : (ss us : List Shape) → Extends ss us → length ss ≤ length us
grown ss us (rest, is) = omega (arith, length-append ss rest, ap (length {A = Shape}) is)

kept-type : (ss us : List Shape) → Extends ss us → (n : ℕ) → n < length ss → type_at us n ≡ type_at ss n
kept-type ss us (rest, is) n h = ap (λ l. type_at l n) is ∙ type-stays ss rest n h

pub number-kept : (ss us : List Shape) (t : ClosedType) (n : ℕ) → Extends ss us → IsNumberOf ss t n → IsNumberOf us t n
number-kept ss us t n more (within, is) = (omega (arith, grown ss us more), kept-type ss us more n within ∙ is)

part-kept : (ss us : List Shape) (t : Option ClosedType) (n : Option ℕ) → Extends ss us → IsPartOf ss t n → IsPartOf us t n
part-kept ss us t None more (within, is) = (λ k e. absurd cc, is)
part-kept ss us t (Some n) more (within, is) =
    (λ k e. let h = within k e in omega (arith, grown ss us more), ap (λ u. Some u) (kept-type ss us more n (within n refl)) ∙ is)

-- the numbers stand for these closed types, in order
abbrev pub AreNumbersOf : List Shape → List ClosedType → List ℕ → Type 0
AreNumbersOf shapes ts ns = All (λ n. n < length shapes) ns × (map (type_at shapes) ns ≡ ts)

-- the numbers stand for these closed types, in order, and there is none where there is no type
abbrev pub ArePartsOf : List Shape → List (Option ClosedType) → List (Option ℕ) → Type 0
ArePartsOf shapes ts ns = All (IsPartBelow (length shapes)) ns × (map (option_map (type_at shapes)) ns ≡ ts)

map-kept : (f g : ℕ → ClosedType) (n : ℕ) → ((k : ℕ) → k < n → f k ≡ g k) → (ns : List ℕ) → All (λ k. k < n) ns → map f ns ≡ map g ns
map-kept f g n same [] h = refl
map-kept f g n same (k ∷ ns) h = rw (same k (All-head (λ k. k < n) k ns h), map-kept f g n same ns (All-tail (λ k. k < n) k ns h)) refl

pub numbers-kept : (ss us : List Shape) (ts : List ClosedType) (ns : List ℕ) → Extends ss us → AreNumbersOf ss ts ns → AreNumbersOf us ts ns
numbers-kept ss us ts ns more (within, are) =
    (λ k d h. let q = within k d h in omega (arith, grown ss us more), map-kept (type_at us) (type_at ss) (length ss) (kept-type ss us more) ns within ∙ are)

pub parts-kept : (ss us : List Shape) (ts : List (Option ClosedType)) (ns : List (Option ℕ)) → Extends ss us → ArePartsOf ss ts ns → ArePartsOf us ts ns
parts-kept ss us ts ns more (within, are) =
    (below-later (length ss) (length us) (grown ss us more) ns within, parts-same (type_at us) (type_at ss) (length ss) (kept-type ss us more) ns within ∙ are)

pub rows-kept : (ss us : List Shape) (rows : List RowShape) → Extends ss us → All (IsRowAmong ss) rows → All (IsRowAmong us) rows
rows-kept ss us rows more among k d h =
    let row = among k d h in
    (omega (arith, grown ss us more, row.0), λ n e. let q = row.1 n e in omega (arith, grown ss us more))

pub row-types-kept : (ss us : List Shape) (rows : List RowShape) → Extends ss us → All (IsRowAmong ss) rows → row_types us rows ≡ row_types ss rows
row-types-kept ss us [] more among = refl
row-types-kept ss us (r ∷ rows) more among =
    rw (kept-type ss us more r.number (All-head (IsRowAmong ss) r rows among).0, row-types-kept ss us rows more (All-tail (IsRowAmong ss) r rows among)) refl

-- ---- the numbers of one more

taken-more : {A B : Type 0} (f : A → B) (xs : List A) (i : ℕ) (d : A) → i < length xs → map f (take (i + 1) xs) ≡ map f (take i xs) ++ f (get_or xs i d) ∷ []
taken-more f xs i d h = ap (map f) (take_at_read xs i d h).1 ∙ map-append f (take i xs) (get_or xs i d ∷ [])

pub numbers-more : {A : Type 0} (ss : List Shape) (f : A → ClosedType) (xs : List A) (i : ℕ) (d : A) (ns ms : List ℕ) (n : ℕ) → i < length xs
    → AreNumbersOf ss (map f (take i xs)) ns → IsNumberOf ss (f (get_or xs i d)) n → ms ≡ ns ++ n ∷ [] → AreNumbersOf ss (map f (take (i + 1) xs)) ms
numbers-more ss f xs i d ns ms n h (within, are) (here, is) more =
    let longer : map (type_at ss) (ns ++ n ∷ []) ≡ map f (take (i + 1) xs) = map-append (type_at ss) ns (n ∷ []) ∙ rw (are, is) (sym (taken-more f xs i d h)) in
    subst (AreNumbersOf ss (map f (take (i + 1) xs))) (sym more) (All-push (λ k. k < length ss) ns n within here, longer)

pub parts-more : {A : Type 0} (ss : List Shape) (f : A → Option ClosedType) (xs : List A) (i : ℕ) (d : A) (ns ms : List (Option ℕ)) (n : Option ℕ) → i < length xs
    → ArePartsOf ss (map f (take i xs)) ns → IsPartOf ss (f (get_or xs i d)) n → ms ≡ ns ++ n ∷ [] → ArePartsOf ss (map f (take (i + 1) xs)) ms
parts-more ss f xs i d ns ms n h (within, are) (here, is) more =
    let longer : map (option_map (type_at ss)) (ns ++ n ∷ []) ≡ map f (take (i + 1) xs) =
    map-append (option_map (type_at ss)) ns (n ∷ []) ∙ rw (are, is) (sym (taken-more f xs i d h)) in
    subst (ArePartsOf ss (map f (take (i + 1) xs))) (sym more) (All-push (IsPartBelow (length ss)) ns n within here, longer)

-- numbers as parts
pub numbers-below : (m : ℕ) (ns : List ℕ) → All (λ n. n < m) ns → All (IsPartBelow m) (map (λ n. Some n) ns)
numbers-below m ns within = All-map (IsPartBelow m) (λ n. Some n) ns (λ k d h n e. let q = within k d h in let same : get_or ns k d ≡ n = cc in omega (arith, q, same))

-- what a last call adds
pub on-extends : {T E : Type 0} (ss us vs : List Shape) (r : Result T E) → Extends ss us → OnOk r (Extends us vs) → OnOk r (Extends ss vs)
on-extends ss us vs (Ok x) more rest = extends-trans ss us vs more rest
on-extends ss us vs (Err x) more rest = rest

-- types that were taken out of what they stand in
pub taken-out : {X A B : Type 0} (f : A → B) (g : X → A) (xs : List X) (ys : List A) → ys ≡ map g xs → map f ys ≡ map (λ x. f (g x)) xs
taken-out f g xs ys is = ap (map f) is ∙ map-map f g xs

-- ---- the rows of a table

results-kept : (ss us : List Shape) (rows : List RowShape) → Extends ss us → All (IsRowAmong ss) rows → row_results us rows ≡ row_results ss rows
results-kept ss us [] more among = refl
results-kept ss us (r ∷ rows) more among =
    let first = All-head (IsRowAmong ss) r rows among in
    rw ((part-kept ss us (option_map (type_at ss) r.result) r.result more (first.1, refl)).1, results-kept ss us rows more (All-tail (IsRowAmong ss) r rows among)) refl

result-stays : (ds : List Definition) (k : ℕ) (d : Definition) → k ≤ length ds → IsTrue (definition_below k d) → result_type (closed_rows [] (take k ds)) d ≡ result_type (closed_rows [] ds) d
result-stays ds k (row.Type d) h below = refl
result-stays ds k (row.Function f) h below = by f.result (split (list_all (λ p. is_below k p.ty) f.params) (option_below k f.result) below).1
  where
    by : (v : Option ValType) → IsTrue (option_below k v) → option_map (closed_val (closed_rows [] (take k ds))) v ≡ option_map (closed_val (closed_rows [] ds)) v
    by None q = refl
    by (Some v) q = ap (λ t. Some t) (closed_val-stays ds k v h q)

-- the rows before row i stand for what these definitions are
pub record RowsSoFar (ss : List Shape) (r : Resolve) (i : ℕ) (rows : List RowShape) : Type 0 where
  pub among : All (IsRowAmong ss) rows
  pub types : row_types ss rows ≡ closed_rows [] (take i r.definitions)
  pub results : row_results ss rows ≡ map (result_type (closed_types r)) (take i r.definitions)

pub rows-more : (ss us : List Shape) (r : Resolve) (i : ℕ) (d : Definition) (rows more : List RowShape) (row : RowShape) → Extends ss us → i < length r.definitions → d ≡ get_or r.definitions i d → RowsSoFar ss r i rows
    → IsNumberOf us (closed_definition (row_types ss rows) d) row.number → IsPartOf us (result_type (row_types ss rows) d) row.result
    → more ≡ rows ++ row ∷ [] → RowsSoFar us r (i + 1) more
rows-more ss us r i d rows more row extends h at so number answer is =
    let ds = r.definitions in
    let below = below-at i ds i d r.earlier h refl at in
    let types : row_types us (rows ++ row ∷ []) ≡ closed_rows [] (take (i + 1) ds) =
    map-append (λ (x : RowShape). type_at us x.number) rows (row ∷ [])
    ∙ rw (row-types-kept ss us rows extends so.among, number.1, so.types, closed_rows-more ds i d h, sym at) refl in
    let results : row_results us (rows ++ row ∷ []) ≡ map (result_type (closed_types r)) (take (i + 1) ds) =
    map-append (λ (x : RowShape). option_map (type_at us) x.result) rows (row ∷ [])
    ∙ rw (results-kept ss us rows extends so.among, answer.1, so.types, so.results, result-stays ds i d (omega arith) below, taken-more (result_type (closed_types r)) ds i d h, sym at) refl in
    let among : All (IsRowAmong us) (rows ++ row ∷ []) = All-push (IsRowAmong us) rows row (rows-kept ss us rows extends so.among) (number.0, answer.0) in
    subst (RowsSoFar us r (i + 1)) (sym is) record { among = among; types = types; results = results }

-- more shapes change no row of a table
pub table-kept : (ss us : List Shape) (r : Resolve) (rows : List RowShape) → Extends ss us → AreRowsOf ss r rows → AreRowsOf us r rows
table-kept ss us r rows more are = record {
  among = rows-kept ss us rows more are.among;
  types = row-types-kept ss us rows more are.among ∙ are.types;
  results = results-kept ss us rows more are.among ∙ are.results;
}
