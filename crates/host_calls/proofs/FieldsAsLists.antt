-- Fields as lists: how many they are, and what stands at each place.
use Rattle.std.proofs.Common.{◌≡◌, ◌<◌, ◌+◌, ℕ, zero, suc, List, [], ◌∷◌, ◌++◌, Some, None, length, false, ◌==◌, map, take, slice_get, slice_set, refl, sym, ap, ◌∙◌, arith}
use Rattle.std.specs.Option.{option_map}
use Rattle.std.specs.Int.{next_multiple_of}
use Rattle.std.proofs.lemmas.List.{length-map, take_more_set, map-append}
use Rattle.canonical_abi.specs.Types.{ClosedType, Fields, no_field, field, fields_of, nth_field}
use Rattle.canonical_abi.specs.Layout.{Extent, extent_of, field_extents, places_from}
use Rattle.tables.specs.Closed.{IsFunction, closed_type, function_at, function_type}
use Rattle.tables.specs.declared.tables.Function.{Function}
use Rattle.tables.specs.declared.tables.FunctionId.{FunctionId}
use Rattle.tables.specs.declared.tables.Resolve.{Resolve}
use Rattle.lift_lower.proofs.OneFieldRecords.{first-place}
use Rattle.adapter.proofs.FunctionsInLayouts.{params-are}
use Rattle.host_calls.specs.Parts.{TellsParts}
use Rattle.host_calls.specs.declared.parts.Part.{Part}

pub extents-at : (fs : Fields) (i : ℕ) → slice_get (field_extents fs) i ≡ option_map extent_of (nth_field fs i)
extents-at no_field i = refl
extents-at (field t fs) zero = refl
extents-at (field t fs) (suc i) = extents-at fs i

pub stands : {A : Type 0} (xs : List A) (i : ℕ) → slice_get xs i ≡ None → i < length xs → ⊥
stands [] i e l = omega (arith, l)
stands (x ∷ xs) zero e l = cc
stands (x ∷ xs) (suc i) e l = stands xs i e (omega (arith, l))

extents-count : (ts : List ClosedType) → length (field_extents (fields_of ts)) ≡ length ts
extents-count [] = refl
extents-count (t ∷ ts) = ap suc (extents-count ts)

-- a function has as many parameters as fields stand side by side
pub params-count : (r : Resolve) (f : FunctionId) (h : IsFunction r f) (s : Function) (found : function_at r f ≡ Some s) → length s.params ≡ length (field_extents (function_type r f).params)
params-count r f h s found = sym (
    ap (λ fs. length (field_extents fs)) (params-are r f h s found)
    ∙ extents-count (map (closed_type r) (map (λ p. p.ty) s.params))
    ∙ length-map (map (λ p. p.ty) s.params) (closed_type r) ∙ length-map s.params (λ p. p.ty))

pub places-count : (n : ℕ) (xs : List Extent) → length (places_from n xs) ≡ length xs
places-count n [] = refl
places-count n (x ∷ xs) = ap suc (places-count (next_multiple_of n x.align + x.size) xs)

take-next : {A : Type 0} (xs : List A) (i : ℕ) (x : A) → slice_get xs i ≡ Some x → take (suc i) xs ≡ take i xs ++ x ∷ []
take-next [] i x e = cc
take-next (y ∷ ys) zero x e = let same : y ≡ x = cc in ap (λ z. z ∷ []) same
take-next (y ∷ ys) (suc i) x e = ap (λ zs. y ∷ zs) (take-next ys i x e)

-- one more is told
pub told-more : {A B : Type 0} (g : A → B) (out : List A) (ys : List B) (i : ℕ) (x : A) → i < length out → map g (take i out) ≡ take i ys → slice_get ys i ≡ Some (g x)
    → map g (take (i + 1) (slice_set out i x)) ≡ take (i + 1) ys
told-more g out ys i x below so next =
    ap (map g) (take_more_set out i x below) ∙ map-append g (take i out) (x ∷ []) ∙ ap (λ zs. zs ++ g x ∷ []) so
    ∙ sym (let more : i + 1 ≡ suc i = omega arith in ap (λ n. take n ys) more ∙ take-next ys i (g x) next)

pub not-empty : {A : Type 0} (xs : List A) → false ≡ (length xs == 0) → 0 < length xs
not-empty [] e = cc
not-empty (x ∷ xs) e = omega arith

-- a type alone stands at the beginning
pub one-told : (out : List Part) (size align : ℕ) (t : ClosedType) → 0 < length out → extent_of t ≡ record { size = size; align = align }
    → TellsParts out (slice_set out 0 (record { size = size; align = align; offset = 0 })) 1 (field t no_field)
one-told [] size align t below same = absurd (omega (arith, below))
one-told (x ∷ xs) size align t below same = record {
  counted = refl;
  extents = ap (λ e. e ∷ []) (sym same);
  places = ap (λ n. n ∷ []) (sym (first-place t));
  rest = refl;
}
