-- Sizes, alignments and places of closed types, and the rows of a layout table.
use Rattle.std.proofs.Common.{◌≡◌, inl, inr, ℕ, zero, suc, ◌+◌, ◌<◌, ◌≤◌, max, Bool, true, false, IsTrue, nat_le, if◌then◌else◌, slice_index_or, [], ◌∷◌, length, fold, Some, None, refl, ap, ◌∙◌, arith}
use Rattle.std.proofs.lemmas.List.{length-map}
use Rattle.std.specs.Int.{next_multiple_of}
use Rattle.canonical_abi.specs.Guest.{IsAlignment}
use Rattle.canonical_abi.specs.Types.{ClosedType, record_type, variant_type, Fields, no_field, field, Cases, no_case, plain_case, case_with, case_count, nth_field, nth_case, variant_cases, depth, fields_depth, cases_depth}
use Rattle.canonical_abi.specs.Layout.{size, align, discriminant_size, greatest_align, end_from, field_extents, payload_extents, payload_place}
use Rattle.canonical_abi.proofs.Layouts.AlignmentsAndSizes.{is-alignment, greatest-le, max-alignment}
use Rattle.layout.specs.Layout.{LayoutTable, layouts_of}
use Rattle.tables.specs.Tables.{is_below}
use Rattle.tables.specs.declared.tables.Resolve.{Resolve}
use Rattle.tables.specs.declared.tables.ValType.{ValType}
use Rattle.tables.proofs.ClosedTypesRowByRow.{length-closed_rows}
use Rattle.values.specs.Types.{IsInside}

-- a type of the package has a row
pub row-count : (r : Resolve) (table : LayoutTable) → table ≡ layouts_of r → length table.rows ≡ length r.definitions
row-count r table is = ap (λ t. length t.rows) is ∙ length-map _ _ ∙ length-closed_rows [] r.definitions ∙ omega arith

pub has-row : (r : Resolve) (table : LayoutTable) (v : ValType) → table ≡ layouts_of r → IsInside r v → IsTrue (is_below (length table.rows) v)
has-row r table v is inside =
    rw (row-count r table is) inside

pub align-pos : (t : ClosedType) → 0 < align t
align-pos t = elim (is-alignment t) [
  | inl h ↦ omega (arith, h)
  | inr (inl h) ↦ omega (arith, h)
  | inr (inr (inl h)) ↦ omega (arith, h)
  | inr (inr (inr h)) ↦ omega (arith, h)
]

-- ---- a variant's payload

payloads-alignment : (k : ℕ) (cs : Cases) → IsAlignment k → IsAlignment (fold (λ n x. max n x.align) k (payload_extents cs))
payloads-alignment k no_case h = h
payloads-alignment k (plain_case cs) h = payloads-alignment k cs h
payloads-alignment k (case_with t cs) h = payloads-alignment (max k (align t)) cs (max-alignment k (align t) h (is-alignment t))

discriminant-alignment : (b c : Bool) → IsAlignment (if b then 1 else (if c then 2 else 4))
discriminant-alignment true c = inl refl
discriminant-alignment false true = inr (inl refl)
discriminant-alignment false false = inr (inr (inl refl))

-- one alignment's place behind a number of another is the greater of them
place-by : (d g : ℕ) → IsAlignment d → IsAlignment g → next_multiple_of d g ≡ max d g
place-by d g (inl p) (inl q) = rw (p, q) refl
place-by d g (inl p) (inr (inl q)) = rw (p, q) refl
place-by d g (inl p) (inr (inr (inl q))) = rw (p, q) refl
place-by d g (inl p) (inr (inr (inr q))) = rw (p, q) refl
place-by d g (inr (inl p)) (inl q) = rw (p, q) refl
place-by d g (inr (inl p)) (inr (inl q)) = rw (p, q) refl
place-by d g (inr (inl p)) (inr (inr (inl q))) = rw (p, q) refl
place-by d g (inr (inl p)) (inr (inr (inr q))) = rw (p, q) refl
place-by d g (inr (inr (inl p))) (inl q) = rw (p, q) refl
place-by d g (inr (inr (inl p))) (inr (inl q)) = rw (p, q) refl
place-by d g (inr (inr (inl p))) (inr (inr (inl q))) = rw (p, q) refl
place-by d g (inr (inr (inl p))) (inr (inr (inr q))) = rw (p, q) refl
place-by d g (inr (inr (inr p))) (inl q) = rw (p, q) refl
place-by d g (inr (inr (inr p))) (inr (inl q)) = rw (p, q) refl
place-by d g (inr (inr (inr p))) (inr (inr (inl q))) = rw (p, q) refl
place-by d g (inr (inr (inr p))) (inr (inr (inr q))) = rw (p, q) refl

-- the payload stands at the variant's alignment
pub payload-place : (cs : Cases) → payload_place cs ≡ align (variant_type cs)
payload-place cs =
    place-by (discriminant_size (case_count cs)) (greatest_align (payload_extents cs)) (discriminant-alignment (nat_le (case_count cs) 256) (nat_le (case_count cs) 65536)) (payloads-alignment 1 cs (inl refl))

payload-size : (k : ℕ) (cs : Cases) (n : ℕ) (t : ClosedType) → nth_case cs n ≡ Some (Some t) → size t ≤ fold (λ m x. max m x.size) k (payload_extents cs)
payload-size k no_case n t e = absurd (let h : None ≡ Some (Some t) = e in cc)
payload-size k (plain_case cs) zero t e = cc
payload-size k (plain_case cs) (suc n) t e = payload-size k cs n t e
payload-size k (case_with u cs) zero t e =
    let same : u ≡ t = cc in
    let more = greatest-le (max k (size u)) (payload_extents cs) in
    let here : size u ≡ size t = ap size same in
    omega arith
payload-size k (case_with u cs) (suc n) t e = payload-size (max k (size u)) cs n t e

-- a payload ends inside the variant
pub payload-fits : (cs : Cases) (n : ℕ) (t : ClosedType) → nth_case cs n ≡ Some (Some t) → payload_place cs + size t ≤ size (variant_type cs)
payload-fits cs n t e =
    let h = payload-size 0 cs n t e in omega arith

-- the fields of a record end inside it
pub fields-fit : (fs : Fields) → end_from 0 (field_extents fs) ≤ size (record_type fs)
fields-fit fs = omega arith

-- ---- depth

pub member-depth : (fs : Fields) (i : ℕ) (t : ClosedType) → nth_field fs i ≡ Some t → depth t ≤ fields_depth fs
member-depth no_field i t e = absurd (let n : None ≡ Some t = e in cc)
member-depth (field u fs) zero t e = let h : u ≡ t = cc in let d = ap depth h in omega arith
member-depth (field u fs) (suc i) t e = let d = member-depth fs i t e in omega arith

nth_case-depth : (cs : Cases) (i : ℕ) (t : ClosedType) → nth_case cs i ≡ Some (Some t) → depth t ≤ cases_depth cs
nth_case-depth no_case i t e = absurd (let n : None ≡ Some (Some t) = e in cc)
nth_case-depth (plain_case cs) zero t e = cc
nth_case-depth (plain_case cs) (suc i) t e = nth_case-depth cs i t e
nth_case-depth (case_with u cs) zero t e = let h : u ≡ t = cc in let d = ap depth h in omega arith
nth_case-depth (case_with u cs) (suc i) t e = let d = nth_case-depth cs i t e in omega arith

pub case-depth : (r : ClosedType) (i : ℕ) (t : ClosedType) → nth_case (variant_cases r) i ≡ Some (Some t) → depth t < depth r
case-depth (variant_type cs) i t e = let d = nth_case-depth cs i t e in omega arith
case-depth _ i t e = absurd (let n : None ≡ Some (Some t) = e in cc)

-- ---- one type as a list

pub one-inside : (n : ℕ) (v : ValType) → IsTrue (is_below n v) → (k : ℕ) (d : ValType) → k < 1 → IsTrue (is_below n (slice_index_or (v ∷ []) k d))
one-inside n v h zero d below = h
one-inside n v h (suc k) d below = absurd (omega arith)
