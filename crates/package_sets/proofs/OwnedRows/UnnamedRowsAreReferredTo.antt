-- In postfix order a later row refers to each row without a name.
use Rattle.std.proofs.Common.{◌≡◌, ◌<◌, ◌⊎◌, inl, inr, ℕ, zero, suc, Bool, true, false, List, [], ◌∷◌, ◌++◌, length, slice_get, Some, ap, sym, subst, ◌∙◌, arith, true≢false}
use Rattle.std.specs.Prelude.{Contains}
use Rattle.std.proofs.lemmas.Option.{slice_get_within}
use Rattle.package_form.specs.Postfix.{is_unnamed, one_if, parts, parts_of, aliased_by, inner_row, Leaves, begin, inner, whole, IsPostfix}
use Rattle.package_form.specs.References.{row_references}
use Rattle.package_form.specs.Unused.{unnamed_at}
use Rattle.package_form.proofs.AllAndContains.{contains-here, contains-left, contains-right, contains-either}
use Rattle.package_form.proofs.InnerRowsInPostfix.{can-inner, inner-can}
use Rattle.tables.specs.declared.tables.Definition.{Definition}
use Rattle.package_sets.proofs.OwnedRows.WorldsAreApart.{push-get, inner-plain}
use Rattle.package_sets.proofs.GrowingLists.{last-get, front-get, contains-unflat}

-- a row behind place k refers to the row there
pub record IsReferred (rows : List Definition) (k : ℕ) : Type 0 where
  pub place : ℕ
  pub one : Definition
  pub later : k < place
  pub at : slice_get rows place ≡ Some one
  pub refers : Contains (row_references one) (record { 0 = k })

-- a row refers to what it is made of
part-referred : (rows : List Definition) (d : Definition) (k : ℕ) → aliased_by rows d ≡ [] → Contains (parts_of rows d) k → Contains (row_references d) (record { 0 = k })
part-referred rows d k a c =
    let u = contains-unflat (unnamed_at rows) (row_references d) k (subst (λ (ns : List ℕ). Contains ns k) (sym (can-inner rows d (inner-can rows d a)).0) c) in
    subst (λ (n : ℕ). Contains (row_references d) (record { 0 = n })) (only _ u.0.0 u.2) u.1
  where
    only : (b : Bool) (n : ℕ) → Contains (one_if b n) k → n ≡ k
    only false n (m, l, e) = absurd (omega (arith, l))
    only true n (zero, l, e) = e
    only true n (suc m, l, e) = absurd (omega (arith, l))

referred-more : (rows : List Definition) (c : Definition) (k : ℕ) → IsReferred rows k → IsReferred (rows ++ c ∷ []) k
referred-more rows c k r = record { place = r.place; one = r.one; later = r.later; at = front-get rows (c ∷ []) r.place r.one r.at; refers = r.refers }

-- .. that is the last
referred-last : (rows : List Definition) (d : Definition) (k : ℕ) → k < length rows → aliased_by rows d ≡ [] → Contains (parts_of rows d) k → IsReferred (rows ++ d ∷ []) k
referred-last rows d k l a c = record { place = length rows; one = d; later = l; at = last-get rows d; refers = part-referred rows d k a c }

-- .. or it is still to be used
referred-or-left : (rows : List Definition) (unused : List ℕ) → Leaves rows unused → (k : ℕ) (d : Definition) → slice_get rows k ≡ Some d → is_unnamed d ≡ true → Contains unused k ⊎ IsReferred rows k
referred-or-left _ _ begin k d e u = absurd (cc)
referred-or-left _ _ (inner rows unused kk i l) k d e u = by (λ g. referred-or-left rows (unused ++ parts rows kk) l k d g u) (push-get rows (inner_row kk) d k e)
  where
    by : (slice_get rows k ≡ Some d → Contains (unused ++ parts rows kk) k ⊎ IsReferred rows k) → (slice_get rows k ≡ Some d) ⊎ ((k ≡ length rows) × (inner_row kk ≡ d))
        → Contains (unused ++ length rows ∷ []) k ⊎ IsReferred (rows ++ inner_row kk ∷ []) k
    by rest (inl g) = elim (rest g) [
      | inr r ↦ inr (referred-more rows (inner_row kk) k r)
      | inl c ↦ elim (contains-either unused (parts rows kk) k c) [
        | inl h ↦ inl (contains-left unused (length rows ∷ []) k h)
        | inr h ↦ inr (referred-last rows (inner_row kk) k (slice_get_within rows k d g) (inner-plain rows kk i) h)
      ]
    ]
    by rest (inr g) = inl (contains-right unused (length rows ∷ []) k (subst (λ (n : ℕ). Contains (length rows ∷ []) n) (sym g.0) (contains-here (length rows) [])))
referred-or-left _ _ (whole rows w n a l) k d e u = by (λ g. referred-or-left rows (parts_of rows w) l k d g u) (push-get rows w d k e)
  where
    by : (slice_get rows k ≡ Some d → Contains (parts_of rows w) k ⊎ IsReferred rows k) → (slice_get rows k ≡ Some d) ⊎ ((k ≡ length rows) × (w ≡ d)) → Contains [] k ⊎ IsReferred (rows ++ w ∷ []) k
    by rest (inl g) = elim (rest g) [
      | inr r ↦ inr (referred-more rows w k r)
      | inl c ↦ inr (referred-last rows w k (slice_get_within rows k d g) a c)
    ]
    by rest (inr g) = absurd (true≢false (sym u ∙ (ap is_unnamed (sym g.1) ∙ n)))

pub referred : (rows : List Definition) → IsPostfix rows → (k : ℕ) (d : Definition) → slice_get rows k ≡ Some d → is_unnamed d ≡ true → IsReferred rows k
referred rows p k d e u = elim (referred-or-left rows [] p k d e u) [ inl c ↦ absurd (omega (arith, c.1)) | inr r ↦ r ]
