-- Rows of a table from one place to another.
use Rattle.std.proofs.Common.{◌≡◌, ℕ, suc, ◌+◌, ◌-◌, ◌<◌, ◌≤◌, List, [], ◌∷◌, ◌++◌, take, drop, length, slice_get, Some, refl, sym, ap, ◌∙◌, arith, take-add}
use Rattle.std.proofs.lemmas.List.{length-take, length-drop, take-append-drop, drop-drop}
use Rattle.tables.specs.declared.tables.Definition.{Definition}
use Rattle.wit_component.specs.Worlds.{rows_between}
use Rattle.wit_component.proofs.AcceptedComponents.RowsOfInterfaces.{get-drop}

module _ (rows : List Definition) where
  pub end-length : (n f : ℕ) → n ≤ f → f < length rows → n + length (rows_between rows n f) ≡ f
  end-length n f low up = omega (arith, low, up, length-take (f - n) (drop n rows), length-drop n rows)

  pub rest-is : (n f : ℕ) → n ≤ f → drop n rows ≡ rows_between rows n f ++ drop f rows
  rest-is n f low =
      let at_f : n + (f - n) ≡ f = omega (arith, low) in
      sym (take-append-drop (f - n) (drop n rows)) ∙ ap (λ ds. rows_between rows n f ++ ds) (drop-drop (f - n) n rows ∙ ap (λ m. drop m rows) at_f)

  pub first-row : (f : ℕ) → f < length rows → (d : Definition) × (drop f rows ≡ d ∷ drop (f + 1) rows) × (slice_get rows f ≡ Some d)
  first-row f up = by (drop f rows) refl
    where
      by : (ds : List Definition) → drop f rows ≡ ds → (d : Definition) × (drop f rows ≡ d ∷ drop (f + 1) rows) × (slice_get rows f ≡ Some d)
      by [] e = absurd (omega (arith, up, length-drop f rows, ap (λ (xs : List Definition). length xs) e))
      by (d ∷ ds) e =
          let at = get-drop rows f d ds e in
          let one : f + 1 ≡ suc f = omega arith in
          (d, e ∙ ap (λ xs. d ∷ xs) (sym at.1) ∙ ap (λ m. d ∷ drop m rows) (sym one), at.0)

  pub cut-own : (n f end : ℕ) (d : Definition) → n ≤ f → f < end → drop f rows ≡ d ∷ drop (f + 1) rows → rows_between rows n end ≡ rows_between rows n f ++ d ∷ rows_between rows (f + 1) end
  cut-own n f end d low up is =
      let total : (f - n) + (end - f) ≡ end - n = omega (arith, low, up) in
      let at_f : n + (f - n) ≡ f = omega (arith, low) in
      let one : end - f ≡ suc (end - (f + 1)) = omega (arith, up) in
      ap (λ m. take m (drop n rows)) (sym total) ∙ take-add (f - n) (end - f) (drop n rows)
      ∙ ap (λ xs. rows_between rows n f ++ take (end - f) xs) (drop-drop (f - n) n rows ∙ ap (λ m. drop m rows) at_f ∙ is)
      ∙ ap (λ m. rows_between rows n f ++ take m (d ∷ drop (f + 1) rows)) one

  -- the rows up to the function and its own
  pub more-rows : (n f : ℕ) (d : Definition) → n ≤ f → drop f rows ≡ d ∷ drop (f + 1) rows → rows_between rows n (f + 1) ≡ rows_between rows n f ++ d ∷ []
  more-rows n f d low is =
      let none : (f + 1) - (f + 1) ≡ 0 = omega arith in
      cut-own n f (f + 1) d low (omega arith) is ∙ ap (λ m. rows_between rows n f ++ d ∷ take m (drop (f + 1) rows)) none
