-- Declarations of rows, one row after the other.
use Rattle.std.proofs.Common.{◌≡◌, ℕ, ◌+◌, ◌<◌, true, ◌&&◌, IsTrue, List, [], ◌∷◌, ◌++◌, length, take, get_or, refl, ap, sym, ◌∙◌, append_assoc, append-nil}
use Rattle.std.specs.List.{list_all}
use Rattle.std.proofs.lemmas.Grind.{take_at_read}
use Rattle.std.proofs.lemmas.List.Folds.{list_all-append}
use Rattle.tables.specs.declared.tables.Definition.{Definition}
use Rattle.wit_component.specs.Rows.{Place, row_declarations, place_after, declarations_of, places_after}
use Rattle.wit_component.specs.ToComponent.{is_labelled}
use Rattle.tables.proofs.ClosedTypesRowByRow.{both}

pub places-append : (at : Place) (ds es : List Definition) → places_after at (ds ++ es) ≡ places_after (places_after at ds) es
places-append at [] es = refl
places-append at (d ∷ ds) es = places-append (place_after at d) ds es

pub declarations-append : (at : Place) (ds es : List Definition) → declarations_of at (ds ++ es) ≡ declarations_of at ds ++ declarations_of (places_after at ds) es
declarations-append at [] es = refl
declarations-append at (d ∷ ds) es =
    ap (λ xs. row_declarations at d ++ xs) (declarations-append (place_after at d) ds es)
    ∙ sym (append_assoc (row_declarations at d) (declarations_of (place_after at d) ds) (declarations_of (places_after (place_after at d) ds) es))

module _ (at : Place) (rows : List Definition) (k : ℕ) (d : Definition) (l : k < length rows) (is : d ≡ get_or rows k d) where
  more : take (k + 1) rows ≡ take k rows ++ d ∷ []
  more = (take_at_read rows k d l).1 ∙ ap (λ (e : Definition). take k rows ++ e ∷ []) (sym is)

  pub places-more : places_after at (take (k + 1) rows) ≡ place_after (places_after at (take k rows)) d
  places-more = ap (places_after at) more ∙ places-append at (take k rows) (d ∷ [])

  pub declarations-more : declarations_of at (take (k + 1) rows) ≡ declarations_of at (take k rows) ++ row_declarations (places_after at (take k rows)) d
  declarations-more =
      ap (declarations_of at) more ∙ declarations-append at (take k rows) (d ∷ [])
      ∙ ap (λ xs. declarations_of at (take k rows) ++ xs) (append-nil (row_declarations (places_after at (take k rows)) d))

  pub labels-more : IsTrue (list_all is_labelled (take k rows)) → IsTrue (is_labelled d) → IsTrue (list_all is_labelled (take (k + 1) rows))
  labels-more before own =
      ap (list_all is_labelled) more ∙ list_all-append is_labelled (take k rows) (d ∷ []) ∙ both (list_all is_labelled (take k rows)) (is_labelled d && true) before (both (is_labelled d) true own refl)
