-- What is written of a world, one item after the other.
use Rattle.std.proofs.Common.{◌≡◌, ℕ, zero, suc, ◌+◌, ◌-◌, ◌<◌, ◌≤◌, true, ◌&&◌, List, [], ◌∷◌, ◌++◌, take, drop, length, get_or, slice_get, Some, refl, ap, sym, subst, ◌∙◌, arith, append_assoc, add-one, take-add}
use Rattle.std.specs.List.{list_all}
use Rattle.std.proofs.Math.Seq.{drop-cons}
use Rattle.std.proofs.lemmas.List.{drop-drop}
use Rattle.std.proofs.lemmas.List.Folds.{list_all-append}
use Rattle.ctype_format.specs.Raw.{Decl}
use Rattle.tables.specs.declared.tables.Definition.{Definition}
use Rattle.tables.specs.declared.tables.WorldItem.{WorldItem}
use Rattle.tables.proofs.ClosedTypesRowByRow.{both}
use Rattle.wit_component.specs.Rows.{Place, place_after, places_after}
use Rattle.wit_component.specs.ToComponent.{is_labelled}
use Rattle.package_form.specs.Ends.{behind_item, behind_items}
use Rattle.wit_component.specs.Worlds.{rows_between, Surroundings, item_declarations, item_place, items_declared, items_place, StandFrom}
use Rattle.wit_component.proofs.DeclarationsRowByRow.{places-append}
use Rattle.wit_component.proofs.InterfaceRows.RowsBetweenPlaces.{first-row, more-rows}

pub next-of : {A : Type 0} (xs : List A) (k : ℕ) (x : A) → k < length xs → x ≡ get_or xs k x → drop k xs ≡ x ∷ drop (k + 1) xs
next-of xs k x l is = drop-cons xs k x l ∙ ap (λ y. y ∷ drop (suc k) xs) (sym is) ∙ ap (λ m. x ∷ drop m xs) (sym (add-one k))

pub found-at : {A : Type 0} (xs : List A) (k : ℕ) (x : A) → k < length xs → x ≡ get_or xs k x → slice_get xs k ≡ Some x
found-at [] k x l is = absurd (omega (arith, l))
found-at (y ∷ xs) zero x l is = ap (λ z. Some z) (sym is)
found-at (y ∷ xs) (suc k) x l is = found-at xs k x (omega (arith, l)) is

module _ (rows : List Definition) (n f : ℕ) (d : Definition) (low : n ≤ f) (l : f < length rows) (is : d ≡ get_or rows f d) where
  pub function-rows : rows_between rows n (f + 1) ≡ rows_between rows n f ++ d ∷ []
  function-rows =
      let first = first-row rows f l in
      let told : Some first.0 ≡ Some d = sym first.2 ∙ found-at rows f d l is in
      let same : first.0 ≡ d = cc in
      more-rows rows n f d low (first.1 ∙ ap (λ x. x ∷ drop (f + 1) rows) same)

  pub function-place : (at : Place) → places_after at (rows_between rows n (f + 1)) ≡ place_after (places_after at (rows_between rows n f)) d
  function-place at = ap (places_after at) function-rows ∙ places-append at (rows_between rows n f) (d ∷ [])

  pub function-labels : list_all is_labelled (rows_between rows n f) ≡ true → is_labelled d ≡ true → list_all is_labelled (rows_between rows n (f + 1)) ≡ true
  function-labels front own =
      ap (list_all is_labelled) function-rows ∙ list_all-append is_labelled (rows_between rows n f) (d ∷ [])
      ∙ both (list_all is_labelled (rows_between rows n f)) (is_labelled d && true) front (both (is_labelled d) true own refl)

pub labels-between : (rows : List Definition) (n m end : ℕ) → n ≤ m → m ≤ end → list_all is_labelled (rows_between rows n m) ≡ true → list_all is_labelled (rows_between rows m end) ≡ true
    → list_all is_labelled (rows_between rows n end) ≡ true
labels-between rows n m end low up front back =
    let total : (m - n) + (end - m) ≡ end - n = omega (arith, low, up) in
    let at_m : n + (m - n) ≡ m = omega (arith, low) in
    let parts : rows_between rows n end ≡ rows_between rows n m ++ rows_between rows m end =
    ap (λ k. take k (drop n rows)) (sym total) ∙ take-add (m - n) (end - m) (drop n rows)
    ∙ ap (λ xs. rows_between rows n m ++ take (end - m) xs) (drop-drop (m - n) n rows ∙ ap (λ k. drop k rows) at_m) in
    ap (list_all is_labelled) parts ∙ list_all-append is_labelled (rows_between rows n m) (rows_between rows m end) ∙ both _ _ front back

-- ---- an item is passed

pub record ItemPassed (around : Surroundings) (count : ℕ) (items : List WorldItem) (k : ℕ) (old new : List Decl) (place next : Place) (start end : ℕ) : Type 0 where
  pub declarations : new ++ items_declared around next end (drop (k + 1) items) ≡ old ++ items_declared around place start (drop k items)
  pub place_is : items_place around.rows next end (drop (k + 1) items) ≡ items_place around.rows place start (drop k items)
  pub ends : behind_items end (drop (k + 1) items) ≡ behind_items start (drop k items)
  pub stand : StandFrom count around.rows start (drop k items) → StandFrom count around.rows end (drop (k + 1) items)

pub item-passed : (around : Surroundings) (count : ℕ) (items : List WorldItem) (k : ℕ) (d : WorldItem) → k < length items → (old new : List Decl) (place next : Place) (start end : ℕ)
    → new ≡ old ++ item_declarations around place start (get_or items k d).direction (get_or items k d).kind → next ≡ item_place around.rows place start (get_or items k d).kind
    → end ≡ behind_item start (get_or items k d).kind → ItemPassed around count items k old new place next start end
item-passed around count items k d l old new place next start end declared placed ended =
    let rest = drop (k + 1) items in
    let item = get_or items k d in
    let is : drop k items ≡ item ∷ rest = drop-cons items k d l ∙ ap (λ m. item ∷ drop m items) (sym (add-one k)) in
    record {
      declarations =
          (λ j. (declared j) ++ items_declared around (placed j) (ended j) rest)
          ∙ append_assoc old (item_declarations around place start item.direction item.kind) (items_declared around (item_place around.rows place start item.kind) (behind_item start item.kind) rest)
          ∙ sym (ap (λ (is : List WorldItem). old ++ items_declared around place start is) is);
      place_is = (λ j. items_place around.rows (placed j) (ended j) rest) ∙ sym (ap (items_place around.rows place start) is);
      ends = ap (λ (e : ℕ). behind_items e rest) ended ∙ sym (ap (behind_items start) is);
      stand = λ h. subst (λ (e : ℕ). StandFrom count around.rows e rest) (sym ended) (subst (λ (is : List WorldItem). StandFrom count around.rows start is) is h).1;
    }
