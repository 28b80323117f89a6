-- The rows and the ids of an interface, after its rows were read.
use Rattle.std.proofs.Common.{◌≡◌, ℕ, suc, ◌+◌, Bool, true, false, cond, not, ◌&&◌, List, [], ◌∷◌, ◌++◌, length, map, is_some, refl, ap, sym, ◌∙◌, append_assoc, append-nil, length-append}
use Rattle.std.proofs.lemmas.List.{map-append}
use Rattle.package_form.specs.Ids.{is_use, places_where, type_id, function_id}
use Rattle.package_form.proofs.InnerRowsInPostfix.{is_function}
use Rattle.tables.specs.declared.tables.TypeId.{TypeId}
use Rattle.tables.specs.declared.tables.ValType.TheVariants as val
use Rattle.tables.specs.declared.tables.TypeDefKind.{TypeDefKind}
use Rattle.tables.specs.declared.tables.TypeDefKind.TheVariants as kind
use Rattle.tables.specs.declared.tables.Definition.{Definition}
use Rattle.tables.specs.declared.tables.Definition.TheVariants as row
use Rattle.component_reader.specs.Instance.{InstanceRead, named_row}
use Rattle.wit_component.proofs.AlikeRows.{IsAlike, same, uses, AreAlike, none, one_more}
use Rattle.wit_component.proofs.ReadAgain.ReadableRows.{row_after, rows_after, IsRowOf, nameless, type_of_it, function_of_it, AreRowsOf}

-- the three kinds of rows with names
abbrev pub is_use_row : Definition → Bool
is_use_row (row.Type d) = is_some d.name && is_use d.kind
is_use_row (row.Function f) = false

abbrev pub is_type_row : Definition → Bool
is_type_row (row.Type d) = is_some d.name && not (is_use d.kind)
is_type_row (row.Function f) = false

places-more : (p : Definition → Bool) (n : ℕ) (d : Definition) (ds : List Definition) → places_where p n (d ∷ ds) ≡ places_where p n (d ∷ []) ++ places_where p (n + 1) ds
places-more p n d ds = by (p d)
  where
    by : (b : Bool) → cond b (n ∷ places_where p (n + 1) ds) (places_where p (n + 1) ds) ≡ cond b (n ∷ []) [] ++ places_where p (n + 1) ds
    by true = refl
    by false = refl

-- ---- one row

module _ (k : ℕ) where
  named-rows : (x : List ℕ) (what : TypeDefKind) (s : InstanceRead) → (row_after k (named_row k x what) s).rows ≡ s.rows ++ named_row k x what ∷ []
  named-rows x (kind.Alias (val.Id t)) s = refl
  named-rows x _ s = refl

  row-rows : (e : Definition) → IsRowOf k e → (s : InstanceRead) → (row_after k e s).rows ≡ s.rows ++ e ∷ []
  row-rows _ (nameless what is) s = refl
  row-rows _ (type_of_it x what) s = named-rows x what s
  row-rows _ (function_of_it x ps result) s = refl

  named-uses : (x : List ℕ) (what : TypeDefKind) (s : InstanceRead)
      → (row_after k (named_row k x what) s).uses ≡ s.uses ++ map type_id (places_where is_use_row (length s.rows) (named_row k x what ∷ []))
  named-uses x (kind.Use t) s = refl
  named-uses x (kind.Alias (val.Id t)) s = sym (append-nil s.uses)
  named-uses x _ s = sym (append-nil s.uses)

  row-uses : (e : Definition) → IsRowOf k e → (s : InstanceRead) → (row_after k e s).uses ≡ s.uses ++ map type_id (places_where is_use_row (length s.rows) (e ∷ []))
  row-uses _ (nameless what is) s = sym (append-nil s.uses)
  row-uses _ (type_of_it x what) s = named-uses x what s
  row-uses _ (function_of_it x ps result) s = sym (append-nil s.uses)

  named-types : (x : List ℕ) (what : TypeDefKind) (s : InstanceRead)
      → (row_after k (named_row k x what) s).types ≡ s.types ++ map type_id (places_where is_type_row (length s.rows) (named_row k x what ∷ []))
  named-types x (kind.Use t) s = sym (append-nil s.types)
  named-types x (kind.Alias (val.Id t)) s = refl
  named-types x _ s = refl

  row-types : (e : Definition) → IsRowOf k e → (s : InstanceRead) → (row_after k e s).types ≡ s.types ++ map type_id (places_where is_type_row (length s.rows) (e ∷ []))
  row-types _ (nameless what is) s = sym (append-nil s.types)
  row-types _ (type_of_it x what) s = named-types x what s
  row-types _ (function_of_it x ps result) s = sym (append-nil s.types)

  named-functions : (x : List ℕ) (what : TypeDefKind) (s : InstanceRead) → (row_after k (named_row k x what) s).functions ≡ s.functions ++ []
  named-functions x (kind.Alias (val.Id t)) s = sym (append-nil s.functions)
  named-functions x _ s = sym (append-nil s.functions)

  row-functions : (e : Definition) → IsRowOf k e → (s : InstanceRead)
      → (row_after k e s).functions ≡ s.functions ++ map function_id (places_where is_function (length s.rows) (e ∷ []))
  row-functions _ (nameless what is) s = sym (append-nil s.functions)
  row-functions _ (type_of_it x what) s = named-functions x what s
  row-functions _ (function_of_it x ps result) s = refl

  -- ---- all rows

  pub rows-rows : (es : List Definition) → AreRowsOf k es → (s : InstanceRead) → (rows_after k es s).rows ≡ s.rows ++ es
  rows-rows [] own s = sym (append-nil s.rows)
  rows-rows (e ∷ es) own s =
      rows-rows es own.1 (row_after k e s) ∙ ap (λ rs. rs ++ es) (row-rows e own.0 s) ∙ append_assoc s.rows (e ∷ []) es

  module _ {B : Type 0} (ids : InstanceRead → List B) (make : ℕ → B) (p : Definition → Bool)
      (one : (e : Definition) → IsRowOf k e → (s : InstanceRead) → ids (row_after k e s) ≡ ids s ++ map make (places_where p (length s.rows) (e ∷ []))) where
    rows-ids : (es : List Definition) → AreRowsOf k es → (s : InstanceRead) → ids (rows_after k es s) ≡ ids s ++ map make (places_where p (length s.rows) es)
    rows-ids [] own s = sym (append-nil (ids s))
    rows-ids (e ∷ es) own s =
        let n = length s.rows in
        let len : length (row_after k e s).rows ≡ n + 1 = ap length (row-rows e own.0 s) ∙ length-append s.rows (e ∷ []) in
        rows-ids es own.1 (row_after k e s)
        ∙ ap (λ m. ids (row_after k e s) ++ map make (places_where p m es)) len
        ∙ ap (λ bs. bs ++ map make (places_where p (n + 1) es)) (one e own.0 s)
        ∙ append_assoc (ids s) (map make (places_where p n (e ∷ []))) (map make (places_where p (n + 1) es))
        ∙ ap (λ bs. ids s ++ bs) (sym (map-append make (places_where p n (e ∷ [])) (places_where p (n + 1) es)))
        ∙ ap (λ ns. ids s ++ map make ns) (sym (places-more p n e es))

  pub rows-uses : (es : List Definition) → AreRowsOf k es → (s : InstanceRead) → (rows_after k es s).uses ≡ s.uses ++ map type_id (places_where is_use_row (length s.rows) es)
  rows-uses es own s = rows-ids (λ s. s.uses) type_id is_use_row row-uses es own s

  pub rows-types : (es : List Definition) → AreRowsOf k es → (s : InstanceRead) → (rows_after k es s).types ≡ s.types ++ map type_id (places_where is_type_row (length s.rows) es)
  rows-types es own s = rows-ids (λ s. s.types) type_id is_type_row row-types es own s

  pub rows-functions : (es : List Definition) → AreRowsOf k es → (s : InstanceRead)
      → (rows_after k es s).functions ≡ s.functions ++ map function_id (places_where is_function (length s.rows) es)
  rows-functions es own s = rows-ids (λ s. s.functions) function_id is_function row-functions es own s

-- ---- rows that are alike

module _ (table : List Definition) (p : Definition → Bool) (q : (x : _) (t u : TypeId) → p (row.Type (record { name = x; kind = kind.Use t })) ≡ p (row.Type (record { name = x; kind = kind.Use u }))) where
  alike-test : (n : ℕ) (d e : Definition) → IsAlike table n d e → p d ≡ p e
  alike-test n _ _ (same d) = refl
  alike-test n _ _ (uses x t u y a b c) = q x t u

  pub alike-places : (n : ℕ) (ds es : List Definition) → AreAlike table n ds es → places_where p n ds ≡ places_where p n es
  alike-places _ _ _ (none n) = refl
  alike-places _ _ _ (one_more n d e ds es one all) =
      ap (λ b. cond b (n ∷ places_where p (n + 1) ds) (places_where p (n + 1) ds)) (alike-test n d e one)
      ∙ ap (λ ns. cond (p e) (n ∷ ns) ns) (alike-places (n + 1) ds es all)

pub alike-length : (table : List Definition) (n : ℕ) (ds es : List Definition) → AreAlike table n ds es → length ds ≡ length es
alike-length table _ _ _ (none n) = refl
alike-length table _ _ _ (one_more n d e ds es one all) = ap suc (alike-length table (n + 1) ds es all)
