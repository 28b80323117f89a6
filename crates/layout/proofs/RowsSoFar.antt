-- A layout table while it is made: its rows are those of the first closed types.
use Rattle.std.proofs.Common.{◌≡◌, ℕ, ◌+◌, ◌<◌, ◌≤◌, IsTrue, List, [], ◌∷◌, ◌++◌, length, map, take, get_or, All, refl, ap, sym, subst, ◌∙◌, below_more, arith}
use Rattle.std.proofs.lemmas.List.{length-map, map-append, take_all, get_or_default}
use Rattle.std.specs.List.{list_all}
use Rattle.canonical_abi.specs.Types.{ClosedType, string_type}
use Rattle.tables.specs.Tables.{is_below, option_below, definition_below}
use Rattle.tables.specs.Closed.{closed_definition, closed_rows, closed_types}
use Rattle.tables.specs.declared.tables.Definition.{Definition}
use Rattle.tables.specs.declared.tables.Definition.TheVariants as row
use Rattle.tables.specs.declared.tables.Resolve.{Resolve}
use Rattle.tables.proofs.ClosedTypesRowByRow.{split, below-at, option_below-later, length-closed_rows, length-front, closed_rows-more, closed-at}
use Rattle.layout.specs.Layout.{row_of, IsSound, IsDefinitionWithin, LayoutRefuses, RefusesAt, RefusesFirst, AreWithin}
use Rattle.layout.specs.Rows.{definition_row, result_below, IsLimitedDefinition, RefusesDefinition}
use Rattle.layout.specs.declared.rows.Row.{Row}
use Rattle.layout.specs.declared.error.LayoutError.{LayoutError}
use Rattle.layout.specs.declared.error.LayoutError.TheVariants.{TooDeep, TooLarge, NoMemory}
use Rattle.layout.proofs.RowsOfClosedTypes.{definition_row-of}

limited-within : (d : Definition) (t : ClosedType) → IsLimitedDefinition d (row_of t) → IsDefinitionWithin d t
limited-within (row.Type d) t h = (omega (arith, h.0), h.1)
limited-within (row.Function f) t h = h

refused-closed : (e : LayoutError) (d : Definition) (t : ClosedType) → RefusesDefinition e d (row_of t) → LayoutRefuses e d t
refused-closed TooDeep (row.Type d) t h = omega (arith, h)
refused-closed TooDeep (row.Function f) t h = h
refused-closed TooLarge (row.Type d) t h = (omega (arith, h.0), h.1)
refused-closed TooLarge (row.Function f) t h = h
refused-closed NoMemory d t h = tt

-- the first i rows, all within the limits
pub record RowsSoFar (r : Resolve) (i : ℕ) (rows : List Row) : Type 0 where
  pub rows_are : rows ≡ map row_of (closed_rows [] (take i r.definitions))
  pub sound : All IsSound rows
  pub within : (k : ℕ) → k < i → (d : Definition) → get_or r.definitions k d ≡ d → IsDefinitionWithin d (get_or (closed_types r) k string_type)

pub rows-none : (r : Resolve) → RowsSoFar r 0 []
rows-none r = record {
  rows_are = refl;
  sound = λ k d h. absurd (omega arith);
  within = λ k h. absurd (omega arith);
}

pub length-rows : (r : Resolve) (i : ℕ) (rows : List Row) → i ≤ length r.definitions → RowsSoFar r i rows → length rows ≡ i
length-rows r i rows h so_far =
    ap length so_far.rows_are ∙ length-map (closed_rows [] (take i r.definitions)) row_of ∙ length-front r.definitions i h

module _ (r : Resolve) (i : ℕ) (rows : List Row) (d : Definition) (h : i < length r.definitions) (is : d ≡ get_or r.definitions i d) (so_far : RowsSoFar r i rows) where
  pub next-below : IsTrue (definition_below (length rows) d)
  next-below = below-at (length rows) r.definitions i d r.earlier h (length-rows r i rows (omega arith) so_far) is

  -- the row that is made is that of the definition's closed type
  made : definition_row rows d ≡ row_of (get_or (closed_types r) i string_type)
  made =
      ap (λ (rs : List Row). definition_row rs d) so_far.rows_are
      ∙ definition_row-of (closed_rows [] (take i r.definitions)) d
      ∙ ap (λ (e : Definition). row_of (closed_definition (closed_rows [] (take i r.definitions)) e)) is
      ∙ ap row_of (sym (closed-at r.definitions i d h))

  pub rows-more : (x : Row) (rows' : List Row) → x ≡ definition_row rows d → IsSound x → IsLimitedDefinition d x → rows' ≡ rows ++ x ∷ [] → All IsSound rows' → RowsSoFar r (i + 1) rows'
  rows-more x rows' x_is sound limited more all =
      let ts = closed_rows [] (take i r.definitions) in
      let t = closed_definition ts (get_or r.definitions i d) in
      let row_is : x ≡ row_of t = x_is ∙ made ∙ ap row_of (closed-at r.definitions i d h) in
      record {
        rows_are = more
            ∙ ap (λ (rs : List Row). rs ++ x ∷ []) so_far.rows_are
            ∙ ap (λ (y : Row). map row_of ts ++ y ∷ []) row_is
            ∙ sym (map-append row_of ts (t ∷ []))
            ∙ sym (ap (map row_of) (closed_rows-more r.definitions i d h));
        sound = all;
        within = below_more _ _ so_far.within
            (λ e e_is.
            let here : IsLimitedDefinition d (row_of (get_or (closed_types r) i string_type)) = subst (IsLimitedDefinition d) (x_is ∙ made) limited in
            let same : d ≡ e = is ∙ get_or-eq e ∙ e_is in
            subst (λ (g : Definition). IsDefinitionWithin g (get_or (closed_types r) i string_type)) same (limited-within d (get_or (closed_types r) i string_type) here));
      }
    where
      get_or-eq : (e : Definition) → get_or r.definitions i d ≡ get_or r.definitions i e
      get_or-eq e = get_or_default r.definitions i d e h

  pub refuses-first : (e : LayoutError) → RefusesDefinition e d (definition_row rows d) → RefusesFirst e r
  refuses-first e refused =
      let closed : LayoutRefuses e d (get_or (closed_types r) i string_type) = refused-closed e d _ (subst (RefusesDefinition e d) made refused) in
      by e closed
    where
      stands : (e : LayoutError) → LayoutRefuses e d (get_or (closed_types r) i string_type) → RefusesAt e r i
      stands e q = record { definition = d; is = sym is; in_range = h; refused = q; before = λ k g l. so_far.within k l g }

      by : (e : LayoutError) → LayoutRefuses e d (get_or (closed_types r) i string_type) → RefusesFirst e r
      by TooDeep q = (i, stands TooDeep q)
      by TooLarge q = (i, stands TooLarge q)
      by NoMemory q = tt

pub all-within : (r : Resolve) (i : ℕ) (rows : List Row) → length r.definitions ≤ i → RowsSoFar r i rows → AreWithin r
all-within r i rows h so_far = record { each = λ k d l. so_far.within k (omega arith) d }

pub all-rows : (r : Resolve) (i : ℕ) (rows : List Row) → length r.definitions ≤ i → RowsSoFar r i rows → rows ≡ map row_of (closed_types r)
all-rows r i rows h so_far = so_far.rows_are ∙ ap (λ (ds : List Definition). map row_of (closed_rows [] ds)) (take_all i r.definitions h)

-- the result of a function is of a type before it
pub next-result : (r : Resolve) (n i : ℕ) (d : Definition) → i < length r.definitions → i ≤ n → d ≡ get_or r.definitions i d → IsTrue (result_below n d)
next-result r n i d h more is = by d (below-at i r.definitions i d r.earlier h refl is)
  where
    by : (e : Definition) → IsTrue (definition_below i e) → IsTrue (result_below n e)
    by (row.Type e) b = refl
    by (row.Function f) b = option_below-later i n f.result more (split (list_all (λ p. is_below i p.ty) f.params) (option_below i f.result) b).1

pub length-table : (r : Resolve) (rows : List Row) → rows ≡ map row_of (closed_types r) → length rows ≡ length r.definitions
length-table r rows e = ap length e ∙ length-map (closed_types r) row_of ∙ omega (arith, length-closed_rows [] r.definitions)
