-- The declarations of an interface's rows, read again.
use Rattle.std.proofs.Common.{◌≡◌, ℕ, ◌+◌, List, [], ◌∷◌, ◌++◌, length, slice_get, true, nat_le, nat_lt, Option, None, Some, refl, ap, sym, subst, ◌∙◌, arith, length-append}
use Rattle.std.proofs.lemmas.Bool.{ltb-true, leb-true}
use Rattle.ctype_format.specs.Raw.{Decl}
use Rattle.ctype_format.specs.View.{decls_of}
use Rattle.tables.specs.declared.tables.TypeId.{TypeId}
use Rattle.tables.specs.declared.tables.Definition.{Definition}
use Rattle.component_reader.specs.Instance.{if_found, InstanceRead, settled, nothing_read, decl_read, decls_read, instance_read}
use Rattle.wit_component.specs.Rows.{Place, row_declarations, row_offset, place_after, declarations_of, places_after}
use Rattle.wit_component.proofs.AlikeRows.{AreAlike, none, one_more}
use Rattle.tables.proofs.ClosedTypesRowByRow.{split}
use Rattle.wit_component.proofs.ReadAgain.ReadableRows.{IsReadable, AreReadable, no_rows, row_first, row_after, rows_after, AreRowsOf, IsSettled, rests, is_inside, HasRead}
use Rattle.wit_component.proofs.ReadAgain.OneRow.{settled-is, row-read}

pub found-then : {A B : Type 0} (o : Option A) (x : A) (f : A → Option B) → o ≡ Some x → if_found o f ≡ f x
found-then o x f e = ap (λ p. if_found p f) e

decls-append : (around : List (Option TypeId)) (k : ℕ) (xs ys : List Decl) (s : InstanceRead)
    → decls_read around k (decls_of (xs ++ ys)) s ≡ if_found (decls_read around k (decls_of xs) s) (decls_read around k (decls_of ys))
decls-append around k [] ys s = refl
decls-append around k (d ∷ xs) ys s = by (decl_read around k d s) (λ s2. decls-append around k xs ys s2)
  where
    by : (o : Option InstanceRead) → ((s2 : InstanceRead) → decls_read around k (decls_of (xs ++ ys)) s2 ≡ if_found (decls_read around k (decls_of xs) s2) (decls_read around k (decls_of ys)))
        → if_found o (decls_read around k (decls_of (xs ++ ys))) ≡ if_found (if_found o (decls_read around k (decls_of xs))) (decls_read around k (decls_of ys))
    by None again = refl
    by (Some s2) again = again s2

module _ (table : List Definition) (around : List (Option TypeId)) (start k : ℕ) where
  -- what is read of these rows: rows that are alike
  pub record AreRowsRead (at : Place) (s s1 : InstanceRead) (ds : List Definition) : Type 0 where
    pub rows : List Definition
    pub own : AreRowsOf k rows
    pub alike : AreAlike table (length at.indices) ds rows
    pub state : InstanceRead
    pub read : decls_read around k (decls_of (declarations_of at ds)) s ≡ Some state
    pub settled : IsSettled table state (rows_after k rows s1)
    pub kept : HasRead table start k (places_after at ds) (rows_after k rows s1)

  pub rows-read : (n m : ℕ) (ds : List Definition) → AreReadable table around start k n m ds → (at : Place) → length at.indices ≡ n → at.used ≡ m
      → (s s1 : InstanceRead) → IsSettled table s s1 → HasRead table start k at s1 → AreRowsRead at s s1 ds
  rows-read _ _ _ (no_rows n m) at here whose s s1 settles has =
      record { rows = []; own = tt; alike = none (length at.indices); state = s; read = refl; settled = settles; kept = has }
  rows-read _ _ _ (row_first n m d ds is first rest) at here whose s s1 settles has =
      let own : IsReadable table around start k (length at.indices) at.used d =
      subst (λ i. IsReadable table around start k i at.used d) (sym here) (subst (λ j. IsReadable table around start k n j d) (sym whose) first) in
      let one = row-read table around start k at s s1 settles has d (ap (slice_get table) here ∙ is) own in
      let len : length (place_after at d).indices ≡ length at.indices + 1 = length-append at.indices ((at.types + row_offset d) ∷ []) in
      let all = rows-read (n + 1) (m + 1) ds rest (place_after at d) (len ∙ ap (λ i. i + 1) here) (ap (λ j. j + 1) whose) one.state (row_after k one.row s1) one.settled one.kept in
      record {
        rows = one.row ∷ all.rows;
        own = (one.own, all.own);
        alike = one_more (length at.indices) d one.row ds all.rows one.alike (subst (λ i. AreAlike table i ds all.rows) len all.alike);
        state = all.state;
        read = decls-append around k (row_declarations at d) (declarations_of (place_after at d) ds) s
            ∙ found-then (decls_read around k (decls_of (row_declarations at d)) s) one.state (decls_read around k (decls_of (declarations_of (place_after at d) ds))) one.read
            ∙ all.read;
        settled = all.settled;
        kept = all.kept;
      }

  -- the whole instance type
  pub instance-reread : (indices : List ℕ) (used : ℕ) (ds read : List Definition) → AreReadable table around start k start used ds → length indices ≡ start → length read ≡ start
      → (es : List Definition) × AreAlike table start ds es × AreRowsOf k es
      × (instance_read around k (decls_of (declarations_of (record { indices = indices; types = 0; used = used }) ds)) read ≡ Some (rows_after k es (nothing_read read)))
      × HasRead table start k (places_after (record { indices = indices; types = 0; used = used }) ds) (rows_after k es (nothing_read read))
  instance-reread indices used ds read readable count same =
      let at : Place = record { indices = indices; types = 0; used = used } in
      let all = rows-read start used ds readable at count refl (nothing_read read) (nothing_read read) (rests (nothing_read read) refl) begun in (
        all.rows,
        subst (λ i. AreAlike table i ds all.rows) count all.alike,
        all.own,
        found-then (decls_read around k (decls_of (declarations_of at ds)) (nothing_read read)) all.state settled all.read ∙ settled-is table all.state (rows_after k all.rows (nothing_read read)) all.settled,
        all.kept,
      )
    where
      begun : HasRead table start k (record { indices = indices; types = 0; used = used }) (nothing_read read)
      begun = record {
        awaited = refl;
        types = refl;
        rows = same ∙ sym count;
        begins = omega (arith, count);
        known = λ t h. absurd (outside t h);
        names = λ t y low up e. absurd (omega (arith, count));
      }
        where
          outside : (t : TypeId) → is_inside table start (length indices) t ≡ true → ⊥
          outside t h =
              let a = split (nat_le start t.0) _ h in
              let b = split (nat_lt t.0 (length indices)) _ a.1 in
              omega (arith, count, leb-true start t.0 a.0, ltb-true t.0 (length indices) b.0)
