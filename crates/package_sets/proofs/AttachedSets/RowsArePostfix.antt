-- The rows of a set in postfix order, and behind them the own rows of a closed table in postfix order.
use Rattle.std.proofs.Common.{◌≡◌, ◌≤◌, ◌<◌, ◌⊎◌, inl, inr, ℕ, zero, suc, ◌+◌, ◌-◌, true, false, not, ◌&&◌, nat_le, List, [], ◌∷◌, ◌++◌, length, map, drop, slice_get, Option, None, Some, refl, ap, sym, subst, ◌∙◌, arith, true≢false, append_assoc, append-nil, eqb-true}
use Rattle.std.specs.Prelude.{Contains}
use Rattle.std.specs.List.{list_all}
use Rattle.std.specs.Str.{bytes_eq}
use Rattle.std.proofs.lemmas.Bool.{ltb-true, leb-true}
use Rattle.std.proofs.lemmas.List.{map-append, length-map, length-drop, length-append, length_push}
use Rattle.std.proofs.lemmas.Slice.Eq.{bytes_eq-Decides}
use Rattle.std.proofs.lemmas.Option.{slice_get_within, get_or_from_slice_get}
use Rattle.canonical_abi.proofs.Traces.TracesLeaveImages.{slice_get-drop}
use Rattle.package_form.specs.Ids.{places_where}
use Rattle.package_form.specs.Ends.{end_of, rows_of, interfaces_end, world_end, are_worlds_parted, is_parted}
use Rattle.package_form.specs.Form.{is_named, ids_of, is_local, is_use_at, has_ids, are_interfaces}
use Rattle.package_form.specs.Postfix.{is_unnamed, is_unnamed_row, parts, parts_of, inner_row, Leaves, begin, inner, whole, IsPostfix}
use Rattle.tables.specs.Tables.{is_below, definition_all}
use Rattle.tables.proofs.ClosedTypesRowByRow.{split, below-at}
use Rattle.tables.specs.declared.tables.ValType.TheVariants as val
use Rattle.tables.specs.declared.tables.Definition.{Definition}
use Rattle.tables.specs.declared.tables.Interface.{Interface}
use Rattle.tables.specs.declared.tables.World.{World}
use Rattle.tables.specs.declared.tables.Resolve.{Resolve}
use Rattle.set_rows.specs.Moved.{Renaming, put_kind, put_row}
use Rattle.package_sets.specs.Set.{HasRowsInForm}
use Rattle.package_sets.specs.Joining.{import_count, imports}
use Rattle.package_sets.specs.Joined.{renaming_of, IsJoined}
use Rattle.package_sets.specs.Joined.{JoinedPlaces}
use Rattle.package_sets.proofs.KeptParts.KeptTogether.{places-in, end-is-id}
use Rattle.package_sets.proofs.GrowingLists.{map-get, front-get, behind-get, none-within, not-is}
use Rattle.package_sets.proofs.MovedRows.WhatRowsName.{unnamed-same}
use Rattle.package_sets.proofs.OwnedRows.RowsAreOwned.{interfaces-split}
use Rattle.package_sets.proofs.OwnedRows.EachRowHasAnOwner.{block-row}
use Rattle.package_sets.proofs.KeptParts.KeptRowsArePostfix.{row-parts, row-aliased, inner-same}
use Rattle.package_sets.proofs.AttachedSets.OwnPartStandsBehind.{before, rows-behind, import-row, rows-there}
use Rattle.package_sets.proofs.AttachedSets.IsPackageByPackage.{imported-end, parted-drop}

-- ---- the rows of interfaces end in one with a name

-- the row before place m has a name
abbrev EndsNamed : List Definition → ℕ → Type 0
EndsNamed rows m = (n : ℕ) (d : Definition) → suc n ≡ m → slice_get rows n ≡ Some d → is_unnamed d ≡ false

interface-ends : (rows : List Definition) (start : ℕ) (i : Interface) → has_ids rows start i ≡ true → (start ≡ end_of start i) ⊎ EndsNamed rows (end_of start i)
interface-ends rows start i h = by (end-is-id start i)
  where
    ids : ids_of i ≡ places_where is_named start (rows_of rows start i)
    ids = (bytes_eq-Decides (ids_of i) (places_where is_named start (rows_of rows start i))).0
        (split (bytes_eq (ids_of i) (places_where is_named start (rows_of rows start i))) (list_all (is_use_at rows) i.uses && list_all (λ t. not (is_use_at rows t)) i.types) h).0

    by : (end_of start i ≡ start) ⊎ ((x : ℕ) × Contains (ids_of i) x × (end_of start i ≡ x + 1)) → (start ≡ end_of start i) ⊎ EndsNamed rows (end_of start i)
    by (inl e) = inl (sym e)
    by (inr (x, c, e)) =
        let p = places-in is_named start (rows_of rows start i) x (subst (λ (ys : List ℕ). Contains ys x) ids c) in
        let at = block-row rows start (end_of start i) p.0 p.1 p.3 in
        inr (λ n d f g. last p.0 p.1 p.2 p.4 at n d f g)
      where
        last : (k : ℕ) (c : Definition) → x ≡ start + k → is_named c ≡ true → slice_get rows (start + k) ≡ Some c → (n : ℕ) (d : Definition) → suc n ≡ end_of start i → slice_get rows n ≡ Some d → is_unnamed d ≡ false
        last k c q named at n d f g =
            let place : start + k ≡ n = omega (arith, e, f, q) in
            let is : Some c ≡ Some d = sym at ∙ (ap (slice_get rows) place ∙ g) in
            let same : c ≡ d = cc in
            not-is (is_unnamed d) (subst (λ (z : Definition). is_named z ≡ true) same named)

interfaces-end-named : (rows : List Definition) (k start : ℕ) (is : List Interface) → are_interfaces rows k start is ≡ true → (start ≡ interfaces_end start is) ⊎ EndsNamed rows (interfaces_end start is)
interfaces-end-named rows k start [] h = inl refl
interfaces-end-named rows k start (i ∷ is) h = by (interfaces-end-named rows (k + 1) (end_of start i) is p.1)
  where
    p : ((has_ids rows start i && list_all (is_local rows k) (rows_of rows start i)) ≡ true) × (are_interfaces rows (k + 1) (end_of start i) is ≡ true)
    p = split (has_ids rows start i && list_all (is_local rows k) (rows_of rows start i)) (are_interfaces rows (k + 1) (end_of start i) is) h

    by : (end_of start i ≡ interfaces_end (end_of start i) is) ⊎ EndsNamed rows (interfaces_end (end_of start i) is) → (start ≡ interfaces_end start (i ∷ is)) ⊎ EndsNamed rows (interfaces_end start (i ∷ is))
    by (inr e) = inr e
    by (inl e) = elim (interface-ends rows start i (split (has_ids rows start i) (list_all (is_local rows k) (rows_of rows start i)) p.0).0) [
      | inl f ↦ inl (f ∙ e)
      | inr f ↦ inr (λ n d g. f n d (g ∙ sym e))
    ]

parted-le : (count start : ℕ) (is : List Interface) (ws : List World) → is_parted count start is ws ≡ true → start ≤ count
parted-le count start [] [] h = omega (arith, eqb-true start count h)
parted-le count start [] (w ∷ ws) h =
    let p = split (nat_le start (world_end start w)) (nat_le (world_end start w) count && are_worlds_parted count (world_end start w) ws) h in
    let q = split (nat_le (world_end start w) count) (are_worlds_parted count (world_end start w) ws) p.1 in
    omega (arith, leb-true start (world_end start w) p.0, leb-true (world_end start w) count q.0)
parted-le count start (i ∷ is) ws h =
    let p = split (nat_le start (end_of start i)) (nat_le (end_of start i) count && is_parted count (end_of start i) is ws) h in
    let q = split (nat_le (end_of start i) count) (is_parted count (end_of start i) is ws) p.1 in
    omega (arith, leb-true start (end_of start i) p.0, leb-true (end_of start i) count q.0)

-- ---- lists

drop-push : {A : Type 0} (m : ℕ) (xs : List A) (x : A) → m ≤ length xs → drop m (xs ++ x ∷ []) ≡ drop m xs ++ x ∷ []
drop-push zero xs x h = refl
drop-push (suc m) [] x h = absurd (omega arith)
drop-push (suc m) (y ∷ xs) x h = drop-push m xs x (omega (arith, h))

drop-past : {A : Type 0} (m : ℕ) (xs : List A) → length xs ≤ m → drop m xs ≡ []
drop-past zero [] h = refl
drop-past zero (x ∷ xs) h = absurd (omega arith)
drop-past (suc m) [] h = refl
drop-past (suc m) (x ∷ xs) h = drop-past m xs (omega (arith, h))

-- ---- the own rows of the closed table, one after the other

module _ (s c : Resolve) (j : JoinedPlaces) (q : IsJoined s c j) where
  abbrev to : Renaming
  to = renaming_of j

  -- what is put behind the set of these rows
  abbrev behind : List Definition → List Definition
  behind rows = s.definitions ++ map (put_row to) (drop j.imported rows)

  -- the first rows of the closed table
  record AreFirst (rows : List Definition) : Type 0 where
    pub each : (k : ℕ) (d : Definition) → slice_get rows k ≡ Some d → slice_get c.definitions k ≡ Some d

  fewer : (rows : List Definition) (d : Definition) → AreFirst (rows ++ d ∷ []) → AreFirst rows
  fewer rows d f = record { each = λ k e h. f.each k e (front-get rows (d ∷ []) k e h) }

  last-is : (rows : List Definition) (d : Definition) → AreFirst (rows ++ d ∷ []) → slice_get c.definitions (length rows) ≡ Some d
  last-is rows d f = f.each (length rows) d (ap (slice_get (rows ++ d ∷ [])) (omega arith) ∙ behind-get rows (d ∷ []) 0)

  unnamed-there : (rows : List Definition) → AreFirst rows → (t : ℕ) → is_below (length rows) (val.Id (record { 0 = t })) ≡ true → is_unnamed_row (slice_get (behind rows) (to.rows t)) ≡ is_unnamed_row (slice_get rows t)
  unnamed-there rows f t h = by (slice_get rows t) refl
    where
      there : (d : Definition) → slice_get rows t ≡ Some d → (t < j.imported) ⊎ (j.imported + (t - j.imported) ≡ t) → slice_get (behind rows) (to.rows t) ≡ Some (put_row to d)
      there d e (inl l) = front-get s.definitions (map (put_row to) (drop j.imported rows)) (to.rows t) (put_row to d) (import-row s c j q t d l (f.each t d e))
      there d e (inr g) =
          let k = t - j.imported in
          let own : slice_get (drop j.imported rows) k ≡ Some d = slice_get-drop j.imported rows k ∙ (ap (slice_get rows) g ∙ e) in
          let closed : slice_get (drop j.imported c.definitions) k ≡ Some d = slice_get-drop j.imported c.definitions k ∙ (ap (slice_get c.definitions) g ∙ f.each t d e) in
          let at : to.rows t ≡ length s.definitions + k = ap to.rows (sym g) ∙ rows-behind s c j q k (slice_get_within (drop j.imported c.definitions) k d closed) in
          ap (slice_get (behind rows)) at ∙ (behind-get s.definitions (map (put_row to) (drop j.imported rows)) k ∙ map-get (put_row to) (drop j.imported rows) k d own)

      by : (o : Option Definition) → slice_get rows t ≡ o → is_unnamed_row (slice_get (behind rows) (to.rows t)) ≡ is_unnamed_row (slice_get rows t)
      by None e = absurd (none-within rows t (ltb-true t (length rows) h) e)
      by (Some d) e = ap is_unnamed_row (there d e (before s c j q t j.imported)) ∙ (unnamed-same to d ∙ sym (ap is_unnamed_row e))

  all-below : (rows : List Definition) (d : Definition) → AreFirst (rows ++ d ∷ []) → definition_all (is_below (length rows)) d ≡ true
  all-below rows d f =
      let at = last-is rows d f in
      below-at (length rows) c.definitions (length rows) d c.earlier (slice_get_within c.definitions (length rows) d at) refl (sym (get_or_from_slice_get c.definitions (length rows) d d at))

  behind-push : (rows : List Definition) (d : Definition) → j.imported ≤ length rows → behind (rows ++ d ∷ []) ≡ behind rows ++ put_row to d ∷ []
  behind-push rows d l =
      ap (λ (ds : List Definition). s.definitions ++ map (put_row to) ds) (drop-push j.imported rows d l)
      ∙ (ap (λ ds. s.definitions ++ ds) (map-append (put_row to) (drop j.imported rows) (d ∷ [])) ∙ sym (append_assoc s.definitions (map (put_row to) (drop j.imported rows)) (put_row to d ∷ [])))

  behind-none : (rows : List Definition) → length rows ≤ j.imported → behind rows ≡ s.definitions
  behind-none rows l = ap (λ (ds : List Definition). s.definitions ++ map (put_row to) ds) (drop-past j.imported rows l) ∙ append-nil s.definitions

  length-behind : (rows : List Definition) (d : Definition) → AreFirst (rows ++ d ∷ []) → j.imported ≤ length rows → length (behind rows) ≡ to.rows (length rows)
  length-behind rows d f l =
      let k = length rows - j.imported in
      let whole : j.imported + k ≡ length rows = omega arith in
      let within : length rows < length c.definitions = slice_get_within c.definitions (length rows) d (last-is rows d f) in
      omega (
        arith,
        length-append s.definitions (map (put_row to) (drop j.imported rows)),
        length-map (drop j.imported rows) (put_row to),
        length-drop j.imported rows,
        sym (rows-behind s c j q k (omega (arith, within, length-drop j.imported c.definitions))) ∙ ap to.rows whole,
      )

  module _ (base : IsPostfix s.definitions) (named : EndsNamed c.definitions j.imported) where
    -- no more than the imports' rows
    none-more : (rows : List Definition) → length rows ≤ j.imported → Leaves (behind rows) (map to.rows [])
    none-more rows l = subst (λ (ds : List Definition). Leaves ds []) (sym (behind-none rows l)) base

    cut : (n m : ℕ) → n ≤ m + 1 → (n ≤ m) ⊎ (suc m ≡ n)
    cut n m l = grind arith

    leaves-behind : (rows : List Definition) (unused : List ℕ) → Leaves rows unused → AreFirst rows → j.imported ≤ length rows → Leaves (behind rows) (map to.rows unused)
    leaves-behind _ _ begin f m = none-more [] (omega arith)
    leaves-behind _ _ (inner rows unused k i l) f m =
        by (λ b. leaves-behind rows (unused ++ parts rows k) l (fewer rows (inner_row k) f) b) (cut j.imported (length rows) (omega (arith, m, length_push rows (inner_row k))))
      where
        by : (j.imported ≤ length rows → Leaves (behind rows) (map to.rows (unused ++ parts rows k))) → (j.imported ≤ length rows) ⊎ (suc (length rows) ≡ j.imported) → Leaves (behind (rows ++ inner_row k ∷ [])) (map to.rows (unused ++ length rows ∷ []))
        by rest (inr e) = absurd (true≢false (named (length rows) (inner_row k) e (last-is rows (inner_row k) f)))
        by rest (inl b) =
            let held = rest b in
            let same : parts (behind rows) (put_kind to k) ≡ map to.rows (parts rows k) = row-parts to rows (behind rows) (is_below (length rows)) (unnamed-there rows (fewer rows (inner_row k) f)) (inner_row k) (all-below rows (inner_row k) f) in
            let told : Leaves (behind rows) (map to.rows unused ++ parts (behind rows) (put_kind to k)) =
            subst (Leaves (behind rows)) (map-append to.rows unused (parts rows k) ∙ ap (λ ts. map to.rows unused ++ ts) (sym same)) held in
            let made : Leaves (behind rows ++ inner_row (put_kind to k) ∷ []) (map to.rows unused ++ length (behind rows) ∷ []) = inner (behind rows) (map to.rows unused) (put_kind to k) (inner-same to k ∙ i) told in
            let left : map to.rows unused ++ length (behind rows) ∷ [] ≡ map to.rows (unused ++ length rows ∷ []) =
            ap (λ n. map to.rows unused ++ n ∷ []) (length-behind rows (inner_row k) f b) ∙ sym (map-append to.rows unused (length rows ∷ [])) in
            subst (λ (ts : List ℕ). Leaves (behind (rows ++ inner_row k ∷ [])) ts) left
            (subst (λ (ds : List Definition). Leaves ds (map to.rows unused ++ length (behind rows) ∷ [])) (sym (behind-push rows (inner_row k) b)) made)
    leaves-behind _ _ (whole rows d u a l) f m = by (λ b. leaves-behind rows (parts_of rows d) l (fewer rows d f) b) (cut j.imported (length rows) (omega (arith, m, length_push rows d)))
      where
        by : (j.imported ≤ length rows → Leaves (behind rows) (map to.rows (parts_of rows d))) → (j.imported ≤ length rows) ⊎ (suc (length rows) ≡ j.imported) → Leaves (behind (rows ++ d ∷ [])) []
        by rest (inr e) = none-more (rows ++ d ∷ []) (omega (arith, e, length_push rows d))
        by rest (inl b) =
            let held = rest b in
            let all = all-below rows d f in
            let same = row-parts to rows (behind rows) (is_below (length rows)) (unnamed-there rows (fewer rows d f)) d all in
            let none = row-aliased to rows (behind rows) (is_below (length rows)) (unnamed-there rows (fewer rows d f)) d all in
            let told : Leaves (behind rows) (parts_of (behind rows) (put_row to d)) = subst (Leaves (behind rows)) (sym same) held in
            let made : Leaves (behind rows ++ put_row to d ∷ []) [] = whole (behind rows) (put_row to d) (unnamed-same to d ∙ u) (none ∙ ap (map to.rows) a) told in
            subst (λ (ds : List Definition). Leaves ds []) (sym (behind-push rows d b)) made

  pub postfix-behind : HasRowsInForm c → IsPostfix s.definitions → IsPostfix c.definitions → IsPostfix (rows-there s c j q)
  postfix-behind form set closed = leaves-behind set named c.definitions [] closed (record { each = λ k d e. e }) within
    where
      end : j.imported ≡ interfaces_end 0 (imports c)
      end = imported-end s c j q form

      within : j.imported ≤ length c.definitions
      within = omega (arith, end, parted-le (length c.definitions) (interfaces_end 0 (imports c)) (drop (import_count c) c.interfaces) c.worlds (parted-drop s c j q (length c.definitions) 0 (import_count c) c.interfaces c.worlds form.parted))

      named : EndsNamed c.definitions j.imported
      named = by (interfaces-end-named c.definitions 0 0 (imports c) (interfaces-split c.definitions 0 0 (import_count c) c.interfaces form.interfaces).0)
        where
          by : (0 ≡ interfaces_end 0 (imports c)) ⊎ EndsNamed c.definitions (interfaces_end 0 (imports c)) → EndsNamed c.definitions j.imported
          by (inl e) n d f g = absurd (omega (arith, e, end, f))
          by (inr e) n d f g = e n d (f ∙ end) g
