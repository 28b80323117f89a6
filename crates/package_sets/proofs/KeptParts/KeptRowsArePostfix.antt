-- Rows in postfix order, of which those of some owners are kept, are in postfix order.
use Rattle.std.proofs.Common.{◌≡◌, ◌≤◌, ◌<◌, ℕ, suc, ◌+◌, Bool, true, false, List, [], ◌∷◌, ◌++◌, length, get_or, slice_get, map, Option, None, Some, refl, ap, sym, subst, ◌∙◌, arith, true≢false, if◌then◌else◌, nat_lt}
use Rattle.std.specs.Prelude.{flat_map}
use Rattle.std.specs.Option.{option_map}
use Rattle.std.specs.List.{list_all, items_where_true}
use Rattle.std.proofs.lemmas.List.{map-append, length_push, length-map, get_or_default}
use Rattle.std.proofs.Math.ListN.{get_or-map as get_or-mapped}
use Rattle.std.proofs.lemmas.Bool.{ltb-true}
use Rattle.package_form.specs.Postfix.{is_unnamed, is_unnamed_row, one_if, unnamed, unnamed_if, unnamed_field, unnamed_case, unnamed_parameter, parts, parts_of, aliased, aliased_by, is_inner, inner_row, Leaves, begin, inner, whole, IsPostfix}
use Rattle.tables.specs.Tables.{option_all, kind_all, definition_all}
use Rattle.tables.proofs.ClosedTypesRowByRow.{split}
use Rattle.set_rows.specs.Owners.{owners}
use Rattle.set_rows.specs.Reaches.{is_marked}
use Rattle.package_sets.specs.Part.{IsPart}
use Rattle.set_rows.specs.Places.{place}
use Rattle.set_rows.specs.Renamed.{renaming}
use Rattle.set_rows.specs.Moved.{Renaming, put_val, put_field, put_case, put_parameter, put_kind, put_row}
use Rattle.set_rows.specs.declared.moved.Moved.{Moved}
use Rattle.set_rows.proofs.KeptElementsAndPlaces.{kept-none, kept-at}
use Rattle.package_sets.proofs.KeptParts.KeptRowsKeepMeaning.{is_kept}
use Rattle.package_sets.proofs.GrowingLists.{last-get, map-get, front-get, none-within}
use Rattle.package_sets.proofs.MovedRows.WhatRowsName.{unnamed-same}
use Rattle.package_sets.proofs.OwnedRows.EachRowHasAnOwner.{owner-next, unnamed-owner}
use Rattle.package_sets.proofs.KeptParts.KeptIsATable.{count-rows, kept-all}
use Rattle.tables.specs.declared.tables.Resolve.{Resolve}
use Rattle.tables.specs.declared.tables.ValType.{ValType}
use Rattle.tables.specs.declared.tables.ValType.TheVariants as val
use Rattle.tables.specs.declared.tables.TypeDefKind.{TypeDefKind}
use Rattle.tables.specs.declared.tables.TypeDefKind.TheVariants as kind
use Rattle.tables.specs.declared.tables.Definition.{Definition}
use Rattle.tables.specs.declared.tables.Definition.TheVariants as row

-- the kept rows of these, with one more that is kept or not
kept-push : {A : Type 0} (bs : List Bool) (xs : List A) (x : A) → get_or bs (length xs) false ≡ true → items_where_true bs (xs ++ x ∷ []) ≡ items_where_true bs xs ++ x ∷ []
kept-push [] xs x h = absurd (true≢false (sym h))
kept-push (true ∷ []) [] x h = refl
kept-push (true ∷ b ∷ bs) [] x h = refl
kept-push (false ∷ bs) [] x h = absurd (true≢false (sym h))
kept-push (true ∷ bs) (y ∷ xs) x h = ap (λ ys. y ∷ ys) (kept-push bs xs x h)
kept-push (false ∷ bs) (y ∷ xs) x h = kept-push bs xs x h

kept-drop : {A : Type 0} (bs : List Bool) (xs : List A) (x : A) → get_or bs (length xs) false ≡ false → items_where_true bs (xs ++ x ∷ []) ≡ items_where_true bs xs
kept-drop [] xs x h = refl
kept-drop (true ∷ bs) [] x h = absurd (true≢false h)
kept-drop (false ∷ []) [] x h = refl
kept-drop (false ∷ b ∷ bs) [] x h = refl
kept-drop (true ∷ bs) (y ∷ xs) x h = ap (λ ys. y ∷ ys) (kept-drop bs xs x h)
kept-drop (false ∷ bs) (y ∷ xs) x h = kept-drop bs xs x h

pub kept-length : {A : Type 0} (bs : List Bool) (xs : List A) → length xs ≤ length bs → length (items_where_true bs xs) ≡ place bs (length xs)
kept-length [] [] h = refl
kept-length [] (x ∷ xs) h = absurd (omega arith)
kept-length (b ∷ bs) [] h = refl
kept-length (true ∷ bs) (x ∷ xs) h = up _ _ (kept-length bs xs (omega (arith, h)))
  where
    up : (n m : ℕ) → n ≡ m → suc n ≡ 1 + m
    up n m e = omega arith
kept-length (false ∷ bs) (x ∷ xs) h = kept-length bs xs (omega (arith, h))

-- What rows are made of that are put into another table: the same rows there, where each of the rows without names that they refer to has none there.
module _ (to : Renaming) (rows there : List Definition) (within : (v : ValType) → Bool) (each : (t : ℕ) → within (val.Id (record { 0 = t })) ≡ true → is_unnamed_row (slice_get there (to.rows t)) ≡ is_unnamed_row (slice_get rows t)) where
  abbrev placed : List ℕ → List ℕ
  placed ts = map to.rows ts

  val-parts : (v : ValType) → within v ≡ true → unnamed there (put_val to v) ≡ placed (unnamed rows v)
  val-parts (val.Primitive p) h = refl
  val-parts val.String h = refl
  val-parts (val.Id t) h =
      ap (λ b. one_if b (to.rows t.0)) (each t.0 h) ∙ moved (is_unnamed_row (slice_get rows t.0))
    where
      moved : (b : Bool) → one_if b (to.rows t.0) ≡ placed (one_if b t.0)
      moved true = refl
      moved false = refl

  if-parts : (v : Option ValType) → option_all within v ≡ true → unnamed_if there (option_map (put_val to) v) ≡ placed (unnamed_if rows v)
  if-parts None h = refl
  if-parts (Some v) h = val-parts v h

  list-parts : {A : Type 0} (put : A → A) (f : A → Bool) (of of-there : A → List ℕ) → ((x : A) → f x ≡ true → of-there (put x) ≡ placed (of x)) → (xs : List A) → list_all f xs ≡ true
      → flat_map of-there (map put xs) ≡ placed (flat_map of xs)
  list-parts put f of of-there one [] h = refl
  list-parts put f of of-there one (x ∷ xs) h =
      let p = split (f x) (list_all f xs) h in
      let e = one x p.0 in
      let r = list-parts put f of of-there one xs p.1 in
      let m = map-append to.rows (of x) (flat_map of xs) in
      cc

  kind-parts : (k : TypeDefKind) → kind_all within k ≡ true → parts there (put_kind to k) ≡ placed (parts rows k)
  kind-parts (kind.Use t) h = refl
  kind-parts (kind.Alias v) h = refl
  kind-parts (kind.List v) h = val-parts v h
  kind-parts (kind.Option v) h = val-parts v h
  kind-parts (kind.Result ok error) h =
      let p = split (option_all within ok) (option_all within error) h in
      let x = if-parts ok p.0 in
      let y = if-parts error p.1 in
      let m = map-append to.rows (unnamed_if rows ok) (unnamed_if rows error) in
      cc
  kind-parts (kind.Tuple vs) h = list-parts (put_val to) within (unnamed rows) (unnamed there) val-parts vs h
  kind-parts (kind.Record fs) h = list-parts (put_field to) (λ f. within f.ty) (unnamed_field rows) (unnamed_field there) (λ f. val-parts f.ty) fs h
  kind-parts (kind.Variant cs) h = list-parts (put_case to) (λ c. option_all within c.ty) (unnamed_case rows) (unnamed_case there) (λ c. if-parts c.ty) cs h
  kind-parts (kind.Enum ns) h = refl
  kind-parts (kind.Flags ns) h = refl

  pub row-parts : (d : Definition) → definition_all within d ≡ true → parts_of there (put_row to d) ≡ placed (parts_of rows d)
  row-parts (row.Type d) h = kind-parts d.kind h
  row-parts (row.Function f) h =
      let p = split (list_all (λ q. within q.ty) f.params) (option_all within f.result) h in
      let x = list-parts (put_parameter to) (λ q. within q.ty) (unnamed_parameter rows) (unnamed_parameter there) (λ q. val-parts q.ty) f.params p.0 in
      let y = if-parts f.result p.1 in
      let m = map-append to.rows (flat_map (unnamed_parameter rows) f.params) (unnamed_if rows f.result) in
      cc

  kind-aliased : (k : TypeDefKind) → kind_all within k ≡ true → aliased there (put_kind to k) ≡ placed (aliased rows k)
  kind-aliased (kind.Use t) h = refl
  kind-aliased (kind.Alias v) h = val-parts v h
  kind-aliased (kind.List v) h = refl
  kind-aliased (kind.Option v) h = refl
  kind-aliased (kind.Result ok error) h = refl
  kind-aliased (kind.Tuple vs) h = refl
  kind-aliased (kind.Record fs) h = refl
  kind-aliased (kind.Variant cs) h = refl
  kind-aliased (kind.Enum ns) h = refl
  kind-aliased (kind.Flags ns) h = refl

  pub row-aliased : (d : Definition) → definition_all within d ≡ true → aliased_by there (put_row to d) ≡ placed (aliased_by rows d)
  row-aliased (row.Type d) h = kind-aliased d.kind h
  row-aliased (row.Function f) h = refl

pub inner-same : (to : Renaming) (k : TypeDefKind) → is_inner (put_kind to k) ≡ is_inner k
inner-same to (kind.Use t) = refl
inner-same to (kind.Alias v) = refl
inner-same to (kind.List v) = refl
inner-same to (kind.Option v) = refl
inner-same to (kind.Result ok error) = refl
inner-same to (kind.Tuple vs) = refl
inner-same to (kind.Record fs) = refl
inner-same to (kind.Variant cs) = refl
inner-same to (kind.Enum ns) = refl
inner-same to (kind.Flags ns) = refl

-- what is known of the first rows of a table: each that is kept names what is kept, and one without a name is kept just where the next one is
pub record AreBlocks (to : Moved) (rows : List Definition) : Type 0 where
  pub count : length rows ≤ length to.rows
  pub named : (k : ℕ) (d : Definition) → slice_get rows k ≡ Some d → get_or to.rows k false ≡ true → definition_all (is_kept to.rows k) d ≡ true
  pub together : (k : ℕ) (d : Definition) → slice_get rows k ≡ Some d → is_unnamed d ≡ true → get_or to.rows k true ≡ get_or to.rows (suc k) true

front : (to : Moved) (rows : List Definition) (d : Definition) → AreBlocks to (rows ++ d ∷ []) → AreBlocks to rows
front to rows d h = record {
  count = omega (arith, h.count, length_push rows d);
  named = λ k c e. h.named k c (front-get rows (d ∷ []) k c e);
  together = λ k c e. h.together k c (front-get rows (d ∷ []) k c e);
}

none-left : (b : Bool) (to : Moved) → (if b then map (place to.rows) [] else []) ≡ []
none-left true to = refl
none-left false to = refl

taken-all : (b : Bool) (ts : List ℕ) → b ≡ true → (if b then ts else []) ≡ ts
taken-all b ts e = rw e refl

taken-none : (b : Bool) (ts : List ℕ) → b ≡ false → (if b then ts else []) ≡ []
taken-none b ts e = rw e refl

default-true : (bs : List Bool) (k : ℕ) (b : Bool) → k < length bs → get_or bs k true ≡ b → get_or bs k false ≡ b
default-true bs k b h e = get_or_default bs k false true h ∙ e

unnamed-at : (to : Moved) (rows : List Definition) (t : ℕ) → is_kept to.rows (length rows) (val.Id (record { 0 = t })) ≡ true
    → is_unnamed_row (slice_get (map (put_row (renaming to)) (items_where_true to.rows rows)) (place to.rows t)) ≡ is_unnamed_row (slice_get rows t)
unnamed-at to rows t h = by (slice_get rows t) refl
  where
    p : (nat_lt t (length rows) ≡ true) × (get_or to.rows t false ≡ true)
    p = split (nat_lt t (length rows)) (get_or to.rows t false) h

    by : (o : Option Definition) → slice_get rows t ≡ o → is_unnamed_row (slice_get (map (put_row (renaming to)) (items_where_true to.rows rows)) (place to.rows t)) ≡ is_unnamed_row (slice_get rows t)
    by None e = absurd (none-within rows t (ltb-true t (length rows) p.0) e)
    by (Some d) e =
        ap is_unnamed_row (map-get (put_row (renaming to)) (items_where_true to.rows rows) (place to.rows t) d (kept-at to.rows rows t d p.1 e))
        ∙ (unnamed-same (renaming to) d ∙ sym (ap is_unnamed_row e))

abbrev left-there : Moved → List Definition → List ℕ → List ℕ
left-there to rows unused = if get_or to.rows (length rows) true then map (place to.rows) unused else []

inner-step : (to : Moved) (rows : List Definition) (unused : List ℕ) (k : TypeDefKind) → is_inner k ≡ true → AreBlocks to (rows ++ inner_row k ∷ [])
    → Leaves (map (put_row (renaming to)) (items_where_true to.rows rows)) (left-there to rows (unused ++ parts rows k))
    → Leaves (map (put_row (renaming to)) (items_where_true to.rows (rows ++ inner_row k ∷ []))) (left-there to (rows ++ inner_row k ∷ []) (unused ++ length rows ∷ []))
inner-step to rows unused k i h l = by (get_or to.rows (length rows) true) refl
  where
    within : length rows < length to.rows
    within = omega (arith, h.count, length_push rows (inner_row k))

    next : get_or to.rows (length rows) true ≡ get_or to.rows (length (rows ++ inner_row k ∷ [])) true
    next = h.together (length rows) (inner_row k) (last-get rows (inner_row k)) refl ∙ ap (λ n. get_or to.rows n true) (suc-push (length_push rows (inner_row k)))
      where
        suc-push : length (rows ++ inner_row k ∷ []) ≡ length rows + 1 → suc (length rows) ≡ length (rows ++ inner_row k ∷ [])
        suc-push e = omega arith

    by : (b : Bool) → get_or to.rows (length rows) true ≡ b → Leaves (map (put_row (renaming to)) (items_where_true to.rows (rows ++ inner_row k ∷ []))) (left-there to (rows ++ inner_row k ∷ []) (unused ++ length rows ∷ []))
    by true e =
        let here = default-true to.rows (length rows) true within e in
        let all = h.named (length rows) (inner_row k) (last-get rows (inner_row k)) here in
        let K = map (put_row (renaming to)) (items_where_true to.rows rows) in
        let same = row-parts (renaming to) rows K (is_kept to.rows (length rows)) (unnamed-at to rows) (inner_row k) all in
        let held : Leaves K (map (place to.rows) unused ++ parts K (put_kind (renaming to) k)) =
        subst (Leaves K) (taken-all _ _ e ∙ (map-append (place to.rows) unused (parts rows k) ∙ ap (λ ts. map (place to.rows) unused ++ ts) (sym same))) l in
        let made : Leaves (K ++ inner_row (put_kind (renaming to) k) ∷ []) (map (place to.rows) unused ++ length K ∷ []) = inner K (map (place to.rows) unused) (put_kind (renaming to) k) (inner-same (renaming to) k ∙ i) held in
        let size : length K ≡ place to.rows (length rows) = length-map (items_where_true to.rows rows) (put_row (renaming to)) ∙ kept-length to.rows rows (omega (arith, within)) in
        let rows-are : K ++ inner_row (put_kind (renaming to) k) ∷ [] ≡ map (put_row (renaming to)) (items_where_true to.rows (rows ++ inner_row k ∷ [])) =
        sym (map-append (put_row (renaming to)) (items_where_true to.rows rows) (inner_row k ∷ [])) ∙ sym (ap (map (put_row (renaming to))) (kept-push to.rows rows (inner_row k) here)) in
        let unused-are : map (place to.rows) unused ++ length K ∷ [] ≡ left-there to (rows ++ inner_row k ∷ []) (unused ++ length rows ∷ []) =
        ap (λ n. map (place to.rows) unused ++ n ∷ []) size ∙ (sym (map-append (place to.rows) unused (length rows ∷ [])) ∙ sym (taken-all _ _ (sym next ∙ e))) in
        subst (λ (ts : List ℕ). Leaves (map (put_row (renaming to)) (items_where_true to.rows (rows ++ inner_row k ∷ []))) ts) unused-are (subst (λ (ds : List Definition). Leaves ds (map (place to.rows) unused ++ length K ∷ [])) rows-are made)
    by false e =
        let here = default-true to.rows (length rows) false within e in
        let held : Leaves (map (put_row (renaming to)) (items_where_true to.rows rows)) [] = subst (Leaves (map (put_row (renaming to)) (items_where_true to.rows rows))) (taken-none _ _ e) l in
        subst (λ (ts : List ℕ). Leaves (map (put_row (renaming to)) (items_where_true to.rows (rows ++ inner_row k ∷ []))) ts) (sym (taken-none _ _ (sym next ∙ e)))
        (subst (λ (ds : List Definition). Leaves (map (put_row (renaming to)) ds) []) (sym (kept-drop to.rows rows (inner_row k) here)) held)

whole-step : (to : Moved) (rows : List Definition) (d : Definition) → is_unnamed d ≡ false → aliased_by rows d ≡ [] → AreBlocks to (rows ++ d ∷ [])
    → Leaves (map (put_row (renaming to)) (items_where_true to.rows rows)) (left-there to rows (parts_of rows d))
    → Leaves (map (put_row (renaming to)) (items_where_true to.rows (rows ++ d ∷ []))) (left-there to (rows ++ d ∷ []) [])
whole-step to rows d u a h l = subst (λ (ts : List ℕ). Leaves (map (put_row (renaming to)) (items_where_true to.rows (rows ++ d ∷ []))) ts) (sym (none-left (get_or to.rows (length (rows ++ d ∷ [])) true) to)) (by (get_or to.rows (length rows) true) refl)
  where
    within : length rows < length to.rows
    within = omega (arith, h.count, length_push rows d)

    by : (b : Bool) → get_or to.rows (length rows) true ≡ b → Leaves (map (put_row (renaming to)) (items_where_true to.rows (rows ++ d ∷ []))) []
    by true e =
        let here = default-true to.rows (length rows) true within e in
        let all = h.named (length rows) d (last-get rows d) here in
        let K = map (put_row (renaming to)) (items_where_true to.rows rows) in
        let same = row-parts (renaming to) rows K (is_kept to.rows (length rows)) (unnamed-at to rows) d all in
        let none = row-aliased (renaming to) rows K (is_kept to.rows (length rows)) (unnamed-at to rows) d all in
        let held : Leaves K (parts_of K (put_row (renaming to) d)) = subst (Leaves K) (taken-all _ _ e ∙ sym same) l in
        let made : Leaves (K ++ put_row (renaming to) d ∷ []) [] = whole K (put_row (renaming to) d) (unnamed-same (renaming to) d ∙ u) (none ∙ ap (map (place to.rows)) a) held in
        subst (λ (ds : List Definition). Leaves ds []) (sym (map-append (put_row (renaming to)) (items_where_true to.rows rows) (d ∷ [])) ∙ sym (ap (map (put_row (renaming to))) (kept-push to.rows rows d here))) made
    by false e =
        let here = default-true to.rows (length rows) false within e in
        let held : Leaves (map (put_row (renaming to)) (items_where_true to.rows rows)) [] = subst (Leaves (map (put_row (renaming to)) (items_where_true to.rows rows))) (taken-none _ _ e) l in
        subst (λ (ds : List Definition). Leaves (map (put_row (renaming to)) ds) []) (sym (kept-drop to.rows rows d here)) held

leaves-kept : (to : Moved) (rows : List Definition) (unused : List ℕ) → Leaves rows unused → AreBlocks to rows → Leaves (map (put_row (renaming to)) (items_where_true to.rows rows)) (left-there to rows unused)
leaves-kept to _ _ begin h =
    subst (λ (ts : List ℕ). Leaves (map (put_row (renaming to)) (items_where_true to.rows [])) ts) (sym (none-left (get_or to.rows 0 true) to))
    (subst (λ (ds : List Definition). Leaves (map (put_row (renaming to)) ds) []) (sym (kept-none to.rows)) begin)
leaves-kept to _ _ (inner rows unused k i l) h = inner-step to rows unused k i h (leaves-kept to rows (unused ++ parts rows k) l (front to rows (inner_row k) h))
leaves-kept to _ _ (whole rows d u a l) h = whole-step to rows d u a h (leaves-kept to rows (parts_of rows d) l (front to rows d h))

pub postfix-kept : (to : Moved) (rows : List Definition) → AreBlocks to rows → IsPostfix rows → IsPostfix (map (put_row (renaming to)) (items_where_true to.rows rows))
postfix-kept to rows h l = subst (Leaves (map (put_row (renaming to)) (items_where_true to.rows rows))) (none-left (get_or to.rows (length rows) true) to) (leaves-kept to rows [] l h)

-- ---- the blocks of a table

pub blocks : (s : Resolve) (to : Moved) → IsPart s to → AreBlocks to s.definitions
blocks s to n = record {
  count = omega (arith, count-rows s to n);
  named = λ k d e h. kept-all s to n k k d (omega arith) e h;
  together = λ k d e u. at k ∙ (ap (is_marked n.marks) (owner-next s.definitions k d e (unnamed-owner d u)) ∙ sym (at (suc k)));
}
  where
    at : (k : ℕ) → get_or to.rows k true ≡ is_marked n.marks (get_or (owners s.definitions) k None)
    at k = ap (λ (bs : List Bool). get_or bs k true) n.rows_are ∙ get_or-mapped (is_marked n.marks) (owners s.definitions) k None
