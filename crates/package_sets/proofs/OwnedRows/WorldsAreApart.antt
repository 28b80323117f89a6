-- In postfix order a row without a name stands right before what is made of it, so that both are of one owner: a set's worlds are apart.
use Rattle.std.proofs.Common.{◌≡◌, ◌≤◌, ◌<◌, ◌⊎◌, inl, inr, ℕ, zero, suc, ◌+◌, ◌-◌, true, not, List, [], ◌∷◌, ◌++◌, length, get_or, slice_get, Option, None, Some, refl, ap, sym, subst, ◌∙◌, arith, true≢false}
use Rattle.std.specs.Prelude.{Contains, is_some}
use Rattle.std.specs.Option.{option_map}
use Rattle.std.specs.List.{list_all}
use Rattle.std.proofs.lemmas.List.{length_push}
use Rattle.std.proofs.lemmas.Option.{slice_get_within}
use Rattle.package_form.specs.Postfix.{is_unnamed, is_unnamed_row, one_if, parts, parts_of, aliased, aliased_by, is_inner, inner_row, Leaves, begin, inner, whole, IsPostfix}
use Rattle.package_form.specs.References.{row_references}
use Rattle.package_form.specs.Reached.{used_by, used_in}
use Rattle.package_form.specs.Unused.{unnamed_at}
use Rattle.package_form.specs.Form.{is_own_name, is_own_type, is_own, is_earlier_name, is_earlier_type, is_earlier, uses_earlier, is_owned, is_local, is_nameless_type, is_nameless, is_of_world, is_world_row}
use Rattle.package_form.proofs.AllAndContains.{contains-left, contains-right, contains-either, contains-unmap, contains-flat, get-front}
use Rattle.package_form.proofs.InnerRowsInPostfix.{can-inner, inner-can}
use Rattle.tables.specs.Tables.{type_of, are_earlier}
use Rattle.tables.proofs.ClosedTypesRowByRow.{split}
use Rattle.tables.specs.declared.tables.TypeId.{TypeId}
use Rattle.tables.specs.declared.tables.WorldId.{WorldId}
use Rattle.tables.specs.declared.tables.TypeDefKind.{TypeDefKind}
use Rattle.tables.specs.declared.tables.TypeDefKind.TheVariants as kind
use Rattle.tables.specs.declared.tables.TypeName.{TypeName}
use Rattle.tables.specs.declared.tables.Owner.TheVariants as owner
use Rattle.tables.specs.declared.tables.Definition.{Definition}
use Rattle.tables.specs.declared.tables.Definition.TheVariants as row
use Rattle.tables.specs.declared.tables.Resolve.{Resolve}
use Rattle.set_rows.specs.Owners.{owners, names_or, names}
use Rattle.tables.specs.Names.{owner_of}
use Rattle.set_rows.specs.Reaches.{owner_at}
use Rattle.package_sets.specs.Set.{IsPackageByPackage, AreWorldsApart}
use Rattle.package_sets.proofs.GrowingLists.{none-within, contains-get}
use Rattle.package_sets.proofs.KeptParts.PropertiesOfKept.{list-at}
use Rattle.package_sets.proofs.MovedRows.WhatRowsName.{named-before, referred-named}
use Rattle.package_sets.proofs.OwnedRows.EachRowHasAnOwner.{owner-some, owner-next, unnamed-owner, plus-none, belongs}

-- the last element, or one before it
pub push-get : {A : Type 0} (xs : List A) (x y : A) (j : ℕ) → slice_get (xs ++ x ∷ []) j ≡ Some y → (slice_get xs j ≡ Some y) ⊎ ((j ≡ length xs) × (x ≡ y))
push-get [] x y zero e = inr (refl, cc)
push-get [] x y (suc j) e = absurd (cc)
push-get (z ∷ xs) x y zero e = inl e
push-get (z ∷ xs) x y (suc j) e = elim (push-get xs x y j e) [ inl h ↦ inl h | inr h ↦ inr (ap suc h.0, h.1) ]

-- the rows from place x on have no names
record AreUnnamedFrom (rows : List Definition) (x : ℕ) : Type 0 where
  pub within : x < length rows
  pub each : (j : ℕ) (d : Definition) → x ≤ j → slice_get rows j ≡ Some d → is_unnamed d ≡ true

inner-unnamed : (k : TypeDefKind) (d : Definition) → inner_row k ≡ d → is_unnamed d ≡ true
inner-unnamed k d e = subst (λ (x : Definition). is_unnamed x ≡ true) e refl

unnamed-more : (rows : List Definition) (k : TypeDefKind) (x : ℕ) → AreUnnamedFrom rows x → AreUnnamedFrom (rows ++ inner_row k ∷ []) x
unnamed-more rows k x h = record {
  within = omega (arith, h.within, length_push rows (inner_row k));
  each = λ j d a e. elim (push-get rows (inner_row k) d j e) [ inl g ↦ h.each j d a g | inr g ↦ inner-unnamed k d g.1 ];
}

unnamed-last : (rows : List Definition) (k : TypeDefKind) (x : ℕ) → Contains (length rows ∷ []) x → AreUnnamedFrom (rows ++ inner_row k ∷ []) x
unnamed-last rows k x (suc n, l, e) = absurd (omega arith)
unnamed-last rows k x (zero, l, e) = record {
  within = omega (arith, here e, length_push rows (inner_row k));
  each = λ j d a f. elim (push-get rows (inner_row k) d j f) [ inl g ↦ absurd (past j d a g) | inr g ↦ inner-unnamed k d g.1 ];
}
  where
    here : length rows ≡ x → length rows ≡ x
    here q = q

    past : (j : ℕ) (d : Definition) → x ≤ j → slice_get rows j ≡ Some d → ⊥
    past j d a g = omega (arith, here e, a, slice_get_within rows j d g)

-- what is still to be used stands behind the last row with a name
unnamed-run : (rows : List Definition) (unused : List ℕ) → Leaves rows unused → (x : ℕ) → Contains unused x → AreUnnamedFrom rows x
unnamed-run _ _ begin x c = absurd (omega (arith, c.1))
unnamed-run _ _ (inner rows unused k i l) x c = elim (contains-either unused (length rows ∷ []) x c) [
  | inl h ↦ unnamed-more rows k x (unnamed-run rows (unused ++ parts rows k) l x (contains-left unused (parts rows k) x h))
  | inr h ↦ unnamed-last rows k x h
]
unnamed-run _ _ (whole rows d u a l) x c = absurd (omega (arith, c.1))

-- a row without a name that a row refers to is one that it is made of
made-of : (rows : List Definition) (d : Definition) (t : TypeId) → aliased_by rows d ≡ [] → Contains (row_references d) t → is_unnamed_row (slice_get rows t.0) ≡ true → Contains (parts_of rows d) t.0
made-of rows d t a c u =
    subst (λ (ns : List ℕ). Contains ns t.0) (can-inner rows d (inner-can rows d a)).0
    (contains-flat (unnamed_at rows) (row_references d) t t.0 c (subst (λ b. Contains (one_if b t.0) t.0) (sym u) (0, omega arith, refl)))

pub inner-plain : (rows : List Definition) (k : TypeDefKind) → is_inner k ≡ true → aliased rows k ≡ []
inner-plain rows (kind.Use t) h = refl
inner-plain rows (kind.Alias v) h = absurd (cc)
inner-plain rows (kind.List v) h = refl
inner-plain rows (kind.Option v) h = refl
inner-plain rows (kind.Result ok error) h = refl
inner-plain rows (kind.Tuple vs) h = refl
inner-plain rows (kind.Record fs) h = refl
inner-plain rows (kind.Variant cs) h = refl
inner-plain rows (kind.Enum ns) h = refl
inner-plain rows (kind.Flags ns) h = refl

-- the rows from a row without a name up to the row at place k that refers to it have no names
abbrev IsRun : List Definition → ℕ → ℕ → Type 0
IsRun rows t k = (j : ℕ) (e : Definition) → t ≤ j → j < k → slice_get rows j ≡ Some e → is_unnamed e ≡ true

last-run : (rows : List Definition) (unused : List ℕ) (d c : Definition) (t : TypeId) → Leaves rows (unused ++ parts_of rows d) → aliased_by rows d ≡ [] → d ≡ c → Contains (row_references c) t → t.0 < length rows
    → is_unnamed_row (slice_get (rows ++ d ∷ []) t.0) ≡ true → IsRun (rows ++ d ∷ []) t.0 (length rows)
last-run rows unused d c t l a e h b u j x y z f =
    let there : is_unnamed_row (slice_get rows t.0) ≡ true = subst (λ (o : Option Definition). is_unnamed_row o ≡ true) (get-front rows (d ∷ []) t.0 b) u in
    let named = made-of rows d t a (subst (λ (w : Definition). Contains (row_references w) t) (sym e) h) there in
    (unnamed-run rows (unused ++ parts_of rows d) l t.0 (contains-right unused (parts_of rows d) t.0 named)).each j x y (sym (get-front rows (d ∷ []) j z) ∙ f)

run-before : (rows : List Definition) (c : Definition) (t k : ℕ) → k ≤ length rows → IsRun rows t k → IsRun (rows ++ c ∷ []) t k
run-before rows c t k b h j x y z f = h j x y z (sym (get-front rows (c ∷ []) j (omega (arith, z, b))) ∙ f)

row-run : (rows : List Definition) (unused : List ℕ) → Leaves rows unused → (k : ℕ) (d : Definition) (t : TypeId) → slice_get rows k ≡ Some d → Contains (row_references d) t → t.0 < k
    → is_unnamed_row (slice_get rows t.0) ≡ true → IsRun rows t.0 k
row-run _ _ begin k d t e c b u = absurd (cc)
row-run _ _ (inner rows unused kk i l) k d t e c b u = by (λ g z. row-run rows (unused ++ parts rows kk) l k d t g c b z) (push-get rows (inner_row kk) d k e)
  where
    by : (slice_get rows k ≡ Some d → is_unnamed_row (slice_get rows t.0) ≡ true → IsRun rows t.0 k) → (slice_get rows k ≡ Some d) ⊎ ((k ≡ length rows) × (inner_row kk ≡ d)) → IsRun (rows ++ inner_row kk ∷ []) t.0 k
    by rest (inl g) =
        let within = slice_get_within rows k d g in
        run-before rows (inner_row kk) t.0 k (omega (arith, within))
        (rest g (subst (λ (o : Option Definition). is_unnamed_row o ≡ true) (get-front rows (inner_row kk ∷ []) t.0 (omega (arith, within, b))) u))
    by rest (inr g) = subst (IsRun (rows ++ inner_row kk ∷ []) t.0) (sym g.0) (last-run rows unused (inner_row kk) d t l (inner-plain rows kk i) g.1 c (omega (arith, b, g.0)) u)
row-run _ _ (whole rows w n a l) k d t e c b u = by (λ g z. row-run rows (parts_of rows w) l k d t g c b z) (push-get rows w d k e)
  where
    by : (slice_get rows k ≡ Some d → is_unnamed_row (slice_get rows t.0) ≡ true → IsRun rows t.0 k) → (slice_get rows k ≡ Some d) ⊎ ((k ≡ length rows) × (w ≡ d)) → IsRun (rows ++ w ∷ []) t.0 k
    by rest (inl g) =
        let within = slice_get_within rows k d g in
        run-before rows w t.0 k (omega (arith, within))
        (rest g (subst (λ (o : Option Definition). is_unnamed_row o ≡ true) (get-front rows (w ∷ []) t.0 (omega (arith, within, b))) u))
    by rest (inr g) = subst (IsRun (rows ++ w ∷ []) t.0) (sym g.0) (last-run rows [] w d t l a g.1 c (omega (arith, b, g.0)) u)

-- so they are of one owner
run-owner : (rows : List Definition) (t n : ℕ) → t + n ≤ length rows → IsRun rows t (t + n) → get_or (owners rows) t None ≡ get_or (owners rows) (t + n) None
run-owner rows t zero l h = ap (λ m. get_or (owners rows) m None) (sym (plus-none t))
run-owner rows t (suc n) l h = by (run-owner rows (suc t) n) (slice_get rows t) refl
  where
    next : suc t + n ≡ t + suc n
    next = omega arith

    by : (suc t + n ≤ length rows → IsRun rows (suc t) (suc t + n) → get_or (owners rows) (suc t) None ≡ get_or (owners rows) (suc t + n) None) → (o : Option Definition) → slice_get rows t ≡ o
        → get_or (owners rows) t None ≡ get_or (owners rows) (t + suc n) None
    by rest None e = absurd (none-within rows t (omega (arith, l)) e)
    by rest (Some d) e =
        owner-next rows t d e (unnamed-owner d (h t d (omega arith) (omega arith) e))
        ∙ (rest (omega (arith, l)) (λ j x y z f. h j x (omega (arith, y)) (omega (arith, z)) f) ∙ ap (λ m. get_or (owners rows) m None) next)

pub part-owner : (rows : List Definition) → IsPostfix rows → are_earlier 0 rows ≡ true → (k : ℕ) (d : Definition) (t : TypeId) → slice_get rows k ≡ Some d → Contains (row_references d) t
    → is_unnamed_row (slice_get rows t.0) ≡ true → get_or (owners rows) t.0 None ≡ get_or (owners rows) k None
part-owner rows p earlier k d t e c u =
    let within = slice_get_within rows k d e in
    let before = named-before rows k d t earlier e (referred-named d t c) in
    let whole : t.0 + (k - t.0) ≡ k = omega arith in
    run-owner rows t.0 (k - t.0) (omega arith) (subst (IsRun rows t.0) (sym whole) (row-run rows [] p k d t e c before u)) ∙ ap (λ m. get_or (owners rows) m None) whole

-- a row without a name is no used name
inner-not-used : (k : TypeDefKind) (t : TypeId) → is_inner k ≡ true → used_by k ≡ Some t → ⊥
inner-not-used (kind.Use u) t h e = true≢false (sym h)
inner-not-used (kind.Alias v) t h e = cc
inner-not-used (kind.List v) t h e = cc
inner-not-used (kind.Option v) t h e = cc
inner-not-used (kind.Result ok error) t h e = cc
inner-not-used (kind.Tuple vs) t h e = cc
inner-not-used (kind.Record fs) t h e = cc
inner-not-used (kind.Variant cs) t h e = cc
inner-not-used (kind.Enum ns) t h e = cc
inner-not-used (kind.Flags ns) t h e = cc

pub used-named : (rows : List Definition) (unused : List ℕ) → Leaves rows unused → (k : ℕ) (d : Definition) (t : TypeId) → slice_get rows k ≡ Some d → used_in d ≡ Some t → is_unnamed d ≡ true → ⊥
used-named _ _ begin k d t e u n = cc
used-named _ _ (inner rows unused kk i l) k d t e u n = elim (push-get rows (inner_row kk) d k e) [
  | inl g ↦ used-named rows (unused ++ parts rows kk) l k d t g u n
  | inr g ↦ inner-not-used kk t i (subst (λ (x : Definition). used_in x ≡ Some t) (sym g.1) u)
]
used-named _ _ (whole rows w m a l) k d t e u n = elim (push-get rows w d k e) [
  | inl g ↦ used-named rows (parts_of rows w) l k d t g u n
  | inr g ↦ true≢false (sym (ap is_unnamed g.1 ∙ n) ∙ m)
]

-- ---- a row of a world is named by rows of the world alone

-- what a row names it refers to, or is a use of
pub named-as : (d : Definition) (t : TypeId) → Contains (names d) t → Contains (row_references d) t ⊎ (used_in d ≡ Some t)
named-as d t c = by (used_in d) refl c
  where
    by : (o : Option TypeId) → used_in d ≡ o → Contains (names_or o (row_references d)) t → Contains (row_references d) t ⊎ (used_in d ≡ Some t)
    by None e h = inl h
    by (Some u) e (zero, l, q) = inr (e ∙ ap Some q)
    by (Some u) e (suc k, l, q) = absurd (omega arith)

pub used-earlier : (rows : List Definition) (i : ℕ) (k : TypeDefKind) (t : TypeId) → used_by k ≡ Some t → uses_earlier rows i k ≡ true → is_earlier rows i t ≡ true
used-earlier rows i (kind.Use u) t e h = let same : u ≡ t = cc in subst (λ (x : TypeId). is_earlier rows i x ≡ true) same h
used-earlier rows i (kind.Alias v) t e h = absurd (cc)
used-earlier rows i (kind.List v) t e h = absurd (cc)
used-earlier rows i (kind.Option v) t e h = absurd (cc)
used-earlier rows i (kind.Result ok error) t e h = absurd (cc)
used-earlier rows i (kind.Tuple vs) t e h = absurd (cc)
used-earlier rows i (kind.Record fs) t e h = absurd (cc)
used-earlier rows i (kind.Variant cs) t e h = absurd (cc)
used-earlier rows i (kind.Enum ns) t e h = absurd (cc)
used-earlier rows i (kind.Flags ns) t e h = absurd (cc)

-- a type with a name is no world's
named-not : (rows : List Definition) (t : ℕ) (x : TypeName) (k : TypeDefKind) (n : Option TypeName) (w : WorldId) → slice_get rows t ≡ Some (row.Type (record { name = n; kind = k })) → n ≡ Some x
    → get_or (owners rows) t None ≡ Some (owner.World w) → ⊥
named-not rows t x k n w e q h =
    let owned : owner_of (row.Type (record { name = n; kind = k })) ≡ Some (owner.Interface x.interface) = ap (option_map (λ (y : TypeName). owner.Interface y.interface)) q in
    let is : Some (owner.Interface x.interface) ≡ Some (owner.World w) = sym (owner-some rows t (row.Type (record { name = n; kind = k })) (owner.Interface x.interface) e owned) ∙ h in
    cc

own-unnamed : (rows : List Definition) (i : ℕ) (t : TypeId) (w : WorldId) → is_own rows i t ≡ true → get_or (owners rows) t.0 None ≡ Some (owner.World w) → is_unnamed_row (slice_get rows t.0) ≡ true
own-unnamed rows i t w h q = by (slice_get rows t.0) refl h
  where
    by : (o : Option Definition) → slice_get rows t.0 ≡ o → is_own_type i (type_of o) ≡ true → is_unnamed_row (slice_get rows t.0) ≡ true
    by None e z = absurd (true≢false (sym z))
    by (Some (row.Function f)) e z = absurd (true≢false (sym z))
    by (Some (row.Type d)) e z = name d.name refl
      where
        name : (n : Option TypeName) → d.name ≡ n → is_unnamed_row (slice_get rows t.0) ≡ true
        name None g = ap is_unnamed_row e ∙ ap (λ (m : Option TypeName). not (is_some m)) g
        name (Some x) g = absurd (named-not rows t.0 x d.kind d.name w e g q)

earlier-not : (rows : List Definition) (i : ℕ) (t : TypeId) (w : WorldId) → is_earlier rows i t ≡ true → get_or (owners rows) t.0 None ≡ Some (owner.World w) → ⊥
earlier-not rows i t w h q = by (slice_get rows t.0) refl h
  where
    by : (o : Option Definition) → slice_get rows t.0 ≡ o → is_earlier_type i (type_of o) ≡ true → ⊥
    by None e z = true≢false (sym z)
    by (Some (row.Function f)) e z = true≢false (sym z)
    by (Some (row.Type d)) e z = name d.name refl z
      where
        name : (n : Option TypeName) → d.name ≡ n → is_earlier_name i n ≡ true → ⊥
        name None g y = true≢false (sym y)
        name (Some x) g y = named-not rows t.0 x d.kind d.name w e g q

pub nameless-unnamed : (rows : List Definition) (t : TypeId) → is_nameless rows t ≡ true → is_unnamed_row (slice_get rows t.0) ≡ true
nameless-unnamed rows t h = by (slice_get rows t.0) refl h
  where
    by : (o : Option Definition) → slice_get rows t.0 ≡ o → is_nameless_type (type_of o) ≡ true → is_unnamed_row (slice_get rows t.0) ≡ true
    by None e z = absurd (true≢false (sym z))
    by (Some (row.Function f)) e z = absurd (true≢false (sym z))
    by (Some (row.Type d)) e z = ap is_unnamed_row e ∙ z

module _ (r : Resolve) (stands : IsPackageByPackage r) (postfix : IsPostfix r.definitions) where
  abbrev rows : List Definition
  rows = r.definitions

  local-apart : (k : ℕ) (d : Definition) (t : TypeId) (w : WorldId) (i : ℕ) → slice_get rows k ≡ Some d → is_local rows i d ≡ true → Contains (names d) t → get_or (owners rows) t.0 None ≡ Some (owner.World w)
      → get_or (owners rows) k None ≡ Some (owner.World w)
  local-apart k d t w i e h c q = by (named-as d t c)
    where
      p : (is_owned rows i d ≡ true) × (list_all (is_own rows i) (row_references d) ≡ true)
      p = split (is_owned rows i d) (list_all (is_own rows i) (row_references d)) h

      used : (x : Definition) → is_owned rows i x ≡ true → used_in x ≡ Some t → ⊥
      used (row.Function f) y z = cc
      used (row.Type x) y z = earlier-not rows i t w (used-earlier rows i x.kind t z (split (is_own_name i x.name) (uses_earlier rows i x.kind) y).1) q

      by : Contains (row_references d) t ⊎ (used_in d ≡ Some t) → get_or (owners rows) k None ≡ Some (owner.World w)
      by (inr z) = absurd (used d p.0 z)
      by (inl z) =
          let place = contains-get (row_references d) t z in
          let own = list-at (is_own rows i) (row_references d) place.0 t p.1 place.1 in
          sym (part-owner rows postfix r.earlier k d t e z (own-unnamed rows i t w own q)) ∙ q

  world-apart : (k : ℕ) (d : Definition) (t : TypeId) (w : WorldId) (v : ℕ) → slice_get rows k ≡ Some d → is_world_row rows v d ≡ true → Contains (names d) t → get_or (owners rows) t.0 None ≡ Some (owner.World w)
      → get_or (owners rows) k None ≡ Some (owner.World w)
  world-apart k d t w v e h c q = by (named-as d t c)
    where
      p : (is_of_world v d ≡ true) × (list_all (is_nameless rows) (row_references d) ≡ true)
      p = split (is_of_world v d) (list_all (is_nameless rows) (row_references d)) h

      used : (x : Definition) → slice_get rows k ≡ Some x → is_of_world v x ≡ true → used_in x ≡ Some t → ⊥
      used (row.Function f) a y z = cc
      used (row.Type x) a y z = used-named rows [] postfix k (row.Type x) t a z y

      by : Contains (row_references d) t ⊎ (used_in d ≡ Some t) → get_or (owners rows) k None ≡ Some (owner.World w)
      by (inr z) = absurd (used d e p.0 z)
      by (inl z) =
          let place = contains-get (row_references d) t z in
          let nameless = list-at (is_nameless rows) (row_references d) place.0 t p.1 place.1 in
          sym (part-owner rows postfix r.earlier k d t e z (nameless-unnamed rows t nameless)) ∙ q

  pub worlds-apart : AreWorldsApart r
  worlds-apart k d w e c =
      let t = contains-unmap (owner_at (owners rows)) (names d) (Some (owner.World w)) c in
      elim (belongs rows 0 0 r.interfaces 0 r.worlds stands k d (omega arith) e) [
        | inl h ↦ local-apart k d t.0 w h.interface e h.local t.1 t.2
        | inr h ↦ world-apart k d t.0 w h.world e h.local t.1 t.2
      ]
