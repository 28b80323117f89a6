-- The rows and the interfaces of a closed table: its imports stand in it as in their own, in form, and the own package behind them.
use Rattle.std.proofs.Common.{◌≡◌, ℕ, suc, ◌+◌, ◌-◌, ◌≤◌, Bool, true, not, ◌&&◌, nat_le, List, [], ◌∷◌, ◌++◌, Option, None, Some, take, drop, length, slice_get, refl, ap, sym, ◌∙◌, subst, arith, false, true≢false}
use Rattle.std.specs.List.{list_all}
use Rattle.std.specs.Str.{bytes_eq}
use Rattle.std.proofs.lemmas.Bool.{eqb-true, leb-true, le-leb, ltb-true}
use Rattle.std.proofs.lemmas.List.{take-append-le, drop-append-le, length-drop}
use Rattle.std.proofs.lemmas.List.Folds.{list_all-append}
use Rattle.tables.specs.Tables.{is_there, type_of, is_type_id, is_function_id, is_placed, are_placed}
use Rattle.tables.specs.declared.tables.TypeId.{TypeId}
use Rattle.tables.specs.declared.tables.TypeDefKind.{TypeDefKind}
use Rattle.tables.specs.declared.tables.TypeDefKind.TheVariants as kind
use Rattle.tables.specs.declared.tables.TypeName.{TypeName}
use Rattle.tables.specs.declared.tables.Definition.{Definition}
use Rattle.tables.specs.declared.tables.Definition.TheVariants as row
use Rattle.tables.specs.declared.tables.Interface.{Interface}
use Rattle.tables.specs.declared.tables.World.{World}
use Rattle.tables.specs.declared.tables.Owner.{Owner}
use Rattle.tables.specs.declared.tables.Owner.TheVariants as owner
use Rattle.tables.proofs.ClosedTypesRowByRow.{split, both}
use Rattle.package_form.proofs.AllAndContains.{list-grows}
use Rattle.package_form.specs.Ids.{places_where, interface_in, interfaces_from, is_in, is_of_worlds, is_owned_by, is_use, is_world_function}
use Rattle.package_form.specs.References.{row_references}
use Rattle.package_form.specs.Ends.{end_of, rows_of, interfaces_end, is_parted}
use Rattle.package_form.specs.Form.{is_own_name, is_own_type, is_own, is_earlier_type, is_earlier, uses_earlier, is_owned, is_local, is_named, ids_of, is_use_type, is_use_at, has_ids, are_interfaces}
use Rattle.package_form.specs.Postfix.{IsPostfix, Leaves, begin, inner, whole, is_unnamed, one_if}
use Rattle.package_form.specs.Unused.{are_used}
use Rattle.tree_meaning.proofs.TableRows.{get-some, ends_named}
use Rattle.tree_meaning.proofs.ReferencesOfDefinitions.{Every}
use Rattle.tree_meaning.proofs.tree_forms.IdsArePlacesOfNamedRows.{IsElsewhere, not-that, none-and}
use Rattle.tree_meaning.proofs.tree_forms.RowsCutByDefinition.{heads, tails}
use Rattle.tree_meaning.proofs.RowsOfEachInterface.{step}
use Rattle.tree_meaning.specs.Resolves.{HasNoWorlds, interfaces_behind, is_behind, is_name_of, is_of_interfaces, is_owned_among}

all-both : {A : Type 0} (p q r : A → Bool) → ((x : A) → p x ≡ true → q x ≡ true → r x ≡ true) → (xs : List A) → list_all p xs ≡ true → list_all q xs ≡ true → list_all r xs ≡ true
all-both p q r f [] h k = refl
all-both p q r f (x ∷ xs) h k =
    let a = split (p x) (list_all p xs) h in
    let b = split (q x) (list_all q xs) k in
    both (r x) (list_all r xs) (f x a.0 b.0) (all-both p q r f xs a.1 b.1)

-- ---- rows, when more come behind them

module _ (rows more : List Definition) where
  own-kept : (k : ℕ) (t : TypeId) → is_own rows k t ≡ true → is_own (rows ++ more) k t ≡ true
  own-kept k t h = by (slice_get rows t.0) refl h
    where
      by : (o : Option Definition) → slice_get rows t.0 ≡ o → is_own_type k (type_of o) ≡ true → is_own (rows ++ more) k t ≡ true
      by None e q = absurd (cc)
      by (Some d) e q = ap (λ (o : Option Definition). is_own_type k (type_of o)) (get-some rows more t.0 d e) ∙ q

  earlier-kept : (k : ℕ) (t : TypeId) → is_earlier rows k t ≡ true → is_earlier (rows ++ more) k t ≡ true
  earlier-kept k t h = by (slice_get rows t.0) refl h
    where
      by : (o : Option Definition) → slice_get rows t.0 ≡ o → is_earlier_type k (type_of o) ≡ true → is_earlier (rows ++ more) k t ≡ true
      by None e q = absurd (cc)
      by (Some d) e q = ap (λ (o : Option Definition). is_earlier_type k (type_of o)) (get-some rows more t.0 d e) ∙ q

  uses-kept : (k : ℕ) (c : TypeDefKind) → uses_earlier rows k c ≡ true → uses_earlier (rows ++ more) k c ≡ true
  uses-kept k (kind.Use t) h = earlier-kept k t h
  uses-kept k _ h = refl

  owned-kept : (k : ℕ) (d : Definition) → is_owned rows k d ≡ true → is_owned (rows ++ more) k d ≡ true
  owned-kept k (row.Type d) h =
      let s = split (is_own_name k d.name) (uses_earlier rows k d.kind) h in
      both (is_own_name k d.name) (uses_earlier (rows ++ more) k d.kind) s.0 (uses-kept k d.kind s.1)
  owned-kept k (row.Function f) h = h

  local-kept : (k : ℕ) (d : Definition) → is_local rows k d ≡ true → is_local (rows ++ more) k d ≡ true
  local-kept k d h =
      let s = split (is_owned rows k d) (list_all (is_own rows k) (row_references d)) h in
      both (is_owned (rows ++ more) k d) (list_all (is_own (rows ++ more) k) (row_references d)) (owned-kept k d s.0)
      (list-grows (is_own rows k) (is_own (rows ++ more) k) (own-kept k) (row_references d) s.1)

  use-kept : (t : TypeId) → is_use_at rows t ≡ true → is_use_at (rows ++ more) t ≡ true
  use-kept t h = by (slice_get rows t.0) refl h
    where
      by : (o : Option Definition) → slice_get rows t.0 ≡ o → is_use_type (type_of o) ≡ true → is_use_at (rows ++ more) t ≡ true
      by None e q = absurd (cc)
      by (Some d) e q = ap (λ (o : Option Definition). is_use_type (type_of o)) (get-some rows more t.0 d e) ∙ q

  type-kept : (t : TypeId) → is_type_id rows t ≡ true → not (is_use_at rows t) ≡ true → not (is_use_at (rows ++ more) t) ≡ true
  type-kept t there h = by (slice_get rows t.0) refl there h
    where
      by : (o : Option Definition) → slice_get rows t.0 ≡ o → is_there (type_of o) ≡ true → not (is_use_type (type_of o)) ≡ true → not (is_use_at (rows ++ more) t) ≡ true
      by None e p q = absurd (cc)
      by (Some d) e p q = ap (λ (o : Option Definition). not (is_use_type (type_of o))) (get-some rows more t.0 d e) ∙ q

  pub rows-kept : (start : ℕ) (i : Interface) → start ≤ end_of start i → end_of start i ≤ length rows → rows_of (rows ++ more) start i ≡ rows_of rows start i
  rows-kept start i l m =
      ap (take (end_of start i - start)) (drop-append-le start rows more (omega (arith, l, m)))
      ∙ take-append-le (end_of start i - start) (drop start rows) more (omega (arith, l, m, length-drop start rows))

  ids-kept : (start : ℕ) (i : Interface) → start ≤ end_of start i → end_of start i ≤ length rows → is_placed rows i ≡ true → has_ids rows start i ≡ true → has_ids (rows ++ more) start i ≡ true
  ids-kept start i l m placed h =
      let a = split (bytes_eq (ids_of i) (places_where is_named start (rows_of rows start i))) _ h in
      let b = split (list_all (is_use_at rows) i.uses) (list_all (λ t. not (is_use_at rows t)) i.types) a.1 in
      let p = split (list_all (is_type_id rows) i.uses) _ placed in
      let q = split (list_all (is_type_id rows) i.types) (list_all (is_function_id rows) i.functions) p.1 in
      both (bytes_eq (ids_of i) (places_where is_named start (rows_of (rows ++ more) start i))) _
      (ap (λ (ds : List Definition). bytes_eq (ids_of i) (places_where is_named start ds)) (rows-kept start i l m) ∙ a.0)
      (both (list_all (is_use_at (rows ++ more)) i.uses) (list_all (λ t. not (is_use_at (rows ++ more) t)) i.types)
      (list-grows (is_use_at rows) (is_use_at (rows ++ more)) use-kept i.uses b.0)
      (all-both (is_type_id rows) (λ t. not (is_use_at rows t)) (λ t. not (is_use_at (rows ++ more) t)) type-kept i.types q.0 b.1))

  -- interfaces in form stay so
  pub interfaces-kept : (k start : ℕ) (is : List Interface) → is_parted (length rows) start is [] ≡ true → are_placed rows is ≡ true → are_interfaces rows k start is ≡ true
      → are_interfaces (rows ++ more) k start is ≡ true
  interfaces-kept k start [] parted placed h = refl
  interfaces-kept k start (i ∷ is) parted placed h =
      let a = split (nat_le start (end_of start i)) _ parted in
      let b = split (nat_le (end_of start i) (length rows)) (is_parted (length rows) (end_of start i) is []) a.1 in
      let l = leb-true start (end_of start i) a.0 in
      let m = leb-true (end_of start i) (length rows) b.0 in
      let p = split (is_placed rows i) (are_placed rows is) placed in
      let s = split (has_ids rows start i && list_all (is_local rows k) (rows_of rows start i)) (are_interfaces rows (k + 1) (end_of start i) is) h in
      let t = split (has_ids rows start i) (list_all (is_local rows k) (rows_of rows start i)) s.0 in
      both (has_ids (rows ++ more) start i && list_all (is_local (rows ++ more) k) (rows_of (rows ++ more) start i)) (are_interfaces (rows ++ more) (k + 1) (end_of start i) is)
      (both (has_ids (rows ++ more) start i) (list_all (is_local (rows ++ more) k) (rows_of (rows ++ more) start i)) (ids-kept start i l m p.0 t.0)
      (ap (list_all (is_local (rows ++ more) k)) (rows-kept start i l m) ∙ list-grows (is_local rows k) (is_local (rows ++ more) k) (local-kept k) (rows_of rows start i) t.1))
      (interfaces-kept (k + 1) (end_of start i) is b.1 p.1 s.1)

-- ---- interfaces behind others

pub interfaces-behind : (rows : List Definition) (k start : ℕ) (is js : List Interface) → are_interfaces rows k start is ≡ true → are_interfaces rows (k + length is) (interfaces_end start is) js ≡ true
    → are_interfaces rows k start (is ++ js) ≡ true
interfaces-behind rows k start [] js h q = let z : k + 0 ≡ k = omega arith in subst (λ (n : ℕ). are_interfaces rows n start js ≡ true) z q
interfaces-behind rows k start (i ∷ is) js h q =
    let z : k + suc (length is) ≡ k + 1 + length is = omega arith in
    let s = split (has_ids rows start i && list_all (is_local rows k) (rows_of rows start i)) (are_interfaces rows (k + 1) (end_of start i) is) h in
    both (has_ids rows start i && list_all (is_local rows k) (rows_of rows start i)) (are_interfaces rows (k + 1) (end_of start i) (is ++ js)) s.0
    (interfaces-behind rows (k + 1) (end_of start i) is js s.1 (subst (λ (n : ℕ). are_interfaces rows n (interfaces_end (end_of start i) is) js ≡ true) z q))

-- the rows of a table of interfaces end with those of the last
pub last-end : (count start : ℕ) (is : List Interface) → is_parted count start is [] ≡ true → interfaces_end start is ≡ count
last-end count start [] h = eqb-true start count h
last-end count start (i ∷ is) h =
    let a = split (nat_le start (end_of start i)) _ h in
    last-end count (end_of start i) is (split (nat_le (end_of start i) count) (is_parted count (end_of start i) is []) a.1).1

pub parted-behind : (few count start : ℕ) (is js : List Interface) (ws : List World) → few ≤ count → is_parted few start is [] ≡ true → is_parted count few js ws ≡ true → is_parted count start (is ++ js) ws ≡ true
parted-behind few count start [] js ws l h q = subst (λ (n : ℕ). is_parted count n js ws ≡ true) (sym (eqb-true start few h)) q
parted-behind few count start (i ∷ is) js ws l h q =
    let a = split (nat_le start (end_of start i)) _ h in
    let b = split (nat_le (end_of start i) few) (is_parted few (end_of start i) is []) a.1 in
    let m = leb-true (end_of start i) few b.0 in
    both (nat_le start (end_of start i)) _ a.0
    (both (nat_le (end_of start i) count) (is_parted count (end_of start i) (is ++ js) ws) (le-leb (end_of start i) count (omega (arith, l, m)))
    (parted-behind few count (end_of start i) is js ws l b.1 q))

pub behind-end : (start : ℕ) (is js : List Interface) → interfaces_end start (is ++ js) ≡ interfaces_end (interfaces_end start is) js
behind-end start [] js = refl
behind-end start (i ∷ is) js = behind-end (end_of start i) is js

-- ---- interfaces that are made of rows, whatever their names and their package

pub parted-so : (n count : ℕ) (rows : List Definition) (ws : List World) (start j : ℕ) (ns ms : List (List ℕ)) → length ns ≡ length ms
    → is_parted count start (interfaces_behind n j rows ns) ws ≡ is_parted count start (interfaces_from rows j ms) ws
parted-so n count rows ws start j [] [] e = refl
parted-so n count rows ws start j [] (m ∷ ms) e = absurd (omega (arith, e))
parted-so n count rows ws start j (x ∷ ns) [] e = absurd (omega (arith, e))
parted-so n count rows ws start j (x ∷ ns) (m ∷ ms) e =
    ap (λ (b : Bool). nat_le start (end_of start (interface_in rows j m)) && (nat_le (end_of start (interface_in rows j m)) count && b))
    (parted-so n count rows ws (end_of start (interface_in rows j m)) (j + 1) ns ms (omega (arith, e)))

pub end-so : (n : ℕ) (rows : List Definition) (start j : ℕ) (ns ms : List (List ℕ)) → length ns ≡ length ms → interfaces_end start (interfaces_behind n j rows ns) ≡ interfaces_end start (interfaces_from rows j ms)
end-so n rows start j [] [] e = refl
end-so n rows start j [] (m ∷ ms) e = absurd (omega (arith, e))
end-so n rows start j (x ∷ ns) [] e = absurd (omega (arith, e))
end-so n rows start j (x ∷ ns) (m ∷ ms) e = end-so n rows (end_of start (interface_in rows j m)) (j + 1) ns ms (omega (arith, e))

pub standing-so : (n : ℕ) (rows : List Definition) (k start j : ℕ) (ns ms : List (List ℕ)) → length ns ≡ length ms
    → are_interfaces rows k start (interfaces_behind n j rows ns) ≡ are_interfaces rows k start (interfaces_from rows j ms)
standing-so n rows k start j [] [] e = refl
standing-so n rows k start j [] (m ∷ ms) e = absurd (omega (arith, e))
standing-so n rows k start j (x ∷ ns) [] e = absurd (omega (arith, e))
standing-so n rows k start j (x ∷ ns) (m ∷ ms) e =
    ap (λ (b : Bool). (has_ids rows start (interface_in rows j m) && list_all (is_local rows k) (rows_of rows start (interface_in rows j m))) && b)
    (standing-so n rows (k + 1) (end_of start (interface_in rows j m)) (j + 1) ns ms (omega (arith, e)))

-- ---- the rows of interfaces in front of others

-- the last row has a name, since none without one is left unused
pub ends-postfix : (rows : List Definition) → IsPostfix rows → ends_named rows ≡ true
ends-postfix rows h = by rows [] h refl
  where
    last-named : (ds : List Definition) (d : Definition) → is_unnamed d ≡ false → ends_named (ds ++ d ∷ []) ≡ true
    last-named [] d e = ap not e
    last-named (x ∷ []) d e = ap not e
    last-named (x ∷ y ∷ ds) d e = last-named (y ∷ ds) d e

    some-left : (ns : List ℕ) (n : ℕ) → ns ++ n ∷ [] ≡ [] → ⊥
    some-left [] n e = absurd (cc)
    some-left (m ∷ ns) n e = absurd (cc)

    by : (ds : List Definition) (unused : List ℕ) → Leaves ds unused → unused ≡ [] → ends_named ds ≡ true
    by _ _ begin e = refl
    by _ _ (inner ds unused k is l) e = absurd (some-left unused (length ds) e)
    by _ _ (whole ds d named alias l) e = last-named ds d named

module _ (n : ℕ) where
  unnamed-both : (d : Definition) → is_of_interfaces n d ≡ true → is_behind d ≡ true → not (is_unnamed d) ≡ false
  unnamed-both (row.Type d) h q = ap not q
  unnamed-both (row.Function f) h q = by f.owner h q
    where
      by : (o : Owner) → is_owned_among n o ≡ true → is_of_worlds o ≡ true → true ≡ false
      by (owner.Interface i) a b = absurd (cc)
      by (owner.World w) a b = absurd (cc)

  none-named : (d : Definition) (ds : List Definition) → list_all (is_of_interfaces n) (d ∷ ds) ≡ true → list_all is_behind (d ∷ ds) ≡ true → ends_named (d ∷ ds) ≡ false
  none-named d [] h q = unnamed-both d (split (is_of_interfaces n d) true h).0 (split (is_behind d) true q).0
  none-named d (e ∷ ds) h q = none-named e ds (split (is_of_interfaces n d) (list_all (is_of_interfaces n) (e ∷ ds)) h).1 (split (is_behind d) (list_all is_behind (e ∷ ds)) q).1

  ends-on : (d : Definition) (ds : List Definition) → ends_named (d ∷ ds) ≡ true → ends_named ds ≡ true
  ends-on d [] h = refl
  ends-on d (e ∷ ds) h = h

  -- rows of interfaces, the last of which has a name, stand in front of those of worlds
  pub front-behind : (pre own front back : List Definition) → pre ++ own ≡ front ++ back → list_all (is_of_interfaces n) pre ≡ true → ends_named pre ≡ true → list_all is_behind back ≡ true
      → (ds : List Definition) × (front ≡ pre ++ ds) × (own ≡ ds ++ back)
  front-behind [] own front back e h named q = (front, refl, e)
  front-behind (d ∷ pre) own [] back e h named q =
      let all : list_all is_behind ((d ∷ pre) ++ own) ≡ true = ap (list_all is_behind) e ∙ q in
      let s = split (list_all is_behind (d ∷ pre)) (list_all is_behind own) (sym (list_all-append is_behind (d ∷ pre) own) ∙ all) in
      absurd (true≢false (sym named ∙ none-named d pre h s.0))
  front-behind (d ∷ pre) own (x ∷ front) back e h named q =
      let r = front-behind pre own front back (tails e) (split (is_of_interfaces n d) (list_all (is_of_interfaces n) pre) h).1 (ends-on d pre named) q in
      (r.0, ap (λ (y : Definition). y ∷ front) (sym (heads e)) ∙ ap (λ (ds : List Definition). d ∷ ds) r.1, r.2)

  no-world : (d : Definition) → is_of_interfaces n d ≡ true → not (is_world_function d) ≡ true
  no-world (row.Type d) h = refl
  no-world (row.Function f) h = by f.owner h
    where
      by : (o : Owner) → is_owned_among n o ≡ true → not (is_of_worlds o) ≡ true
      by (owner.Interface i) q = refl
      by (owner.World w) q = absurd (cc)

  pub no-worlds : (ds : List Definition) → list_all (is_of_interfaces n) ds ≡ true → HasNoWorlds ds
  no-worlds ds h = list-grows (is_of_interfaces n) (λ d. not (is_world_function d)) no-world ds h

  module _ (k : ℕ) (l : n ≤ k) where
    not-in : (o : Option TypeName) → is_name_of n o ≡ true → is_in k o ≡ false
    not-in None h = refl
    not-in (Some m) h = not-that m.interface.0 k (λ e. omega (arith, e, l, ltb-true m.interface.0 n h))

    not-owned : (o : Owner) → is_owned_among n o ≡ true → is_owned_by k o ≡ false
    not-owned (owner.Interface i) h = not-that i.0 k (λ e. omega (arith, e, l, ltb-true i.0 n h))
    not-owned (owner.World w) h = refl

    other-interface : (d : Definition) → is_of_interfaces n d ≡ true → IsElsewhere k d
    other-interface (row.Type d) h =
        let out = not-in d.name h in
        record { used = none-and (is_in k d.name) (is_use d.kind) out; typed = none-and (is_in k d.name) (not (is_use d.kind)) out; function = refl }
    other-interface (row.Function f) h = record { used = refl; typed = refl; function = not-owned f.owner h }

    pub other-interfaces : (ds : List Definition) → list_all (is_of_interfaces n) ds ≡ true → Every (IsElsewhere k) ds
    other-interfaces [] h = tt
    other-interfaces (d ∷ ds) h = let s = split (is_of_interfaces n d) (list_all (is_of_interfaces n) ds) h in (other-interface d s.0, other-interfaces ds s.1)

-- behind a row with a name none is left unused
module _ (rows : List Definition) where
  used-on : (n : ℕ) (unused : List ℕ) (d : Definition) (S T : List Definition) → are_used rows n unused (d ∷ S ++ T) ≡ true → ends_named (d ∷ S) ≡ true → are_used rows (n + suc (length S)) [] T ≡ true
  used-on n unused d [] T h named =
      let s = step [] rows [] n unused d T h in
      let u : is_unnamed d ≡ false = not-not (is_unnamed d) named in
      let none : s.rest ++ one_if (is_unnamed d) n ≡ [] = ap (λ (ns : List ℕ). ns ++ one_if (is_unnamed d) n) (s.named u) ∙ ap (λ (b : Bool). one_if b n) u in
      let at : n + 1 ≡ n + suc 0 = omega arith in
      subst (λ (m : ℕ). are_used rows m [] T ≡ true) at (subst (λ (ns : List ℕ). are_used rows (n + 1) ns T ≡ true) none s.on)
    where
      not-not : (b : Bool) → not b ≡ true → b ≡ false
      not-not true e = absurd (cc)
      not-not false e = refl
  used-on n unused d (e ∷ S) T h named =
      let s = step [] rows [] n unused d (e ∷ S ++ T) h in
      let at : n + 1 + suc (length S) ≡ n + suc (suc (length S)) = omega arith in
      subst (λ (m : ℕ). are_used rows m [] T ≡ true) at (used-on (n + 1) (s.rest ++ one_if (is_unnamed d) n) e S T s.on named)

  pub used-behind : (S T : List Definition) → are_used rows 0 [] (S ++ T) ≡ true → ends_named S ≡ true → are_used rows (length S) [] T ≡ true
  used-behind [] T h named = h
  used-behind (d ∷ S) T h named =
      let at : 0 + suc (length S) ≡ suc (length S) = omega arith in
      subst (λ (m : ℕ). are_used rows m [] T ≡ true) at (used-on 0 [] d S T h named)
