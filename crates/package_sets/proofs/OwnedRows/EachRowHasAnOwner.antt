-- Whose the rows of tables are that stand package by package: each belongs to an interface or to a world.
use Rattle.std.proofs.Common.{◌≡◌, ◌≤◌, ◌<◌, ◌⊎◌, inl, inr, ℕ, zero, suc, ◌+◌, ◌-◌, true, not, ◌&&◌, List, [], ◌∷◌, ◌++◌, length, take, drop, get_or, slice_get, Option, None, Some, refl, ap, sym, subst, ◌∙◌, arith, true≢false, eqb-true}
use Rattle.std.specs.Prelude.{Contains, is_some}
use Rattle.std.specs.Option.{option_map, option_or}
use Rattle.std.specs.List.{list_all}
use Rattle.std.specs.Str.{bytes_eq}
use Rattle.std.proofs.lemmas.List.{length-take}
use Rattle.std.proofs.lemmas.Slice.Eq.{bytes_eq-Decides}
use Rattle.std.proofs.lemmas.Option.{slice_get_within, slice_get-get_or}
use Rattle.canonical_abi.proofs.Traces.TracesLeaveImages.{slice_get-drop, slice_get-take}
use Rattle.package_form.specs.Ids.{places_where, is_owned_by}
use Rattle.package_form.specs.Ends.{end_of, rows_of, world_end, world_rows}
use Rattle.package_form.specs.Postfix.{is_unnamed}
use Rattle.package_form.specs.References.{row_references}
use Rattle.package_form.specs.Form.{is_named, ids_of, is_own_name, is_own, uses_earlier, is_owned, is_local, is_use_at, is_nameless, is_of_world, is_world_row, functions_of}
use Rattle.tables.specs.Tables.{is_owner_world}
use Rattle.tables.proofs.ClosedTypesRowByRow.{split}
use Rattle.tables.specs.declared.tables.TypeName.{TypeName}
use Rattle.tables.specs.declared.tables.Owner.{Owner}
use Rattle.tables.specs.declared.tables.Owner.TheVariants as owner
use Rattle.tables.specs.declared.tables.Definition.{Definition}
use Rattle.tables.specs.declared.tables.Definition.TheVariants as row
use Rattle.tables.specs.declared.tables.Interface.{Interface}
use Rattle.tables.specs.declared.tables.World.{World}
use Rattle.set_rows.specs.Owners.{first_owner, owners}
use Rattle.tables.specs.Names.{owner_of}
use Rattle.package_sets.specs.Set.{AreRowsOf, AreRowsOfWorld, ArePackageByPackage, behind_all, an_interface, a_world}
use Rattle.package_sets.proofs.KeptParts.KeptTogether.{places-in, end-is-id, end-is-function}
use Rattle.package_sets.proofs.KeptParts.PropertiesOfKept.{list-at}

pub owner-some : (ds : List Definition) (k : ℕ) (d : Definition) (x : Owner) → slice_get ds k ≡ Some d → owner_of d ≡ Some x → get_or (owners ds) k None ≡ Some x
owner-some [] k d x h e = absurd (cc)
owner-some (c ∷ ds) zero d x h e =
    let same : c ≡ d = cc in
    ap (λ (o : Option Owner). option_or o (first_owner (owners ds))) (ap owner_of same ∙ e)
owner-some (c ∷ ds) (suc k) d x h e = owner-some ds k d x h e

first-none : (os : List (Option Owner)) → first_owner os ≡ get_or os 0 None
first-none [] = refl
first-none (o ∷ os) = refl

pub owner-next : (ds : List Definition) (k : ℕ) (d : Definition) → slice_get ds k ≡ Some d → owner_of d ≡ None → get_or (owners ds) k None ≡ get_or (owners ds) (suc k) None
owner-next [] k d e h = absurd (cc)
owner-next (c ∷ ds) zero d e h =
    let same : c ≡ d = cc in
    ap (λ (o : Option Owner). option_or o (first_owner (owners ds))) (ap owner_of same ∙ h) ∙ first-none (owners ds)
owner-next (c ∷ ds) (suc k) d e h = owner-next ds k d e h

pub unnamed-owner : (d : Definition) → is_unnamed d ≡ true → owner_of d ≡ None
unnamed-owner (row.Function f) h = absurd (true≢false (sym h))
unnamed-owner (row.Type d) h = by d.name refl
  where
    by : (n : Option TypeName) → d.name ≡ n → option_map (λ x. owner.Interface x.interface) d.name ≡ None
    by None e = ap (option_map (λ x. owner.Interface x.interface)) e
    by (Some n) e = absurd (true≢false (sym (sym (ap (λ (x : Option TypeName). not (is_some x)) e) ∙ h)))

-- ---- the owner of a run of rows that ends in one with a name

pub one-more : (x : ℕ) → suc x ≡ x + 1
one-more x = omega arith

pub one-later : (x m : ℕ) → x + 1 + m ≡ x + suc m
one-later x m = omega arith

pub none-plus : (x : ℕ) → 0 + x ≡ x
none-plus x = omega arith

pub plus-none : (x : ℕ) → x + 0 ≡ x
plus-none x = omega arith

owner-run : (ds : List Definition) (o : Owner) (x m : ℕ) → ((j : ℕ) (d : Definition) → j ≤ m → slice_get ds (x + j) ≡ Some d → (owner_of d ≡ Some o) ⊎ (owner_of d ≡ None)) → x + m < length ds
    → (d : Definition) → slice_get ds (x + m) ≡ Some d → owner_of d ≡ Some o → get_or (owners ds) x None ≡ Some o
owner-run ds o x zero each within d e h = owner-some ds x d o (ap (slice_get ds) (sym (plus-none x)) ∙ e) h
owner-run ds o x (suc m) each within d e h =
    let index : (j : ℕ) → suc x + j ≡ x + suc j = λ j. omega arith in
    let rest = owner-run ds o (suc x) m (λ j c l f. each (suc j) c (omega (arith, l)) (ap (slice_get ds) (sym (index j)) ∙ f)) (omega arith) d (ap (slice_get ds) (index m) ∙ e) h in
    let here : slice_get ds x ≡ Some (get_or ds x d) = slice_get-get_or ds x d (omega arith) in
    let at : slice_get ds (x + 0) ≡ Some (get_or ds x d) = ap (slice_get ds) (plus-none x) ∙ here in
    elim (each 0 (get_or ds x d) (omega arith) at) [ inl q ↦ owner-some ds x (get_or ds x d) o here q | inr q ↦ owner-next ds x (get_or ds x d) here q ∙ rest ]

-- a row of a block of a table
pub block-row : (ds : List Definition) (start end j : ℕ) (d : Definition) → slice_get (take (end - start) (drop start ds)) j ≡ Some d → slice_get ds (start + j) ≡ Some d
block-row ds start end j d e =
    let l : j < length (take (end - start) (drop start ds)) = slice_get_within _ j d e in
    let m : j < end - start = omega (arith, l, length-take (end - start) (drop start ds)) in
    sym (slice_get-drop start ds j) ∙ (sym (slice_get-take (end - start) (drop start ds) j m) ∙ e)

pub row-block : (ds : List Definition) (start end j : ℕ) (d : Definition) → j < end - start → slice_get ds (start + j) ≡ Some d → slice_get (take (end - start) (drop start ds)) j ≡ Some d
row-block ds start end j d l e = slice_get-take (end - start) (drop start ds) j l ∙ (slice_get-drop start ds j ∙ e)

-- rows of an interface are its own, or without a name
pub local-owned : (rows : List Definition) (k : ℕ) (d : Definition) → is_local rows k d ≡ true → (owner_of d ≡ Some (owner.Interface (record { 0 = k }))) ⊎ (owner_of d ≡ None)
local-owned rows k (row.Type d) h = by d.name refl (split (is_own_name k d.name) (uses_earlier rows k d.kind) (split (is_owned rows k (row.Type d)) (list_all (is_own rows k) (row_references (row.Type d))) h).0).0
  where
    by : (n : Option TypeName) → d.name ≡ n → is_own_name k d.name ≡ true → (owner_of (row.Type d) ≡ Some (owner.Interface (record { 0 = k }))) ⊎ (owner_of (row.Type d) ≡ None)
    by None e q = inr (ap (option_map (λ x. owner.Interface x.interface)) e)
    by (Some n) e q =
        let own : n.interface.0 ≡ k = eqb-true n.interface.0 k (sym (ap (is_own_name k) e) ∙ q) in
        inl (ap (option_map (λ x. owner.Interface x.interface)) e ∙ ap (λ (j : ℕ). Some (owner.Interface (record { 0 = j }))) own)
local-owned rows k (row.Function f) h = by f.owner refl (split (is_owned rows k (row.Function f)) (list_all (is_own rows k) (row_references (row.Function f))) h).0
  where
    by : (o : Owner) → f.owner ≡ o → is_owned_by k f.owner ≡ true → (owner_of (row.Function f) ≡ Some (owner.Interface (record { 0 = k }))) ⊎ (owner_of (row.Function f) ≡ None)
    by (owner.World w) e q = absurd (true≢false (sym q ∙ ap (is_owned_by k) e))
    by (owner.Interface i) e q =
        let own : i.0 ≡ k = eqb-true i.0 k (sym (ap (is_owned_by k) e) ∙ q) in
        inl (ap Some e ∙ ap (λ (j : ℕ). Some (owner.Interface (record { 0 = j }))) own)

pub world-owned : (rows : List Definition) (k : ℕ) (d : Definition) → is_world_row rows k d ≡ true → (owner_of d ≡ Some (owner.World (record { 0 = k }))) ⊎ (owner_of d ≡ None)
world-owned rows k (row.Type d) h = inr (unnamed-owner (row.Type d) (split (is_of_world k (row.Type d)) (list_all (is_nameless rows) (row_references (row.Type d))) h).0)
world-owned rows k (row.Function f) h = by f.owner refl (split (is_of_world k (row.Function f)) (list_all (is_nameless rows) (row_references (row.Function f))) h).0
  where
    by : (o : Owner) → f.owner ≡ o → is_owner_world k f.owner ≡ true → (owner_of (row.Function f) ≡ Some (owner.World (record { 0 = k }))) ⊎ (owner_of (row.Function f) ≡ None)
    by (owner.Interface i) e q = absurd (true≢false (sym q ∙ ap (is_owner_world k) e))
    by (owner.World w) e q =
        let own : w.0 ≡ k = eqb-true w.0 k (sym (ap (is_owner_world k) e) ∙ q) in
        inl (ap Some e ∙ ap (λ (j : ℕ). Some (owner.World (record { 0 = j }))) own)

-- a row with a name that may have this owner has it
pub named-owned : (d : Definition) (o : Owner) → is_named d ≡ true → (owner_of d ≡ Some o) ⊎ (owner_of d ≡ None) → owner_of d ≡ Some o
named-owned d o h (inl e) = e
named-owned (row.Function f) o h (inr e) = absurd (cc)
named-owned (row.Type d) o h (inr e) = by d.name refl e
  where
    by : (n : Option TypeName) → d.name ≡ n → option_map (λ x. owner.Interface x.interface) d.name ≡ None → owner_of (row.Type d) ≡ Some o
    by None q z = absurd (true≢false (sym h ∙ ap (λ (n : Option TypeName). not (not (is_some n))) q))
    by (Some n) q z = absurd (some-not (sym (ap (option_map (λ x. owner.Interface x.interface)) q) ∙ z))
      where
        some-not : {A : Type 0} {y : A} → Some y ≡ None → ⊥
        some-not w = cc

-- every row of a block has this owner, where each has it or no name, and the last has a name
pub block-owner : (ds : List Definition) (o : Owner) (start end : ℕ) → ((j : ℕ) (d : Definition) → slice_get (take (end - start) (drop start ds)) j ≡ Some d → (owner_of d ≡ Some o) ⊎ (owner_of d ≡ None))
    → end ≤ length ds → (last : ℕ) (d : Definition) → start + last + 1 ≡ end → slice_get ds (start + last) ≡ Some d → owner_of d ≡ Some o
    → (x : ℕ) → x < end - start → get_or (owners ds) (start + x) None ≡ Some o
block-owner ds o start end each within last d at e h x l =
    let whole : start + x + (last - x) ≡ start + last = omega arith in
    owner-run ds o (start + x) (last - x)
    (λ j c k f. each (x + j) c (row-block ds start end (x + j) c (omega arith) (ap (slice_get ds) (regroup j) ∙ f))) (omega arith) d (ap (slice_get ds) whole ∙ e) h
  where
    regroup : (j : ℕ) → start + (x + j) ≡ start + x + j
    regroup j = omega arith

-- the last row of an interface has a name
pub interface-owner : (ds : List Definition) (start k : ℕ) (i : Interface) → AreRowsOf ds start k i → (x : ℕ) → x < end_of start i - start → get_or (owners ds) (start + x) None ≡ Some (owner.Interface (record { 0 = k }))
interface-owner ds start k i a x l = by (end-is-id start i)
  where
    each : (j : ℕ) (d : Definition) → slice_get (rows_of ds start i) j ≡ Some d → (owner_of d ≡ Some (owner.Interface (record { 0 = k }))) ⊎ (owner_of d ≡ None)
    each j d e = local-owned ds k d (list-at (is_local ds k) (rows_of ds start i) j d a.local e)

    ids : ids_of i ≡ places_where is_named start (rows_of ds start i)
    ids = (bytes_eq-Decides (ids_of i) (places_where is_named start (rows_of ds start i))).0
        (split (bytes_eq (ids_of i) (places_where is_named start (rows_of ds start i))) (list_all (is_use_at ds) i.uses && list_all (λ t. not (is_use_at ds t)) i.types) a.ids).0

    by : (end_of start i ≡ start) ⊎ ((y : ℕ) × Contains (ids_of i) y × (end_of start i ≡ y + 1)) → get_or (owners ds) (start + x) None ≡ Some (owner.Interface (record { 0 = k }))
    by (inl e) = absurd (omega arith)
    by (inr (y, c, e)) =
        let p = places-in is_named start (rows_of ds start i) y (subst (λ (ys : List ℕ). Contains ys y) ids c) in
        let at = block-row ds start (end_of start i) p.0 p.1 p.3 in
        block-owner ds (owner.Interface (record { 0 = k })) start (end_of start i) each a.ends p.0 p.1 (omega (arith, p.2, e)) at (named-owned p.1 _ p.4 (each p.0 p.1 p.3)) x l

pub world-owner : (ds : List Definition) (start k : ℕ) (w : World) → AreRowsOfWorld ds start k w → (x : ℕ) → x < world_end start w - start → get_or (owners ds) (start + x) None ≡ Some (owner.World (record { 0 = k }))
world-owner ds start k w a x l = by (end-is-function start w.items)
  where
    each : (j : ℕ) (d : Definition) → slice_get (world_rows ds start w) j ≡ Some d → (owner_of d ≡ Some (owner.World (record { 0 = k }))) ⊎ (owner_of d ≡ None)
    each j d e = world-owned ds k d (list-at (is_world_row ds k) (world_rows ds start w) j d a.local e)

    ids : places_where is_named start (world_rows ds start w) ≡ functions_of w
    ids = (bytes_eq-Decides (places_where is_named start (world_rows ds start w)) (functions_of w)).0 a.items

    by : (world_end start w ≡ start) ⊎ ((y : ℕ) × Contains (functions_of w) y × (world_end start w ≡ y + 1)) → get_or (owners ds) (start + x) None ≡ Some (owner.World (record { 0 = k }))
    by (inl e) = absurd (omega arith)
    by (inr (y, c, e)) =
        let p = places-in is_named start (world_rows ds start w) y (subst (λ (ys : List ℕ). Contains ys y) (sym ids) c) in
        let at = block-row ds start (world_end start w) p.0 p.1 p.3 in
        block-owner ds (owner.World (record { 0 = k })) start (world_end start w) each a.ends p.0 p.1 (omega (arith, p.2, e)) at (named-owned p.1 _ p.4 (each p.0 p.1 p.3)) x l

-- ---- each row belongs to an interface, or to a world, of the table

-- the row at this place is of an interface from k on, before l
pub record IsOfInterface (rows : List Definition) (k l t : ℕ) (d : Definition) : Type 0 where
  pub interface : ℕ
  pub begins : k ≤ interface
  pub ends : interface < l
  pub local : is_local rows interface d ≡ true
  pub owned : get_or (owners rows) t None ≡ Some (owner.Interface (record { 0 = interface }))

-- .. of a world
pub record IsOfWorld (rows : List Definition) (j l t : ℕ) (d : Definition) : Type 0 where
  pub world : ℕ
  pub begins : j ≤ world
  pub ends : world < l
  pub local : is_world_row rows world d ≡ true
  pub owned : get_or (owners rows) t None ≡ Some (owner.World (record { 0 = world }))

abbrev pub Belongs : List Definition → ℕ → ℕ → ℕ → ℕ → ℕ → Definition → Type 0
Belongs rows k l j m t d = IsOfInterface rows k l t d ⊎ IsOfWorld rows j m t d

belongs-wider : (rows : List Definition) (k l j m t : ℕ) (d : Definition) (n o p q : ℕ) → n ≤ k → l ≤ o → p ≤ j → m ≤ q → Belongs rows k l j m t d → Belongs rows n o p q t d
belongs-wider rows k l j m t d n o p q a b e f (inl h) = inl (record { interface = h.interface; begins = omega (arith, h.begins, a); ends = omega (arith, h.ends, b); local = h.local; owned = h.owned })
belongs-wider rows k l j m t d n o p q a b e f (inr h) = inr (record { world = h.world; begins = omega (arith, h.begins, e); ends = omega (arith, h.ends, f); local = h.local; owned = h.owned })

pub belongs : (rows : List Definition) (start k : ℕ) (is : List Interface) (j : ℕ) (ws : List World) → ArePackageByPackage rows start k is j ws → (t : ℕ) (d : Definition) → start ≤ t → slice_get rows t ≡ Some d
    → Belongs rows k (k + length is) j (j + length ws) t d
belongs rows _ _ _ _ _ (behind_all start k j e) t d a h = absurd (omega (arith, a, e, slice_get_within rows t d h))
belongs rows _ _ _ _ _ (an_interface start k i is j ws a before rest) t d l h = by (cut t (end_of start i)) (λ g. belongs rows (end_of start i) (k + 1) is j ws rest t d g h)
  where
    cut : (n m : ℕ) → (n < m) ⊎ (m ≤ n)
    cut n m = grind arith

    at : start + (t - start) ≡ t
    at = omega arith

    by : (t < end_of start i) ⊎ (end_of start i ≤ t) → (end_of start i ≤ t → Belongs rows (k + 1) (k + 1 + length is) j (j + length ws) t d) → Belongs rows k (k + suc (length is)) j (j + length ws) t d
    by (inl b) other = inl (record {
      interface = k;
      begins = omega arith;
      ends = omega arith;
      local = list-at (is_local rows k) (rows_of rows start i) (t - start) d a.local (row-block rows start (end_of start i) (t - start) d (omega arith) (ap (slice_get rows) at ∙ h));
      owned = ap (λ n. get_or (owners rows) n None) (sym at) ∙ interface-owner rows start k i a (t - start) (omega arith);
    })
    by (inr g) other = belongs-wider rows (k + 1) (k + 1 + length is) j (j + length ws) t d k (k + suc (length is)) j (j + length ws) (omega arith) (omega arith) (omega arith) (omega arith) (other g)
belongs rows _ _ _ _ _ (a_world start k is j w ws a later rest) t d l h = by (cut t (world_end start w)) (λ g. belongs rows (world_end start w) k is (j + 1) ws rest t d g h)
  where
    cut : (n m : ℕ) → (n < m) ⊎ (m ≤ n)
    cut n m = grind arith

    at : start + (t - start) ≡ t
    at = omega arith

    by : (t < world_end start w) ⊎ (world_end start w ≤ t) → (world_end start w ≤ t → Belongs rows k (k + length is) (j + 1) (j + 1 + length ws) t d) → Belongs rows k (k + length is) j (j + suc (length ws)) t d
    by (inl b) other = inr (record {
      world = j;
      begins = omega arith;
      ends = omega arith;
      local = list-at (is_world_row rows j) (world_rows rows start w) (t - start) d a.local (row-block rows start (world_end start w) (t - start) d (omega arith) (ap (slice_get rows) at ∙ h));
      owned = ap (λ n. get_or (owners rows) n None) (sym at) ∙ world-owner rows start j w a (t - start) (omega arith);
    })
    by (inr g) other = belongs-wider rows k (k + length is) (j + 1) (j + 1 + length ws) t d k (k + length is) j (j + suc (length ws)) (omega arith) (omega arith) (omega arith) (omega arith) (other g)

-- where more rows follow, a row keeps its owner
pub owner-front : (ds es : List Definition) (t : ℕ) (o : Owner) → get_or (owners ds) t None ≡ Some o → get_or (owners (ds ++ es)) t None ≡ Some o
owner-front [] es t o e = absurd (cc)
owner-front (d ∷ ds) es zero o e = by (owner_of d) (owner-front ds es 0 o) e
  where
    by : (x : Option Owner) → (get_or (owners ds) 0 None ≡ Some o → get_or (owners (ds ++ es)) 0 None ≡ Some o) → option_or x (first_owner (owners ds)) ≡ Some o → option_or x (first_owner (owners (ds ++ es))) ≡ Some o
    by (Some y) rest q = q
    by None rest q = first-none (owners (ds ++ es)) ∙ rest (sym (first-none (owners ds)) ∙ q)
owner-front (d ∷ ds) es (suc t) o e = owner-front ds es t o e
