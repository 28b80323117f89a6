-- Rows that stand together and are all kept, or all left.
use Rattle.std.proofs.Common.{◌≡◌, ◌<◌, ◌⊎◌, inl, inr, ℕ, zero, suc, ◌+◌, Bool, true, false, List, [], ◌∷◌, length, take, drop, get_or, slice_get, map, Some, refl, ap, sym, subst, ◌∙◌, arith, true≢false}
use Rattle.std.specs.Prelude.{flat_map, Contains}
use Rattle.package_form.specs.Ids.{places_where}
use Rattle.package_form.specs.Ends.{behind_types, behind_functions, behind_items, behind_item, end_of}
use Rattle.package_form.specs.Form.{ids_of, item_function, functions_in_item}
use Rattle.tables.specs.declared.tables.TypeId.{TypeId}
use Rattle.tables.specs.declared.tables.FunctionId.{FunctionId}
use Rattle.tables.specs.declared.tables.Definition.{Definition}
use Rattle.tables.specs.declared.tables.Interface.{Interface}
use Rattle.tables.specs.declared.tables.WorldItem.{WorldItem}
use Rattle.tables.specs.declared.tables.WorldItemKind.{WorldItemKind}
use Rattle.tables.specs.declared.tables.WorldItemKind.TheVariants as item
use Rattle.std.proofs.lemmas.List.Elements.{Contains-append_left, Contains-append_right}
use Rattle.package_form.proofs.AllAndContains.{contains-map}
use Rattle.set_rows.specs.Places.{place}
use Rattle.set_rows.proofs.PlacesOfMarked.{place-none, place-yes, place-no}
use Rattle.std.specs.List.{items_where_true}

-- the n marks from a on are all of this kind
pub record AreAll (b : Bool) (bs : List Bool) (a n : ℕ) : Type 0 where
  pub each : (x : ℕ) → x < n → get_or bs (a + x) false ≡ b

tail-marks : (c b : Bool) (bs : List Bool) (m j : ℕ) → m ≡ suc j → get_or (c ∷ bs) m false ≡ b → get_or bs j false ≡ b
tail-marks c b bs m j e h = subst (λ n. get_or (c ∷ bs) n false ≡ b) e h

fewer : (b : Bool) (bs : List Bool) (a n : ℕ) → AreAll b bs a (suc n) → AreAll b bs a n
fewer b bs a n h = record { each = λ x l. h.each x (omega (arith, l)) }

pub place-all : (bs : List Bool) (a n : ℕ) → AreAll true bs a n → place bs (a + n) ≡ place bs a + n
place-all bs a zero h = let e : a + 0 ≡ a = omega arith in let f : place bs a + 0 ≡ place bs a = omega arith in ap (place bs) e ∙ sym f
place-all bs a (suc n) h =
    let rest = place-all bs a n (fewer true bs a n h) in
    let up : a + suc n ≡ suc (a + n) = omega arith in
    let last = place-yes bs (a + n) (h.each n (omega arith)) in
    ap (place bs) up ∙ (last ∙ omega (arith, rest))

pub place-left : (bs : List Bool) (a n : ℕ) → AreAll false bs a n → place bs (a + n) ≡ place bs a
place-left bs a zero h = let e : a + 0 ≡ a = omega arith in ap (place bs) e
place-left bs a (suc n) h =
    let rest = place-left bs a n (fewer false bs a n h) in
    let up : a + suc n ≡ suc (a + n) = omega arith in
    ap (place bs) up ∙ (place-no bs (a + n) (h.each n (omega arith)) ∙ rest)

-- rows that are all kept stand together there
pub block-there : {A : Type 0} (bs : List Bool) (xs : List A) (a n : ℕ) → AreAll true bs a n → take n (drop (place bs a) (items_where_true bs xs)) ≡ take n (drop a xs)
block-there bs xs a zero h = refl
block-there [] xs a (suc n) h = absurd (true≢false (sym (h.each 0 (omega arith))))
block-there (b ∷ bs) [] zero (suc n) h = refl
block-there (b ∷ bs) [] (suc a) (suc n) h = none (place (b ∷ bs) (suc a))
  where
    none : {B : Type 0} (m : ℕ) → take {A = B} (suc n) (drop m []) ≡ []
    none zero = refl
    none (suc m) = refl
block-there (true ∷ bs) (x ∷ xs) zero (suc n) h =
    let rest = block-there bs xs 0 n (record { each = λ k l. tail-marks true true bs (0 + suc k) (0 + k) (omega arith) (h.each (suc k) (omega (arith, l))) }) in
    let front : take n (items_where_true bs xs) ≡ take n xs = ap (λ m. take n (drop m (items_where_true bs xs))) (sym (place-none bs)) ∙ rest in
    ap (λ ys. x ∷ ys) front
block-there (false ∷ bs) (x ∷ xs) zero (suc n) h = absurd (true≢false (sym (h.each 0 (omega arith))))
block-there (true ∷ bs) (x ∷ xs) (suc a) (suc n) h =
    let up : 1 + place bs a ≡ suc (place bs a) = omega arith in
    rw up (block-there bs xs a (suc n) (record { each = λ k l. tail-marks true true bs (suc a + k) (a + k) (omega arith) (h.each k l) }))
block-there (false ∷ bs) (x ∷ xs) (suc a) (suc n) h = block-there bs xs a (suc n) (record { each = λ k l. tail-marks false true bs (suc a + k) (a + k) (omega arith) (h.each k l) })

-- ---- places of rows

pub places-there : (is : Definition → Bool) (put : Definition → Definition) (bs : List Bool) (a start : ℕ) (ds : List Definition) → ((d : Definition) → is (put d) ≡ is d) → AreAll true bs a (length ds) → start ≡ place bs a
    → places_where is start (map put ds) ≡ map (place bs) (places_where is a ds)
places-there is put bs a start [] same h e = refl
places-there is put bs a start (d ∷ ds) same h e =
    let next : start + 1 ≡ place bs (a + 1) = sym (place-all bs a 1 (record { each = λ x l. h.each x (omega (arith, l)) }) ∙ ap (λ n. n + 1) (sym e)) in
    let rest = places-there is put bs (a + 1) (start + 1) ds same (record { each = λ x l. ap (λ n. get_or bs n false) (omega arith) ∙ h.each (suc x) (omega (arith, l)) }) next in
    by (is d) refl rest
  where
    by : (b : Bool) → is d ≡ b → places_where is (start + 1) (map put ds) ≡ map (place bs) (places_where is (a + 1) ds) → places_where is start (map put (d ∷ ds)) ≡ map (place bs) (places_where is a (d ∷ ds))
    by true q r = rw (same d, q) (ap (λ n. n ∷ places_where is (start + 1) (map put ds)) e ∙ ap (λ ns. place bs a ∷ ns) r)
    by false q r = rw (same d, q) r

pub places-in : (is : Definition → Bool) (n : ℕ) (ds : List Definition) (x : ℕ) → Contains (places_where is n ds) x → (j : ℕ) × (d : Definition) × (x ≡ n + j) × (slice_get ds j ≡ Some d) × (is d ≡ true)
places-in is n [] x (k, h, e) = absurd (omega arith)
places-in is n (d ∷ ds) x c = by (is d) refl (λ r. places-in is (n + 1) ds x r)
  where
    later : (j : ℕ) × (c : Definition) × (x ≡ n + 1 + j) × (slice_get ds j ≡ Some c) × (is c ≡ true) → (j : ℕ) × (c : Definition) × (x ≡ n + j) × (slice_get (d ∷ ds) j ≡ Some c) × (is c ≡ true)
    later (j, y, e, f, g) = (suc j, y, (omega (arith, e)), f, g)

    by : (b : Bool) → is d ≡ b → (Contains (places_where is (n + 1) ds) x → (j : ℕ) × (c : Definition) × (x ≡ n + 1 + j) × (slice_get ds j ≡ Some c) × (is c ≡ true))
        → (j : ℕ) × (c : Definition) × (x ≡ n + j) × (slice_get (d ∷ ds) j ≡ Some c) × (is c ≡ true)
    by false e r = later (r (rw e at c))
    by true e r = first (rw e at c)
      where
        first : Contains (n ∷ places_where is (n + 1) ds) x → (j : ℕ) × (c : Definition) × (x ≡ n + j) × (slice_get (d ∷ ds) j ≡ Some c) × (is c ≡ true)
        first (zero, h, q) = (0, d, (sym q ∙ omega arith), refl, e)
        first (suc k, h, q) = later (r (k, omega (arith, h), q))

-- ---- ends

pub behind-types : (start : ℕ) (ts : List TypeId) → (behind_types start ts ≡ start) ⊎ ((t : TypeId) × Contains ts t × (behind_types start ts ≡ t.0 + 1))
behind-types start [] = inl refl
behind-types start (t ∷ ts) = by (behind-types (t.0 + 1) ts)
  where
    by : (behind_types (t.0 + 1) ts ≡ t.0 + 1) ⊎ ((u : TypeId) × Contains ts u × (behind_types (t.0 + 1) ts ≡ u.0 + 1)) → (behind_types (t.0 + 1) ts ≡ start) ⊎ ((u : TypeId) × Contains (t ∷ ts) u × (behind_types (t.0 + 1) ts ≡ u.0 + 1))
    by (inl e) = inr (t, (0, omega arith, refl), e)
    by (inr (u, (k, h, f), e)) = inr (u, (suc k, omega (arith, h), f), e)

pub behind-functions : (start : ℕ) (ts : List FunctionId) → (behind_functions start ts ≡ start) ⊎ ((t : FunctionId) × Contains ts t × (behind_functions start ts ≡ t.0 + 1))
behind-functions start [] = inl refl
behind-functions start (t ∷ ts) = by (behind-functions (t.0 + 1) ts)
  where
    by : (behind_functions (t.0 + 1) ts ≡ t.0 + 1) ⊎ ((u : FunctionId) × Contains ts u × (behind_functions (t.0 + 1) ts ≡ u.0 + 1))
        → (behind_functions (t.0 + 1) ts ≡ start) ⊎ ((u : FunctionId) × Contains (t ∷ ts) u × (behind_functions (t.0 + 1) ts ≡ u.0 + 1))
    by (inl e) = inr (t, (0, omega arith, refl), e)
    by (inr (u, (k, h, f), e)) = inr (u, (suc k, omega (arith, h), f), e)

-- the last row of an interface is one of its ids
pub end-is-id : (start : ℕ) (i : Interface) → (end_of start i ≡ start) ⊎ ((x : ℕ) × Contains (ids_of i) x × (end_of start i ≡ x + 1))
end-is-id start i = functions (behind-functions (behind_types (behind_types start i.uses) i.types) i.functions)
  where
    in-uses : (t : TypeId) → Contains i.uses t → Contains (ids_of i) t.0
    in-uses t c = Contains-append_left (map (λ x. x.0) i.uses) _ t.0 (contains-map (λ (x : TypeId). x.0) i.uses t c)

    in-types : (t : TypeId) → Contains i.types t → Contains (ids_of i) t.0
    in-types t c = Contains-append_right (map (λ x. x.0) i.uses) _ t.0 (Contains-append_left (map (λ x. x.0) i.types) _ t.0 (contains-map (λ (x : TypeId). x.0) i.types t c))

    in-functions : (f : FunctionId) → Contains i.functions f → Contains (ids_of i) f.0
    in-functions f c = Contains-append_right (map (λ x. x.0) i.uses) _ f.0 (Contains-append_right (map (λ x. x.0) i.types) _ f.0 (contains-map (λ (x : FunctionId). x.0) i.functions f c))

    uses : (behind_types start i.uses ≡ start) ⊎ ((t : TypeId) × Contains i.uses t × (behind_types start i.uses ≡ t.0 + 1)) → end_of start i ≡ behind_types start i.uses → (end_of start i ≡ start) ⊎ ((x : ℕ) × Contains (ids_of i) x × (end_of start i ≡ x + 1))
    uses (inl e) q = inl (q ∙ e)
    uses (inr (t, c, e)) q = inr (t.0, in-uses t c, q ∙ e)

    types : (behind_types (behind_types start i.uses) i.types ≡ behind_types start i.uses) ⊎ ((t : TypeId) × Contains i.types t × (behind_types (behind_types start i.uses) i.types ≡ t.0 + 1))
        → end_of start i ≡ behind_types (behind_types start i.uses) i.types → (end_of start i ≡ start) ⊎ ((x : ℕ) × Contains (ids_of i) x × (end_of start i ≡ x + 1))
    types (inl e) q = uses (behind-types start i.uses) (q ∙ e)
    types (inr (t, c, e)) q = inr (t.0, in-types t c, q ∙ e)

    functions : (end_of start i ≡ behind_types (behind_types start i.uses) i.types) ⊎ ((f : FunctionId) × Contains i.functions f × (end_of start i ≡ f.0 + 1)) → (end_of start i ≡ start) ⊎ ((x : ℕ) × Contains (ids_of i) x × (end_of start i ≡ x + 1))
    functions (inl e) = types (behind-types (behind_types start i.uses) i.types) e
    functions (inr (f, c, e)) = inr (f.0, in-functions f c, e)

-- .. of a world, one of its functions
pub end-is-function : (start : ℕ) (is : List WorldItem) → (behind_items start is ≡ start) ⊎ ((x : ℕ) × Contains (flat_map functions_in_item is) x × (behind_items start is ≡ x + 1))
end-is-function start [] = inl refl
end-is-function start (i ∷ is) = by i.kind refl (end-is-function (behind_item start i.kind) is)
  where
    behind : (x : ℕ) → Contains (flat_map functions_in_item is) x → Contains (flat_map functions_in_item (i ∷ is)) x
    behind x c = Contains-append_right (functions_in_item i) (flat_map functions_in_item is) x c

    by : (k : WorldItemKind) → i.kind ≡ k → (behind_items (behind_item start i.kind) is ≡ behind_item start i.kind) ⊎ ((x : ℕ) × Contains (flat_map functions_in_item is) x × (behind_items (behind_item start i.kind) is ≡ x + 1))
        → (behind_items start (i ∷ is) ≡ start) ⊎ ((x : ℕ) × Contains (flat_map functions_in_item (i ∷ is)) x × (behind_items start (i ∷ is) ≡ x + 1))
    by k q (inr (x, c, e)) = inr (x, behind x c, e)
    by (item.Interface j) q (inl e) = inl (e ∙ ap (behind_item start) q)
    by (item.Function f) q (inl e) =
        inr (f.0, Contains-append_left (functions_in_item i) (flat_map functions_in_item is) f.0 (subst (λ (k : WorldItemKind). Contains (item_function k) f.0) (sym q) (0, omega arith, refl)), e ∙ ap (behind_item start) q)
