-- The rows of a table in the form of packages, interface by interface.
use Rattle.std.proofs.Common.{◌≡◌, ◌+◌, ◌-◌, ◌<◌, ◌≤◌, ℕ, suc, List, [], ◌∷◌, ◌++◌, length, take, drop, refl, sym, ap, subst, ◌∙◌, append_assoc, length-append, add-one, arith}
use Rattle.std.specs.Prelude.{Bool, true, not, ◌&&◌, nat_lt, nat_le, if◌then◌else◌}
use Rattle.std.specs.List.{list_all}
use Rattle.std.specs.Str.{bytes_eq}
use Rattle.std.proofs.lemmas.Bool.{and_parts, lt-ltb, le-ltb, leb-true, eqb-true}
use Rattle.std.proofs.lemmas.List.{take-append-drop, length-take-le}
use Rattle.std.proofs.lemmas.Slice.Eq.{bytes_eq-Decides}
use Rattle.std.proofs.Math.Seq.{drop-append_seam}
use Rattle.tables.specs.declared.tables.Definition.{Definition}
use Rattle.tables.specs.declared.tables.Interface.{Interface}
use Rattle.package_form.specs.Ids.{places_where, is_of_worlds}
use Rattle.package_form.specs.Ends.{end_of, rows_of, interfaces_end, world_end, world_rows, are_worlds_parted, is_parted}
use Rattle.package_form.specs.References.{row_references}
use Rattle.package_form.proofs.AllAndContains.{list-grows}
use Rattle.package_form.specs.Form.{is_named, ids_of, is_use_at, has_ids, is_local, are_interfaces, is_nameless, is_world_row, functions_of, has_items, have_items}
use Rattle.std.proofs.lemmas.List.Folds.{list_all-append}
use Rattle.tables.specs.Tables.{is_owner_world}
use Rattle.tables.specs.declared.tables.World.{World}
use Rattle.tree_meaning.specs.Resolves.{is_behind}
use Rattle.tables.specs.declared.tables.Owner.{Owner}
use Rattle.tables.specs.declared.tables.Owner.TheVariants as owner
use Rattle.tables.specs.declared.tables.Definition.TheVariants as row

-- ---- regions

-- a type without a name, or a function of a world, that refers to types without names
abbrev pub is_behind_row : List Definition → Definition → Bool
is_behind_row rows d = is_behind d && list_all (is_nameless rows) (row_references d)

-- these rows, the first of which is one of interface k, are those of the interfaces, one behind the other, and then those of worlds
pub data AreRegions (rows : List Definition) (at : ℕ → ℕ) : ℕ → List Definition → List Interface → List Definition → Type 0 where
  no_region : (k : ℕ) (pre back : List Definition) → list_all (is_behind_row rows) back ≡ true → ((n : ℕ) → length pre ≤ n → at n ≡ k) → AreRegions rows at k pre [] back
  and_region : (k : ℕ) (pre own post : List Definition) (i : Interface) (is : List Interface)
      → end_of (length pre) i ≡ length (pre ++ own) → ids_of i ≡ places_where is_named (length pre) own
      → list_all (is_use_at rows) i.uses ≡ true → list_all (λ t. not (is_use_at rows t)) i.types ≡ true
      → list_all (is_local rows k) own ≡ true → ((n : ℕ) → length pre ≤ n → n < length (pre ++ own) → at n ≡ k)
      → AreRegions rows at (suc k) (pre ++ own) is post → AreRegions rows at k pre (i ∷ is) (own ++ post)

-- the interface of the row at place n, where the rows of these interfaces, the first of which is interface k, begin at start
abbrev pub home : ℕ → ℕ → List Interface → ℕ → ℕ
home start k [] n = k
home start k (i ∷ is) n = if nat_lt n (end_of start i) then k else home (end_of start i) (k + 1) is n

pub none-behind : (xs : List Definition) (n m : ℕ) → n ≡ m + length xs → n ≡ m → xs ≡ []
none-behind [] n m e f = refl
none-behind (x ∷ xs) n m e f = absurd (omega (arith, e, f))

pub world-behind : (rows : List Definition) (j : ℕ) (d : Definition) → is_world_row rows j d ≡ true → is_behind_row rows d ≡ true
world-behind rows j (row.Type d) h = h
world-behind rows j (row.Function f) h =
    let s = and_parts (is_owner_world j f.owner) (list_all (is_nameless rows) (row_references (row.Function f))) h in
    ap (λ b. b && list_all (is_nameless rows) (row_references (row.Function f))) (by f.owner s.0) ∙ s.1
  where
    by : (o : Owner) → is_owner_world j o ≡ true → is_of_worlds o ≡ true
    by (owner.Interface i) q = q
    by (owner.World w) q = refl

-- these rows, the first of which is one of world j, are those of the worlds, one behind the other
pub data AreWorldRegions (rows : List Definition) : ℕ → List Definition → List World → List Definition → Type 0 where
  no_world : (j : ℕ) (pre : List Definition) → AreWorldRegions rows j pre [] []
  and_world : (j : ℕ) (pre own post : List Definition) (w : World) (ws : List World) → functions_of w ≡ places_where is_named (length pre) own → list_all (is_world_row rows j) own ≡ true
      → AreWorldRegions rows (j + 1) (pre ++ own) ws post → AreWorldRegions rows j pre (w ∷ ws) (own ++ post)

pub worlds-from : (rows : List Definition) (j : ℕ) (pre back : List Definition) (ws : List World) → rows ≡ pre ++ back → are_worlds_parted (length rows) (length pre) ws ≡ true
    → have_items rows j (length pre) ws ≡ true → AreWorldRegions rows j pre ws back
worlds-from rows j pre back [] e parted items =
    subst (AreWorldRegions rows j pre [])
    (sym (none-behind back (length rows) (length pre) (ap length e ∙ length-append pre back) (sym (eqb-true (length pre) (length rows) parted)))) (no_world j pre)
worlds-from rows j pre back (w ∷ ws) e parted items =
    let end = world_end (length pre) w in
    let m = world_end (length pre) w - length pre in
    let s = and_parts (nat_le (length pre) end) (nat_le end (length rows) && are_worlds_parted (length rows) end ws) parted in
    let t = and_parts (nat_le end (length rows)) (are_worlds_parted (length rows) end ws) s.1 in
    let low = leb-true (length pre) end s.0 in
    let high = leb-true end (length rows) t.0 in
    let long : length rows ≡ length pre + length back = ap length e ∙ length-append pre back in
    let own-long : length (take m back) ≡ m = length-take-le m back (omega (arith, low, high, long)) in
    let ends : length (pre ++ take m back) ≡ world_end (length pre) w = omega (arith, length-append pre (take m back), own-long, low) in
    let flat : rows ≡ (pre ++ take m back) ++ drop m back =
    e ∙ (ap (λ (xs : List Definition). pre ++ xs) (sym (take-append-drop m back)) ∙ sym (append_assoc pre (take m back) (drop m back))) in
    let i = and_parts (has_items rows (length pre) w && list_all (is_world_row rows j) (world_rows rows (length pre) w)) (have_items rows (j + 1) end ws) items in
    let own = and_parts (has_items rows (length pre) w) (list_all (is_world_row rows j) (world_rows rows (length pre) w)) i.0 in
    let mine : world_rows rows (length pre) w ≡ take m back = ap (λ (xs : List Definition). take m (drop (length pre) xs)) e ∙ ap (take m) (drop-append_seam pre back) in
    let named : functions_of w ≡ places_where is_named (length pre) (take m back) =
    sym ((bytes_eq-Decides (places_where is_named (length pre) (world_rows rows (length pre) w)) (functions_of w)).0 own.0) ∙ ap (places_where is_named (length pre)) mine in
    let here = ap (list_all (is_world_row rows j)) (sym mine) ∙ own.1 in
    let on = worlds-from rows (j + 1) (pre ++ take m back) (drop m back) ws flat (subst (λ n. are_worlds_parted (length rows) n ws ≡ true) (sym ends) t.1) (subst (λ n. have_items rows (j + 1) n ws ≡ true) (sym ends) i.1) in
    subst (AreWorldRegions rows j pre (w ∷ ws)) (take-append-drop m back) (and_world j pre (take m back) (drop m back) w ws named here on)

behind-from : (rows : List Definition) (j : ℕ) (pre : List Definition) (ws : List World) (back : List Definition) → AreWorldRegions rows j pre ws back → list_all (is_behind_row rows) back ≡ true
behind-from rows _ _ _ _ (no_world j pre) = refl
behind-from rows _ _ _ _ (and_world j pre own post w ws named here more) =
    list_all-append (is_behind_row rows) own post
    ∙ (ap (λ b. b && list_all (is_behind_row rows) post) (list-grows (is_world_row rows j) (is_behind_row rows) (world-behind rows j) own here) ∙ behind-from rows (j + 1) (pre ++ own) ws post more)

pub regions-from : (rows : List Definition) (at : ℕ → ℕ) (k : ℕ) (pre post : List Definition) (is : List Interface) (ws : List World) → rows ≡ pre ++ post → is_parted (length rows) (length pre) is ws ≡ true
    → are_interfaces rows k (length pre) is ≡ true → have_items rows 0 (interfaces_end (length pre) is) ws ≡ true → ((n : ℕ) → length pre ≤ n → at n ≡ home (length pre) k is n) → AreRegions rows at k pre is post
regions-from rows at k pre post [] ws e parted form items h = no_region k pre post (behind-from rows 0 pre ws post (worlds-from rows 0 pre post ws e parted items)) h
regions-from rows at k pre post (i ∷ is) ws e parted form items h =
    subst (AreRegions rows at k pre (i ∷ is)) (take-append-drop m post) (and_region k pre own (drop m post) i is (sym ends) ids (and_parts (list_all (is_use_at rows) i.uses) (list_all (λ t. not (is_use_at rows t)) i.types) id_parts.1).0
    (and_parts (list_all (is_use_at rows) i.uses) (list_all (λ t. not (is_use_at rows t)) i.types) id_parts.1).1 locals here
    (regions-from rows at (suc k) (pre ++ own) (drop m post) is ws flat (subst (λ s. is_parted (length rows) s is ws ≡ true) (sym ends) limits.1)
    (subst (λ s. are_interfaces rows (suc k) s is ≡ true) (sym ends) (subst (λ j. are_interfaces rows j end is ≡ true) (add-one k) parts.1)) (subst (λ s. have_items rows 0 (interfaces_end s is) ws ≡ true) (sym ends) items) later))
  where
    end : ℕ
    end = end_of (length pre) i

    m : ℕ
    m = end_of (length pre) i - length pre

    own : List Definition
    own = take (end_of (length pre) i - length pre) post

    bounds : (length pre ≤ end_of (length pre) i) × (end_of (length pre) i ≤ length rows)
    bounds =
        let s = and_parts (nat_le (length pre) (end_of (length pre) i)) (nat_le (end_of (length pre) i) (length rows) && is_parted (length rows) (end_of (length pre) i) is ws) parted in
        let t = and_parts (nat_le (end_of (length pre) i) (length rows)) (is_parted (length rows) (end_of (length pre) i) is ws) s.1 in
        (leb-true (length pre) (end_of (length pre) i) s.0, leb-true (end_of (length pre) i) (length rows) t.0)

    limits : (nat_le (end_of (length pre) i) (length rows) ≡ true) × (is_parted (length rows) (end_of (length pre) i) is ws ≡ true)
    limits =
        let s = and_parts (nat_le (length pre) (end_of (length pre) i)) (nat_le (end_of (length pre) i) (length rows) && is_parted (length rows) (end_of (length pre) i) is ws) parted in
        and_parts (nat_le (end_of (length pre) i) (length rows)) (is_parted (length rows) (end_of (length pre) i) is ws) s.1

    long : length rows ≡ length pre + length post
    long = ap length e ∙ length-append pre post

    own-long : length (take (end_of (length pre) i - length pre) post) ≡ end_of (length pre) i - length pre
    own-long = length-take-le (end_of (length pre) i - length pre) post (let b = bounds in let l = long in omega (arith, b.0, b.1, l))

    ends : length (pre ++ take (end_of (length pre) i - length pre) post) ≡ end_of (length pre) i
    ends = let b = bounds in let o = own-long in omega (arith, length-append pre (take (end_of (length pre) i - length pre) post), o, b.0)

    parts : ((has_ids rows (length pre) i && list_all (is_local rows k) (rows_of rows (length pre) i)) ≡ true) × (are_interfaces rows (k + 1) (end_of (length pre) i) is ≡ true)
    parts = and_parts (has_ids rows (length pre) i && list_all (is_local rows k) (rows_of rows (length pre) i)) (are_interfaces rows (k + 1) (end_of (length pre) i) is) form

    mine : rows_of rows (length pre) i ≡ take (end_of (length pre) i - length pre) post
    mine = ap (λ (xs : List Definition). take (end_of (length pre) i - length pre) (drop (length pre) xs)) e ∙ ap (take (end_of (length pre) i - length pre)) (drop-append_seam pre post)

    both : (has_ids rows (length pre) i ≡ true) × (list_all (is_local rows k) (rows_of rows (length pre) i) ≡ true)
    both = and_parts (has_ids rows (length pre) i) (list_all (is_local rows k) (rows_of rows (length pre) i)) parts.0

    id_parts : (bytes_eq (ids_of i) (places_where is_named (length pre) (rows_of rows (length pre) i)) ≡ true) × ((list_all (is_use_at rows) i.uses && list_all (λ t. not (is_use_at rows t)) i.types) ≡ true)
    id_parts = and_parts (bytes_eq (ids_of i) (places_where is_named (length pre) (rows_of rows (length pre) i))) (list_all (is_use_at rows) i.uses && list_all (λ t. not (is_use_at rows t)) i.types) both.0

    ids : ids_of i ≡ places_where is_named (length pre) (take (end_of (length pre) i - length pre) post)
    ids = (bytes_eq-Decides (ids_of i) (places_where is_named (length pre) (rows_of rows (length pre) i))).0 id_parts.0 ∙ ap (places_where is_named (length pre)) mine

    locals : list_all (is_local rows k) (take (end_of (length pre) i - length pre) post) ≡ true
    locals = ap (list_all (is_local rows k)) (sym mine) ∙ both.1

    here : (n : ℕ) → length pre ≤ n → n < length (pre ++ take (end_of (length pre) i - length pre) post) → at n ≡ k
    here n l u = h n l ∙ ap (λ b. if b then k else home (end_of (length pre) i) (k + 1) is n) (lt-ltb n (end_of (length pre) i) (let s = ends in omega (arith, u, s)))

    flat : rows ≡ (pre ++ take (end_of (length pre) i - length pre) post) ++ drop (end_of (length pre) i - length pre) post
    flat = e ∙ (ap (λ (xs : List Definition). pre ++ xs) (sym (take-append-drop (end_of (length pre) i - length pre) post)) ∙ sym (append_assoc pre (take (end_of (length pre) i - length pre) post) (drop (end_of (length pre) i - length pre) post)))

    later : (n : ℕ) → length (pre ++ take (end_of (length pre) i - length pre) post) ≤ n → at n ≡ home (length (pre ++ take (end_of (length pre) i - length pre) post)) (suc k) is n
    later n l =
        h n (let b = bounds in let s = ends in omega (arith, l, s, b.0))
        ∙ (ap (λ b. if b then k else home (end_of (length pre) i) (k + 1) is n) (le-ltb n (end_of (length pre) i) (let s = ends in omega (arith, l, s)))
        ∙ (ap (λ s. home s (k + 1) is n) (sym ends) ∙ ap (λ j. home (length (pre ++ take (end_of (length pre) i - length pre) post)) j is n) (add-one k)))
