-- Whose the rows are of tables in form, and of sets.
use Rattle.std.proofs.Common.{◌≡◌, ◌≤◌, ◌<◌, ◌⊎◌, inl, inr, ℕ, zero, suc, ◌+◌, ◌-◌, true, ◌&&◌, not, nat_le, List, [], ◌∷◌, length, take, drop, slice_get, Option, None, Some, refl, ap, sym, subst, ◌∙◌, arith, true≢false, eqb-true}
use Rattle.std.specs.Prelude.{is_some}
use Rattle.std.specs.Option.{option_map}
use Rattle.std.specs.List.{list_all, range_with_len}
use Rattle.std.proofs.lemmas.Bool.{leb-true}
use Rattle.std.proofs.lemmas.List.{length-append}
use Rattle.std.proofs.lemmas.Option.{slice_get_within}
use Rattle.canonical_abi.proofs.Traces.TracesLeaveImages.{slice_get-take, slice_get-drop}
use Rattle.package_form.specs.Ends.{end_of, rows_of, interfaces_end, world_end, world_rows, are_worlds_parted, is_parted}
use Rattle.package_form.specs.Form.{is_own_name, is_owned, is_local, is_of_world, is_world_row, is_own, is_nameless, has_ids, are_interfaces, have_items, has_items, uses_earlier}
use Rattle.package_form.specs.Ids.{is_owned_by}
use Rattle.package_form.specs.References.{row_references}
use Rattle.tables.specs.Tables.{is_owner_world}
use Rattle.tables.proofs.ClosedTypesRowByRow.{split, both}
use Rattle.tables.specs.declared.tables.TypeName.{TypeName}
use Rattle.tables.specs.declared.tables.Owner.{Owner}
use Rattle.tables.specs.declared.tables.Owner.TheVariants as owner
use Rattle.tables.specs.declared.tables.Definition.{Definition}
use Rattle.tables.specs.declared.tables.Definition.TheVariants as row
use Rattle.tables.specs.declared.tables.Interface.{Interface}
use Rattle.tables.specs.declared.tables.World.{World}
use Rattle.tables.specs.declared.tables.Resolve.{Resolve}
use Rattle.tables.specs.Names.{owner_of}
use Rattle.package_sets.specs.Set.{ArePackageByPackage, behind_all, an_interface, a_world, IsPackageByPackage}
use Rattle.package_sets.specs.Joining.{row_places, end_in}
use Rattle.package_sets.proofs.GrowingLists.{length-places}
use Rattle.package_sets.proofs.KeptParts.PropertiesOfKept.{list-at}
use Rattle.package_sets.proofs.MovedRows.MovedRowsKeepMeaning.{IsOwnedWithin, AreOwnedWithin}

-- the owner, if there is one, is an interface from k on, before l
abbrev pub IsOwnedFrom : ℕ → ℕ → Option Owner → Type 0
IsOwnedFrom k l None = Unit {0}
IsOwnedFrom k l (Some (owner.World w)) = ⊥
IsOwnedFrom k l (Some (owner.Interface i)) = (k ≤ i.0) × (i.0 < l)

-- .. is one of so many worlds
abbrev pub IsOfWorlds : ℕ → Option Owner → Type 0
IsOfWorlds count None = Unit {0}
IsOfWorlds count (Some (owner.World w)) = w.0 < count
IsOfWorlds count (Some (owner.Interface i)) = ⊥

wider : (k l m n : ℕ) → m ≤ k → l ≤ n → (o : Option Owner) → IsOwnedFrom k l o → IsOwnedFrom m n o
wider k l m n a b None h = tt
wider k l m n a b (Some (owner.World w)) h = h
wider k l m n a b (Some (owner.Interface i)) h = (omega (arith, a, h.0), omega (arith, b, h.1))

pub within-of : (k l n : ℕ) → l ≤ n → (o : Option Owner) → IsOwnedFrom k l o → IsOwnedWithin n o
within-of k l n a None h = tt
within-of k l n a (Some (owner.World w)) h = tt
within-of k l n a (Some (owner.Interface i)) h = omega (arith, a, h.1)

pub worlds-within : (count n : ℕ) → (o : Option Owner) → IsOfWorlds count o → IsOwnedWithin n o
worlds-within count n None h = tt
worlds-within count n (Some (owner.World w)) h = tt
worlds-within count n (Some (owner.Interface i)) h = absurd h

more-worlds : (k n : ℕ) → k ≤ n → (o : Option Owner) → IsOfWorlds k o → IsOfWorlds n o
more-worlds k n a None h = tt
more-worlds k n a (Some (owner.World w)) h = omega (arith, a, h)
more-worlds k n a (Some (owner.Interface i)) h = h

-- ---- one row

local-owner : (rows : List Definition) (k : ℕ) (d : Definition) → is_local rows k d ≡ true → IsOwnedFrom k (k + 1) (owner_of d)
local-owner rows k (row.Type d) h = by d.name (split (is_own_name k d.name) (uses_earlier rows k d.kind) (split (is_owned rows k (row.Type d)) (list_all (is_own rows k) (row_references (row.Type d))) h).0).0
  where
    by : (n : Option TypeName) → is_own_name k n ≡ true → IsOwnedFrom k (k + 1) (option_map (λ x. owner.Interface x.interface) n)
    by None e = tt
    by (Some n) e = let same = eqb-true n.interface.0 k e in (omega (arith, same), omega (arith, same))
local-owner rows k (row.Function f) h = by f.owner (split (is_owned rows k (row.Function f)) (list_all (is_own rows k) (row_references (row.Function f))) h).0
  where
    by : (o : Owner) → is_owned_by k o ≡ true → IsOwnedFrom k (k + 1) (Some o)
    by (owner.World w) e = absurd (true≢false (sym e))
    by (owner.Interface i) e = let same = eqb-true i.0 k e in (omega (arith, same), omega (arith, same))

world-owner : (rows : List Definition) (k : ℕ) (d : Definition) → is_world_row rows k d ≡ true → IsOfWorlds (k + 1) (owner_of d)
world-owner rows k (row.Type d) h = by d.name (split (is_of_world k (row.Type d)) (list_all (is_nameless rows) (row_references (row.Type d))) h).0
  where
    by : (n : Option TypeName) → not (is_some n) ≡ true → IsOfWorlds (k + 1) (option_map (λ x. owner.Interface x.interface) n)
    by None e = tt
    by (Some n) e = absurd (true≢false (sym e))
world-owner rows k (row.Function f) h = by f.owner (split (is_of_world k (row.Function f)) (list_all (is_nameless rows) (row_references (row.Function f))) h).0
  where
    by : (o : Owner) → is_owner_world k o ≡ true → IsOfWorlds (k + 1) (Some o)
    by (owner.Interface i) e = absurd (true≢false (sym e))
    by (owner.World w) e = let same = eqb-true w.0 k e in omega (arith, same)

-- a row between two places
block-get : (rows : List Definition) (start end t : ℕ) (d : Definition) → start ≤ t → t < end → slice_get rows t ≡ Some d → slice_get (take (end - start) (drop start rows)) (t - start) ≡ Some d
block-get rows start end t d a b e =
    let at : start + (t - start) ≡ t = omega arith in
    slice_get-take (end - start) (drop start rows) (t - start) (omega arith) ∙ (slice_get-drop start rows (t - start) ∙ (ap (slice_get rows) at ∙ e))

pub cut : (n m : ℕ) → (n < m) ⊎ (m ≤ n)
cut n m = grind arith

-- ---- tables in form

pub rows-owned : (rows : List Definition) (k start : ℕ) (is : List Interface) → are_interfaces rows k start is ≡ true → (t : ℕ) (d : Definition) → start ≤ t → t < interfaces_end start is → slice_get rows t ≡ Some d
    → IsOwnedFrom k (k + length is) (owner_of d)
rows-owned rows k start [] h t d a b e = absurd (omega arith)
rows-owned rows k start (i ∷ is) h t d a b e = by (cut t (end_of start i)) (λ g l. rows-owned rows (k + 1) (end_of start i) is g t d l b e)
  where
    p : ((has_ids rows start i && list_all (is_local rows k) (rows_of rows start i)) ≡ true) × (are_interfaces rows (k + 1) (end_of start i) is ≡ true)
    p = split (has_ids rows start i && list_all (is_local rows k) (rows_of rows start i)) (are_interfaces rows (k + 1) (end_of start i) is) h

    by : (t < end_of start i) ⊎ (end_of start i ≤ t) → (are_interfaces rows (k + 1) (end_of start i) is ≡ true → end_of start i ≤ t → IsOwnedFrom (k + 1) (k + 1 + length is) (owner_of d)) → IsOwnedFrom k (k + suc (length is)) (owner_of d)
    by (inl l) rest =
        let all = (split (has_ids rows start i) (list_all (is_local rows k) (rows_of rows start i)) p.0).1 in
        wider k (k + 1) k (k + suc (length is)) (omega arith) (omega arith) (owner_of d) (local-owner rows k d (list-at (is_local rows k) (rows_of rows start i) (t - start) d all (block-get rows start (end_of start i) t d a l e)))
    by (inr g) rest = wider (k + 1) (k + 1 + length is) k (k + suc (length is)) (omega arith) (omega arith) (owner_of d) (rest p.1 g)

pub worlds-owned : (rows : List Definition) (count k start : ℕ) (ws : List World) → are_worlds_parted count start ws ≡ true → have_items rows k start ws ≡ true → (t : ℕ) (d : Definition) → start ≤ t → t < count → slice_get rows t ≡ Some d
    → IsOfWorlds (k + length ws) (owner_of d)
worlds-owned rows count k start [] q h t d a b e = absurd (omega (arith, a, b, eqb-true start count q))
worlds-owned rows count k start (w ∷ ws) q h t d a b e = by (cut t (world_end start w)) (λ g l. worlds-owned rows count (k + 1) (world_end start w) ws g l t d)
  where
    p : ((has_items rows start w && list_all (is_world_row rows k) (world_rows rows start w)) ≡ true) × (have_items rows (k + 1) (world_end start w) ws ≡ true)
    p = split (has_items rows start w && list_all (is_world_row rows k) (world_rows rows start w)) (have_items rows (k + 1) (world_end start w) ws) h

    parted : are_worlds_parted count (world_end start w) ws ≡ true
    parted = (split (nat_le (world_end start w) count) (are_worlds_parted count (world_end start w) ws) (split (nat_le start (world_end start w)) (nat_le (world_end start w) count && are_worlds_parted count (world_end start w) ws) q).1).1

    by : (t < world_end start w) ⊎ (world_end start w ≤ t)
        → (are_worlds_parted count (world_end start w) ws ≡ true → have_items rows (k + 1) (world_end start w) ws ≡ true → world_end start w ≤ t → t < count → slice_get rows t ≡ Some d → IsOfWorlds (k + 1 + length ws) (owner_of d))
        → IsOfWorlds (k + suc (length ws)) (owner_of d)
    by (inl l) rest =
        let all = (split (has_items rows start w) (list_all (is_world_row rows k) (world_rows rows start w)) p.0).1 in
        more-worlds (k + 1) (k + suc (length ws)) (omega arith) (owner_of d)
        (world-owner rows k d (list-at (is_world_row rows k) (world_rows rows start w) (t - start) d all (block-get rows start (world_end start w) t d a l e)))
    by (inr g) rest = more-worlds (k + 1 + length ws) (k + suc (length ws)) (omega arith) (owner_of d) (rest parted p.1 g b e)

-- the first interfaces, and the others
pub interfaces-split : (rows : List Definition) (k start n : ℕ) (is : List Interface) → are_interfaces rows k start is ≡ true
    → (are_interfaces rows k start (take n is) ≡ true) × (are_interfaces rows (k + n) (interfaces_end start (take n is)) (drop n is) ≡ true)
interfaces-split rows k start zero is h = (refl, subst (λ m. are_interfaces rows m start is ≡ true) (omega arith) h)
interfaces-split rows k start (suc n) [] h = (refl, refl)
interfaces-split rows k start (suc n) (i ∷ is) h =
    let p = split (has_ids rows start i && list_all (is_local rows k) (rows_of rows start i)) (are_interfaces rows (k + 1) (end_of start i) is) h in
    let r = interfaces-split rows (k + 1) (end_of start i) n is p.1 in
    let next : k + 1 + n ≡ k + suc n = omega arith in
    (both _ _ p.0 r.0, subst (λ m. are_interfaces rows m (interfaces_end (end_of start i) (take n is)) (drop n is) ≡ true) next r.1)

pub ends-split : (start n : ℕ) (is : List Interface) → interfaces_end (interfaces_end start (take n is)) (drop n is) ≡ interfaces_end start is
ends-split start zero is = refl
ends-split start (suc n) [] = refl
ends-split start (suc n) (i ∷ is) = ends-split (end_of start i) n is

pub parted-worlds : (count start : ℕ) (is : List Interface) (ws : List World) → is_parted count start is ws ≡ true → are_worlds_parted count (interfaces_end start is) ws ≡ true
parted-worlds count start [] ws h = h
parted-worlds count start (i ∷ is) ws h =
    parted-worlds count (end_of start i) is ws (split (nat_le (end_of start i) count) (is_parted count (end_of start i) is ws) (split (nat_le start (end_of start i)) (nat_le (end_of start i) count && is_parted count (end_of start i) is ws) h).1).1

-- as many rows are placed as stand there
pub length-rows : (set : Resolve) (count start n : ℕ) (is : List Interface) (ws : List World) (js : List ℕ) → is_parted count start is ws ≡ true → length js ≡ length (take n is)
    → start + length (row_places set start (take n is) js) ≡ interfaces_end start (take n is)
length-rows set count start zero is ws js h l = omega arith
length-rows set count start (suc n) [] ws js h l = omega arith
length-rows set count start (suc n) (i ∷ is) ws [] h l = absurd (omega (arith, l))
length-rows set count start (suc n) (i ∷ is) ws (j ∷ js) h l =
    let p = split (nat_le start (end_of start i)) (nat_le (end_of start i) count && is_parted count (end_of start i) is ws) h in
    let rise = leb-true start (end_of start i) p.0 in
    let rest = length-rows set count (end_of start i) n is ws js (split (nat_le (end_of start i) count) (is_parted count (end_of start i) is ws) p.1).1 (omega (arith, l)) in
    omega (arith, rise, rest, length-places (end_in-of set j (end_of start i - start)) (end_of start i - start), length-append (places-of set j (end_of start i - start)) (row_places set (end_of start i) (take n is) js))
  where
    end_in-of : Resolve → ℕ → ℕ → ℕ
    end_in-of set j count = end_in (slice_get set.interfaces j) - count

    places-of : Resolve → ℕ → ℕ → List ℕ
    places-of set j count = range_with_len (end_in-of set j count) count

-- ---- sets

pub set-owned : (rows : List Definition) (start k : ℕ) (is : List Interface) (j : ℕ) (ws : List World) → ArePackageByPackage rows start k is j ws → (t : ℕ) (d : Definition) → start ≤ t → slice_get rows t ≡ Some d
    → IsOwnedWithin (k + length is) (owner_of d)
set-owned rows _ _ _ _ _ (behind_all start k j e) t d a h = absurd (omega (arith, a, e, slice_get_within rows t d h))
set-owned rows _ _ _ _ _ (an_interface start k i is j ws a before rest) t d l h = by (cut t (end_of start i)) (λ g. set-owned rows (end_of start i) (k + 1) is j ws rest t d g h)
  where
    next : k + 1 + length is ≡ k + suc (length is)
    next = omega arith

    by : (t < end_of start i) ⊎ (end_of start i ≤ t) → (end_of start i ≤ t → IsOwnedWithin (k + 1 + length is) (owner_of d)) → IsOwnedWithin (k + suc (length is)) (owner_of d)
    by (inl b) other = within-of k (k + 1) (k + suc (length is)) (omega arith) (owner_of d) (local-owner rows k d (list-at (is_local rows k) (rows_of rows start i) (t - start) d a.local (block-get rows start (end_of start i) t d l b h)))
    by (inr g) other = subst (λ n. IsOwnedWithin n (owner_of d)) next (other g)
set-owned rows _ _ _ _ _ (a_world start k is j w ws a later rest) t d l h = by (cut t (world_end start w)) (λ g. set-owned rows (world_end start w) k is (j + 1) ws rest t d g h)
  where
    by : (t < world_end start w) ⊎ (world_end start w ≤ t) → (world_end start w ≤ t → IsOwnedWithin (k + length is) (owner_of d)) → IsOwnedWithin (k + length is) (owner_of d)
    by (inl b) other = worlds-within (j + 1) (k + length is) (owner_of d) (world-owner rows j d (list-at (is_world_row rows j) (world_rows rows start w) (t - start) d a.local (block-get rows start (world_end start w) t d l b h)))
    by (inr g) other = other g

pub all-owned : (s : Resolve) → IsPackageByPackage s → AreOwnedWithin (length s.interfaces) s.definitions
all-owned s h k d e = subst (λ n. IsOwnedWithin n (owner_of d)) (omega arith) (set-owned s.definitions 0 0 s.interfaces 0 s.worlds h k d (omega arith) e)
