-- What is true of all elements is true of those that are kept, as they are put elsewhere.
use Rattle.std.proofs.Common.{◌≡◌, ◌≤◌, ◌<◌, ℕ, zero, suc, ◌+◌, Bool, true, false, ◌&&◌, nat_le, nat_lt, List, [], ◌∷◌, get_or, slice_get, map, Some, refl, subst, arith, IsTrue, length}
use Rattle.std.specs.Prelude.{filter}
use Rattle.std.specs.List.{list_all, items_where_true}
use Rattle.std.proofs.lemmas.Bool.{ltb-true, lt-ltb, leb-true, le-leb}
use Rattle.std.proofs.lemmas.Option.{slice_get_within, get_or_from_slice_get}
use Rattle.tables.specs.Tables.{are_grouped, are_worlds_grouped, is_placed_world, are_placed_worlds}
use Rattle.tables.proofs.ClosedTypesRowByRow.{split, both}
use Rattle.tables.proofs.NamesEarlierTypes.{grouped-at}
use Rattle.set_rows.specs.Places.{place}
use Rattle.set_rows.proofs.KeptElementsAndPlaces.{place-order}
use Rattle.tables.specs.declared.tables.Definition.{Definition}
use Rattle.tables.specs.declared.tables.Interface.{Interface}
use Rattle.tables.specs.declared.tables.World.{World}
use Rattle.tables.specs.declared.tables.Resolve.{Resolve}

pub list-at : {A : Type 0} (f : A → Bool) (xs : List A) (k : ℕ) (x : A) → list_all f xs ≡ true → slice_get xs k ≡ Some x → f x ≡ true
list-at f [] k x h e = absurd (cc)
list-at f (y ∷ xs) zero x h e = let same : y ≡ x = cc in subst (λ z. f z ≡ true) same (split (f y) (list_all f xs) h).0
list-at f (y ∷ xs) (suc k) x h e = list-at f xs k x (split (f y) (list_all f xs) h).1 e

pub list-kept : {A B : Type 0} (put : A → B) (g : B → Bool) (bs : List Bool) (xs : List A) → ((k : ℕ) (x : A) → get_or bs k false ≡ true → slice_get xs k ≡ Some x → g (put x) ≡ true)
    → list_all g (map put (items_where_true bs xs)) ≡ true
list-kept put g [] xs h = refl
list-kept put g (b ∷ bs) [] h = refl
list-kept put g (true ∷ bs) (x ∷ xs) h = both _ _ (h 0 x refl refl) (list-kept put g bs xs (λ k y e f. h (suc k) y e f))
list-kept put g (false ∷ bs) (x ∷ xs) h = list-kept put g bs xs (λ k y e f. h (suc k) y e f)

pub map-kept-as : {A B C : Type 0} (put : A → B) (f : A → C) (g : B → C) (bs : List Bool) (xs : List A)
    → ((k : ℕ) (x : A) → get_or bs k false ≡ true → slice_get xs k ≡ Some x → g (put x) ≡ f x) → map g (map put (items_where_true bs xs)) ≡ items_where_true bs (map f xs)
map-kept-as put f g [] xs h = refl
map-kept-as put f g (b ∷ bs) [] h = refl
map-kept-as put f g (true ∷ bs) (x ∷ xs) h = let e = h 0 x refl refl in let r = map-kept-as put f g bs xs (λ k y e f. h (suc k) y e f) in cc
map-kept-as put f g (false ∷ bs) (x ∷ xs) h = map-kept-as put f g bs xs (λ k y e f. h (suc k) y e f)

pub map-put-as : {A B C : Type 0} (put : A → B) (f : A → C) (g : B → C) (xs : List A) → ((k : ℕ) (x : A) → slice_get xs k ≡ Some x → g (put x) ≡ f x) → map g (map put xs) ≡ map f xs
map-put-as put f g [] h = refl
map-put-as put f g (x ∷ xs) h = let e = h 0 x refl in let r = map-put-as put f g xs (λ k y e. h (suc k) y e) in cc

pub list-filter : {A : Type 0} (put : A → A) (has f g : A → Bool) (xs : List A) → ((x : A) → f x ≡ true → has x ≡ true → g (put x) ≡ true) → list_all f xs ≡ true
    → list_all g (map put (filter has xs)) ≡ true
list-filter put has f g [] one h = refl
list-filter put has f g (x ∷ xs) one h =
    let p = split (f x) (list_all f xs) h in
    by (has x) refl p.0 (list-filter put has f g xs one p.1)
  where
    by : (b : Bool) → has x ≡ b → f x ≡ true → list_all g (map put (filter has xs)) ≡ true → list_all g (map put (filter has (x ∷ xs))) ≡ true
    by true e p r = rw e (both (g (put x)) (list_all g (map put (filter has xs))) (one x p e) r)
    by false e p r = rw e r

-- ---- interfaces by their packages

order : (n m : ℕ) → n ≤ m → IsTrue (nat_le n m)
order n m h = le-leb n m h

weaker : (count first m : ℕ) (is : List Interface) → m ≤ first → IsTrue (are_grouped count first is) → IsTrue (are_grouped count m is)
weaker count first m [] h g = refl
weaker count first m (i ∷ is) h g =
    let p = split (nat_le first i.«package».0 && nat_lt i.«package».0 count) (are_grouped count i.«package».0 is) g in
    let q = split (nat_le first i.«package».0) (nat_lt i.«package».0 count) p.0 in
    both _ _ (both _ _ (order m i.«package».0 (omega (arith, h, leb-true first i.«package».0 q.0))) q.1) p.1

pub grouped-kept : (put : Interface → Interface) (ps : List Bool) (counted : ℕ) (bs : List Bool) (is : List Interface) (count first : ℕ) → ((i : Interface) → (put i).«package».0 ≡ place ps i.«package».0)
    → ((k : ℕ) (i : Interface) → get_or bs k false ≡ true → slice_get is k ≡ Some i → place ps i.«package».0 < counted) → IsTrue (are_grouped count first is)
    → IsTrue (are_grouped counted (place ps first) (map put (items_where_true bs is)))
grouped-kept put ps counted [] is count first at within g = refl
grouped-kept put ps counted (b ∷ bs) [] count first at within g = refl
grouped-kept put ps counted (true ∷ bs) (i ∷ is) count first at within g =
    let p = split (nat_le first i.«package».0 && nat_lt i.«package».0 count) (are_grouped count i.«package».0 is) g in
    let q = split (nat_le first i.«package».0) (nat_lt i.«package».0 count) p.0 in
    let rest = grouped-kept put ps counted bs is count i.«package».0 at (λ k x e f. within (suc k) x e f) p.1 in
    rw (at i) (both _ _ (both _ _ (order (place ps first) (place ps i.«package».0) (place-order ps first i.«package».0 (leb-true first i.«package».0 q.0))) (lt-ltb _ _ (within 0 i refl refl))) rest)
grouped-kept put ps counted (false ∷ bs) (i ∷ is) count first at within g =
    let p = split (nat_le first i.«package».0 && nat_lt i.«package».0 count) (are_grouped count i.«package».0 is) g in
    let q = split (nat_le first i.«package».0) (nat_lt i.«package».0 count) p.0 in
    let rest = grouped-kept put ps counted bs is count i.«package».0 at (λ k x e f. within (suc k) x e f) p.1 in
    weaker counted (place ps i.«package».0) (place ps first) _ (place-order ps first i.«package».0 (leb-true first i.«package».0 q.0)) rest

-- ---- worlds by their packages

weaker-worlds : (count first m : ℕ) (ws : List World) → m ≤ first → IsTrue (are_worlds_grouped count first ws) → IsTrue (are_worlds_grouped count m ws)
weaker-worlds count first m [] h g = refl
weaker-worlds count first m (w ∷ ws) h g =
    let p = split (nat_le first w.«package».0 && nat_lt w.«package».0 count) (are_worlds_grouped count w.«package».0 ws) g in
    let q = split (nat_le first w.«package».0) (nat_lt w.«package».0 count) p.0 in
    both _ _ (both _ _ (order m w.«package».0 (omega (arith, h, leb-true first w.«package».0 q.0))) q.1) p.1

pub worlds-grouped-kept : (put : World → World) (ps : List Bool) (counted : ℕ) (bs : List Bool) (ws : List World) (count first : ℕ) → ((w : World) → (put w).«package».0 ≡ place ps w.«package».0)
    → ((k : ℕ) (w : World) → get_or bs k false ≡ true → slice_get ws k ≡ Some w → place ps w.«package».0 < counted) → IsTrue (are_worlds_grouped count first ws)
    → IsTrue (are_worlds_grouped counted (place ps first) (map put (items_where_true bs ws)))
worlds-grouped-kept put ps counted [] ws count first at within g = refl
worlds-grouped-kept put ps counted (b ∷ bs) [] count first at within g = refl
worlds-grouped-kept put ps counted (true ∷ bs) (w ∷ ws) count first at within g =
    let p = split (nat_le first w.«package».0 && nat_lt w.«package».0 count) (are_worlds_grouped count w.«package».0 ws) g in
    let q = split (nat_le first w.«package».0) (nat_lt w.«package».0 count) p.0 in
    let rest = worlds-grouped-kept put ps counted bs ws count w.«package».0 at (λ k x e f. within (suc k) x e f) p.1 in
    rw (at w) (both _ _ (both _ _ (order (place ps first) (place ps w.«package».0) (place-order ps first w.«package».0 (leb-true first w.«package».0 q.0))) (lt-ltb _ _ (within 0 w refl refl))) rest)
worlds-grouped-kept put ps counted (false ∷ bs) (w ∷ ws) count first at within g =
    let p = split (nat_le first w.«package».0 && nat_lt w.«package».0 count) (are_worlds_grouped count w.«package».0 ws) g in
    let q = split (nat_le first w.«package».0) (nat_lt w.«package».0 count) p.0 in
    let rest = worlds-grouped-kept put ps counted bs ws count w.«package».0 at (λ k x e f. within (suc k) x e f) p.1 in
    weaker-worlds counted (place ps w.«package».0) (place ps first) _ (place-order ps first w.«package».0 (leb-true first w.«package».0 q.0)) rest

-- a world is of one of the packages
pub worlds-grouped-at : (count first : ℕ) (ws : List World) (k : ℕ) (w : World) → IsTrue (are_worlds_grouped count first ws) → slice_get ws k ≡ Some w → w.«package».0 < count
worlds-grouped-at count first [] k w h e = absurd (cc)
worlds-grouped-at count first (v ∷ ws) zero w h e =
    let same : v ≡ w = cc in
    let p = split (nat_le first v.«package».0 && nat_lt v.«package».0 count) (are_worlds_grouped count v.«package».0 ws) h in
    subst (λ (x : World). x.«package».0 < count) same (ltb-true v.«package».0 count (split (nat_le first v.«package».0) (nat_lt v.«package».0 count) p.0).1)
worlds-grouped-at count first (v ∷ ws) (suc k) w h e =
    let p = split (nat_le first v.«package».0 && nat_lt v.«package».0 count) (are_worlds_grouped count v.«package».0 ws) h in
    worlds-grouped-at count v.«package».0 ws k w p.1 e

-- at a world's place, its items are of the table
pub placed-at : (ds : List Definition) (count w : ℕ) (ws : List World) (k : ℕ) (x : World) → are_placed_worlds ds count w ws ≡ true → slice_get ws k ≡ Some x → is_placed_world ds count (w + k) x ≡ true
placed-at ds count w [] k x h e = absurd (cc)
placed-at ds count w (y ∷ ws) zero x h e =
    let same : y ≡ x = cc in
    let p = split (is_placed_world ds count w y) (are_placed_worlds ds count (w + 1) ws) h in
    subst (λ n. is_placed_world ds count n x ≡ true) (omega arith) (subst (λ (z : World). is_placed_world ds count w z ≡ true) same p.0)
placed-at ds count w (y ∷ ws) (suc k) x h e =
    let p = split (is_placed_world ds count w y) (are_placed_worlds ds count (w + 1) ws) h in
    subst (λ n. is_placed_world ds count n x ≡ true) (next w k) (placed-at ds count (w + 1) ws k x p.1 e)
  where
    next : (n m : ℕ) → n + 1 + m ≡ n + suc m
    next n m = omega arith

-- an interface is of one of the packages
pub interface-in : (s : Resolve) (k : ℕ) (i : Interface) → slice_get s.interfaces k ≡ Some i → i.«package».0 < length s.packages
interface-in s k i e = grouped-at (length s.packages) 0 s.interfaces k i s.grouped (slice_get_within s.interfaces k i e) (get_or_from_slice_get s.interfaces k i i e)
