-- Sets of places, and lists that are passed one place after the other.
use Rattle.std.proofs.Common.{◌≡◌, ◌∙◌, ◌<◌, ◌≤◌, ◌⊎◌, inl, inr, ⊎_elim, ℕ, Bool, IsTrue, List, length, take, get_or, slice_get, Some, Option, sym, subst}
use Rattle.std.specs.Prelude.{All, Contains}
use Rattle.std.specs.BTreeSet.{BTreeSet, contains_by, insert_key}
use Rattle.std.specs.Ordering.{nat_cmp}
use Rattle.std.proofs.lemmas.Cmp.{nat_cmp_total}
use Rattle.std.proofs.lemmas.List.{take_all}
use Rattle.std.proofs.lemmas.List.Elements.{All-contains, All-weaker, Contains-get_or}
use Rattle.std.proofs.lemmas.Map.Lookups.{exact_unsigned}
use Rattle.std.proofs.lemmas.Map.Views.{btree_set_contains_iff, All-insert_key}
use Rattle.tables.specs.declared.tables.InterfaceId.{InterfaceId}
use Rattle.tables.specs.declared.tables.Direction.{Direction}
use Rattle.tables.specs.declared.tables.Direction.TheVariants.{Import, Export}
use Rattle.tables.specs.declared.tables.Interface.{Interface}
use Rattle.tables.specs.declared.tables.Resolve.{Resolve}
use Rattle.tables.specs.declared.tables.TypeId.{TypeId}
use Rattle.tables.specs.declared.tables.World.{World}
use Rattle.tables.specs.declared.tables.WorldItem.{WorldItem}
use Rattle.tables.specs.declared.tables.WorldItemKind.{WorldItemKind}
use Rattle.tables.specs.declared.tables.WorldItemKind.TheVariants as item
use Rattle.structure_comparison.specs.InStep.{IsThere}
use Rattle.structure_comparison.specs.Worlds.{AreIds, IsListed, IsUseOf, Uses, IsUsedByOne, IsItem, item_of, IsNeeded}

-- what a look-up says of the list of a set
pub set_has : (s : BTreeSet ℕ) (k : ℕ) (b : Bool) → b ≡ contains_by (nat_cmp k) s → IsTrue b → Contains s.keys k
set_has s k b e t = (btree_set_contains_iff nat_cmp_total exact_unsigned s k).0 (sym e ∙ t)

-- one more place
pub ids_more : (P : InterfaceId → Type 0) (ks new : List ℕ) (id : InterfaceId) → P id → new ≡ insert_key nat_cmp ks id.0 → AreIds P ks → AreIds P new
ids_more P ks new id p e h = subst (λ (ns : List ℕ). AreIds P ns) (sym e) (All-insert_key nat_cmp id.0 (λ (n : ℕ). P (record { 0 = n })) ks h p)

pub all_taken : {A : Type 0} (P : A → Type 0) (xs : List A) (n : ℕ) → length xs ≤ n → All P (take n xs) → All P xs
all_taken {A = A} P xs n h all = subst (λ (ys : List A). All P ys) (take_all n xs h) all

-- the places that were there before
pub ids_before : (Q : InterfaceId → Type 0) (ks : List ℕ) → AreIds (λ id. Contains ks id.0 ⊎ Q id) ks
ids_before Q ks = λ k d h. inl (Contains-get_or ks k d h)

-- places that were there before, and others
pub ids_chain : (P A : InterfaceId → Type 0) (ks new : List ℕ) → AreIds P ks → ((id : InterfaceId) → A id → P id) → AreIds (λ id. Contains ks id.0 ⊎ A id) new → AreIds P new
ids_chain P A ks new before f h =
    All-weaker (λ (n : ℕ). Contains ks n ⊎ A (record { 0 = n })) (λ (n : ℕ). P (record { 0 = n }))
    (λ (n : ℕ) x. ⊎_elim (λ (c : Contains ks n). All-contains (λ (m : ℕ). P (record { 0 = m })) ks n before c) (λ (a : A (record { 0 = n })). f (record { 0 = n }) a) x)
    new h

-- interfaces whose places are in the set
pub ids_found : (P : InterfaceId → Type 0) (ks : List ℕ) (ids : List InterfaceId) → AreIds P ks → All (λ (id : InterfaceId). Contains ks id.0) ids → All P ids
ids_found P ks ids h all = All-weaker (λ (id : InterfaceId). Contains ks id.0) P (λ (id : InterfaceId) c. All-contains (λ (m : ℕ). P (record { 0 = m })) ks id.0 h c) ids all

-- ---- uses

pub uses_at : (r : Resolve) (id : InterfaceId) (i : Interface) (rows : List TypeId) (k : ℕ) (d : TypeId) → rows ≡ i.uses → k < length rows → IsUseOf r id (get_or rows k d) → Uses r id i
uses_at r id i rows k d e h u = (get_or rows k d, subst (λ (rs : List TypeId). Contains rs (get_or rows k d)) e (Contains-get_or rows k d h), u)

pub used_at : (r : Resolve) (id : InterfaceId) (users : List InterfaceId) (k : ℕ) (d : InterfaceId) (i : Interface) → k < length users → slice_get r.interfaces (get_or users k d).0 ≡ Some i → Uses r id i → IsUsedByOne r users id
used_at r id users k d i h e u = (get_or users k d, Contains-get_or users k d h, subst (λ (o : Option Interface). IsThere (Uses r id) o) (sym e) u)

pub item_at : (w : World) (way : Direction) (id : InterfaceId) (items : List WorldItem) (k : ℕ) (d : WorldItem) → items ≡ w.items → k < length items → get_or items k d ≡ item_of way id → IsItem w way id
item_at w way id items k d e h same =
    subst (λ (x : WorldItem). Contains w.items x) same (subst (λ (is : List WorldItem). Contains is (get_or items k d)) e (Contains-get_or items k d h))

-- ---- items that are listed

pub listed_import : (A B : InterfaceId → Type 0) (way : Direction) (k : WorldItemKind) (id : InterfaceId) → way ≡ Import → k ≡ item.Interface id → A id → IsListed A B way k
listed_import A B way k id e f a = subst (λ (v : Direction). IsListed A B v k) (sym e) (subst (λ (j : WorldItemKind). IsListed A B Import j) (sym f) a)

pub listed_export : (A B : InterfaceId → Type 0) (way : Direction) (k : WorldItemKind) (id : InterfaceId) → way ≡ Export → k ≡ item.Interface id → B id → IsListed A B way k
listed_export A B way k id e f b = subst (λ (v : Direction). IsListed A B v k) (sym e) (subst (λ (j : WorldItemKind). IsListed A B Export j) (sym f) b)

listed_weaker : (A B P Q : InterfaceId → Type 0) → ((id : InterfaceId) → A id → P id) → ((id : InterfaceId) → B id → Q id) → (way : Direction) (k : WorldItemKind) → IsListed A B way k → IsListed P Q way k
listed_weaker A B P Q f g Import (item.Interface id) h = f id h
listed_weaker A B P Q f g Export (item.Interface id) h = g id h
listed_weaker A B P Q f g Import (item.Function x) h = tt
listed_weaker A B P Q f g Export (item.Function x) h = tt

pub listed_all : (imports exports : List InterfaceId) (ks js : List ℕ) (items : List WorldItem) → AreIds (Contains imports) ks → AreIds (Contains exports) js
    → All (λ (i : WorldItem). IsListed (λ id. Contains ks id.0) (λ id. Contains js id.0) i.direction i.kind) items
    → All (λ (i : WorldItem). IsListed (Contains imports) (Contains exports) i.direction i.kind) items
listed_all imports exports ks js items a b all =
    All-weaker (λ (i : WorldItem). IsListed (λ id. Contains ks id.0) (λ id. Contains js id.0) i.direction i.kind) (λ (i : WorldItem). IsListed (Contains imports) (Contains exports) i.direction i.kind)
    (λ (i : WorldItem) h. listed_weaker (λ id. Contains ks id.0) (λ id. Contains js id.0) (Contains imports) (Contains exports)
    (λ (id : InterfaceId) c. All-contains (λ (m : ℕ). Contains imports (record { 0 = m })) ks id.0 a c)
    (λ (id : InterfaceId) c. All-contains (λ (m : ℕ). Contains exports (record { 0 = m })) js id.0 b c) i.direction i.kind h)
    items all

-- the imports of a world with those that are used, by three sets that grow
pub needed_all : (r : Resolve) (w : World) (imports exports : List InterfaceId) (a b c : List ℕ) → AreIds (IsItem w Import) a
    → AreIds (λ id. Contains a id.0 ⊎ IsUsedByOne r imports id) b → AreIds (λ id. Contains b id.0 ⊎ IsUsedByOne r exports id) c
    → All (λ (id : InterfaceId). Contains c id.0) imports → All (IsNeeded r w imports exports) imports
needed_all r w imports exports a b c own first second found =
    let P : InterfaceId → Type 0 = IsNeeded r w imports exports in
    let start : AreIds P a = All-weaker (λ (n : ℕ). IsItem w Import (record { 0 = n })) (λ (n : ℕ). P (record { 0 = n })) (λ (n : ℕ) x. inl x) a own in
    let middle : AreIds P b = ids_chain P (IsUsedByOne r imports) a b start (λ (id : InterfaceId) x. inr (inl x)) first in
    ids_found P c imports (ids_chain P (IsUsedByOne r exports) b c middle (λ (id : InterfaceId) x. inr (inr x)) second) found
