-- A package that stands alone reaches all of its set: the table of the last package is the set.
use Rattle.std.proofs.Common.{◌≡◌, ◌<◌, ◌⊎◌, inl, inr, ℕ, zero, suc, ◌+◌, Bool, true, false, nat_lt, List, [], ◌∷◌, length, map, get_or, slice_get, Option, None, Some, refl, ap, sym, subst, ◌∙◌, arith, eq-eqb, All}
use Rattle.std.proofs.Math.Bool.{Bool-set}
use Rattle.std.proofs.Math.Logic.{∥∥₁_elim, ∥∥₁_map}
use Rattle.std.proofs.lemmas.Bool.{ltb-true, lt-ltb, false≢true}
use Rattle.std.proofs.lemmas.List.{length-map}
use Rattle.std.proofs.lemmas.Option.{slice_get_within, get_or_from_slice_get}
use Rattle.tables.specs.declared.tables.Owner.{Owner}
use Rattle.tables.specs.declared.tables.Owner.TheVariants as owner
use Rattle.tables.specs.declared.tables.Definition.{Definition}
use Rattle.tables.specs.declared.tables.Interface.{Interface}
use Rattle.tables.specs.declared.tables.World.{World}
use Rattle.tables.specs.declared.tables.Resolve.{Resolve}
use Rattle.tables.proofs.NamesEarlierTypes.{grouped-at}
use Rattle.package_form.specs.Closed.{IsAlone, own_package, is_world_of}
use Rattle.package_form.specs.Form.{IsInPackageForm}
use Rattle.package_form.specs.Naming.{package_scopes}
use Rattle.package_form.specs.Scope.{AreDistinct}
use Rattle.set_rows.specs.Moved.{put_interface, put_world, put_row}
use Rattle.set_rows.specs.Owners.{owners}
use Rattle.tables.specs.Names.{owner_of}
use Rattle.set_rows.proofs.OwnersOfRows.{length-owners}
use Rattle.set_rows.specs.Places.{place}
use Rattle.set_rows.specs.Renamed.{renaming}
use Rattle.set_rows.specs.Reaches.{Marks, is_marked, own_marks, OfPackage, of_start, AreReached}
use Rattle.set_rows.specs.declared.moved.Moved.{Moved}
use Rattle.package_sets.specs.Restricted.{IsReachedIn, IsNeeded, IsRestricted}
use Rattle.package_sets.specs.Part.{IsTableOf}
use Rattle.package_sets.specs.Tower.{IsInTower}
use Rattle.package_sets.proofs.AttachedSets.AttachesAlone.{own-first}
use Rattle.package_sets.proofs.OwnedRows.EachRowHasAnOwner.{belongs, local-owned, world-owned, IsOfInterface, IsOfWorld}
use Rattle.package_sets.proofs.MovedRows.SameInPlace.{rows-here, interfaces-here, worlds-here}
use Rattle.package_sets.proofs.KeptParts.PropertiesOfKept.{worlds-grouped-at}
use Rattle.package_sets.proofs.MovedRows.MovedRowsKeepMeaning.{in_place}
use Rattle.package_sets.proofs.MovedRows.MovedBackIsSame.{IsBack}
use Rattle.package_sets.proofs.PackageTables.TableIsInForm.{table-form, table-distinct}
use Rattle.package_form.specs.Reached.{is_interface_of}
use Rattle.std.specs.List.{items_where_true}

-- ---- lists all of whose marks are set

abbrev AllSet : List Bool → Type 0
AllSet bs = (k : ℕ) → k < length bs → get_or bs k false ≡ true

later : (b : Bool) (bs : List Bool) → AllSet (b ∷ bs) → AllSet bs
later b bs h k l = h (suc k) (omega (arith, l))

all-kept : {A : Type 0} (bs : List Bool) (xs : List A) → length bs ≡ length xs → AllSet bs → items_where_true bs xs ≡ xs
all-kept [] [] e h = refl
all-kept [] (x ∷ xs) e h = absurd (omega (arith, e))
all-kept (b ∷ bs) [] e h = absurd (omega (arith, e))
all-kept (true ∷ bs) (x ∷ xs) e h = ap (λ ys. x ∷ ys) (all-kept bs xs (omega (arith, e)) (later true bs h))
all-kept (false ∷ bs) (x ∷ xs) e h = absurd (false≢true (h 0 (omega arith)))

all-place : (bs : List Bool) (k : ℕ) → k < length bs → AllSet bs → place bs k ≡ k
all-place [] k l h = absurd (omega (arith, l))
all-place (b ∷ bs) zero l h = refl
all-place (true ∷ bs) (suc k) l h = ap (λ n. 1 + n) (all-place bs k (omega (arith, l)) (later true bs h)) ∙ omega arith
all-place (false ∷ bs) (suc k) l h = absurd (false≢true (h 0 (omega arith)))

all-set : {A : Type 0} (f : A → Bool) (xs : List A) → ((k : ℕ) (x : A) → slice_get xs k ≡ Some x → f x ≡ true) → AllSet (map f xs)
all-set f [] h k l = absurd (omega (arith, l))
all-set f (x ∷ xs) h zero l = h 0 x refl
all-set f (x ∷ xs) h (suc k) l = all-set f xs (λ j y e. h (suc j) y e) k (omega (arith, l))

-- what isn't there counts as marked
all-marked : (bs : List Bool) → AllSet bs → (k : ℕ) → get_or bs k true ≡ true
all-marked [] h k = refl
all-marked (b ∷ bs) h zero = h 0 (omega arith)
all-marked (b ∷ bs) h (suc k) = all-marked bs (later b bs h) k

-- the number of an owner among the interfaces, or among the worlds
abbrev number : Option Owner → ℕ
number None = 0
number (Some (owner.Interface i)) = i.0
number (Some (owner.World w)) = w.0

module _ (r : Resolve) (alone : IsAlone r) where
  abbrev own : ℕ
  own = own_package r.packages

  abbrev marks : Marks
  marks = own_marks r own

  abbrev to : Moved
  to = record { packages = true ∷ []; interfaces = marks.interfaces; worlds = map (is_world_of own) r.worlds; rows = map (is_marked marks) (owners r.definitions) }

  first : own ≡ 0
  first = own-first r alone

  -- ---- all of it is marked

  interface-own : (k : ℕ) (x : Interface) → slice_get r.interfaces k ≡ Some x → x.«package».0 < 1
  interface-own k x e = subst (λ (n : ℕ). x.«package».0 < n) alone (grouped-at (length r.packages) 0 r.interfaces k x r.grouped (slice_get_within r.interfaces k x e) (get_or_from_slice_get r.interfaces k x x e))

  world-own : (k : ℕ) (w : World) → slice_get r.worlds k ≡ Some w → w.«package».0 < 1
  world-own k w e = subst (λ (n : ℕ). w.«package».0 < n) alone (worlds-grouped-at (length r.packages) 0 r.worlds k w r.worlds_grouped e)

  interfaces-set : AllSet marks.interfaces
  interfaces-set = all-set (is_interface_of own) r.interfaces (λ k x e. eq-eqb x.«package».0 own (omega (arith, first, interface-own k x e)))

  worlds-set : AllSet marks.worlds
  worlds-set = all-set (is_world_of own) r.worlds (λ k w e. eq-eqb w.«package».0 own (omega (arith, first, world-own k w e)))

  marked : (o : Option Owner) → is_marked marks o ≡ true
  marked None = refl
  marked (Some (owner.Interface i)) = all-marked marks.interfaces interfaces-set i.0
  marked (Some (owner.World w)) = all-marked marks.worlds worlds-set w.0

  rows-set : AllSet to.rows
  rows-set = all-set (is_marked marks) (owners r.definitions) (λ k o e. marked o)

  packages-set : AllSet to.packages
  packages-set zero l = refl
  packages-set (suc k) l = absurd (omega (arith, l))

  -- ---- so it is what is needed

  are-reached : AreReached r (OfPackage own) marks
  are-reached = record { count = length-map r.interfaces (is_interface_of own); sound = λ o h. of_start o (inl h); complete = λ o h. marked o }

  reached-first : (k : ℕ) → IsReachedIn r marks k → k ≡ 0
  reached-first k (i, x, there, m, is) = omega (arith, is, interface-own i x there)

  needed : IsNeeded r own to
  needed = record {
    marks = marks;
    are_reached = are-reached;
    packages_are = record {
      count = sym alone;
      own_one = λ l. ap (λ (n : ℕ). get_or (true ∷ []) n false) first;
      others = λ k h. ap (λ (n : ℕ). get_or (true ∷ []) n true) (reached-first k h);
      only = λ k h. inl (only-first k h ∙ sym first);
    };
    interfaces_are = refl;
    worlds_are = refl;
    rows_are = refl;
  }
    where
      only-first : (k : ℕ) → get_or (true ∷ []) k false ≡ true → k ≡ 0
      only-first zero h = refl
      only-first (suc k) h = absurd (false≢true h)

  -- ---- and its table is the set

  count-interfaces : length to.interfaces ≡ length r.interfaces
  count-interfaces = length-map r.interfaces (is_interface_of own)

  count-worlds : length to.worlds ≡ length r.worlds
  count-worlds = length-map r.worlds (is_world_of own)

  count-rows : length to.rows ≡ length r.definitions
  count-rows = length-map (owners r.definitions) (is_marked marks) ∙ length-owners r.definitions

  module _ (tower : ∥ IsInTower r ∥₁) where
    interface-place : (t : ℕ) → t < length r.interfaces → place to.interfaces t ≡ t
    interface-place t l = all-place to.interfaces t (omega (arith, l, count-interfaces)) interfaces-set

    world-place : (t : ℕ) → t < length r.worlds → place to.worlds t ≡ t
    world-place t l = all-place to.worlds t (omega (arith, l, count-worlds)) worlds-set

    interface-within : (k : ℕ) (d : Definition) (i : ℕ) → slice_get r.definitions k ≡ Some d → owner_of d ≡ Some (owner.Interface (record { 0 = i })) → IsInTower r → i < length r.interfaces
    interface-within k d i e is t = by (belongs r.definitions 0 0 r.interfaces 0 r.worlds t.form.rows.stands k d (omega arith) e)
      where
        by : IsOfInterface r.definitions 0 (0 + length r.interfaces) k d ⊎ IsOfWorld r.definitions 0 (0 + length r.worlds) k d → i < length r.interfaces
        by (inl b) = elim (local-owned r.definitions b.interface d b.local) [
          | inl g ↦ let same : i ≡ b.interface = ap number (sym is ∙ g) in omega (arith, same, b.ends)
          | inr g ↦ absurd cc
        ]
        by (inr b) = elim (world-owned r.definitions b.world d b.local) [
          | inl g ↦ absurd cc
          | inr g ↦ absurd cc
        ]

    world-within : (k : ℕ) (d : Definition) (w : ℕ) → slice_get r.definitions k ≡ Some d → owner_of d ≡ Some (owner.World (record { 0 = w })) → IsInTower r → w < length r.worlds
    world-within k d w e is t = by (belongs r.definitions 0 0 r.interfaces 0 r.worlds t.form.rows.stands k d (omega arith) e)
      where
        by : IsOfInterface r.definitions 0 (0 + length r.interfaces) k d ⊎ IsOfWorld r.definitions 0 (0 + length r.worlds) k d → w < length r.worlds
        by (inl b) = elim (local-owned r.definitions b.interface d b.local) [
          | inl g ↦ absurd cc
          | inr g ↦ absurd cc
        ]
        by (inr b) = elim (world-owned r.definitions b.world d b.local) [
          | inl g ↦ let same : w ≡ b.world = ap number (sym is ∙ g) in omega (arith, same, b.ends)
          | inr g ↦ absurd cc
        ]

    owned : (k : ℕ) (d : Definition) → slice_get r.definitions k ≡ Some d → IsBack (renaming to) in_place (owner_of d)
    owned k d e = by (owner_of d) refl
      where
        by : (o : Option Owner) → owner_of d ≡ o → IsBack (renaming to) in_place o
        by None is = tt
        by (Some (owner.Interface i)) is =
            interface-place i.0 (ltb-true i.0 (length r.interfaces) (∥∥₁_elim tower (Bool-set (nat_lt i.0 (length r.interfaces)) true) (λ t. lt-ltb i.0 (length r.interfaces) (interface-within k d i.0 e is t))))
        by (Some (owner.World w)) is =
            world-place w.0 (ltb-true w.0 (length r.worlds) (∥∥₁_elim tower (Bool-set (nat_lt w.0 (length r.worlds)) true) (λ t. lt-ltb w.0 (length r.worlds) (world-within k d w.0 e is t))))

    row-place : (t : ℕ) → t < length r.definitions → place to.rows t ≡ t
    row-place t l = all-place to.rows t (omega (arith, l, count-rows)) rows-set

    row-kept : (t : ℕ) → t < length r.definitions → get_or to.rows t false ≡ true
    row-kept t l = rows-set t (omega (arith, l, count-rows))

    package-place : (t : ℕ) → t < length r.packages → place to.packages t ≡ t
    package-place t l = all-place to.packages t (omega (arith, l, alone)) packages-set

    whole-table : IsTableOf r to r
    whole-table = record {
      packages = sym (all-kept to.packages r.packages (sym alone) packages-set);
      interfaces = sym (ap (map (put_interface (renaming to))) (all-kept to.interfaces r.interfaces count-interfaces interfaces-set) ∙ interfaces-here r (renaming to) row-place row-kept interface-place package-place owned);
      worlds = sym (ap (map (put_world (renaming to))) (all-kept to.worlds r.worlds count-worlds worlds-set) ∙ worlds-here r (renaming to) row-place row-kept interface-place package-place owned);
      definitions = sym (ap (map (put_row (renaming to))) (all-kept to.rows r.definitions count-rows rows-set) ∙ rows-here r (renaming to) row-place row-kept interface-place package-place owned);
    }

    pub whole : IsRestricted r own r
    whole = record { to = to; needed = needed; table = whole-table }

    pub whole-form : ∥ IsInPackageForm r × All AreDistinct (package_scopes r) ∥₁
    whole-form =
        let within : own < length r.packages = omega (arith, first, alone) in
        ∥∥₁_map tower (λ t. (table-form r own to needed t within r whole-table, table-distinct r own to needed t within r whole-table))
