-- A package that stands alone, put behind no package, is as it was.
use Rattle.std.proofs.Common.{◌≡◌, ◌<◌, ◌⊎◌, inl, inr, ℕ, ◌+◌, ◌&&◌, Bool, true, if◌then◌else◌, nat_le, nat_lt, List, [], ◌∷◌, ◌++◌, length, map, take, drop, get_or, slice_get, Option, None, Some, refl, ap, sym, subst, ◌∙◌, arith, eq-eqb, ◌==◌, eqb-true, true≢false}
use Rattle.std.proofs.Math.Bool.{Bool-set}
use Rattle.std.proofs.Math.Logic.{∥∥₁_elim}
use Rattle.std.specs.List.{list_any}
use Rattle.std.proofs.lemmas.Bool.{ltb-true}
use Rattle.std.proofs.lemmas.Option.{slice_get_within}
use Rattle.tables.specs.Tables.{are_worlds_grouped, are_grouped}
use Rattle.tables.specs.PackageNames.{PackageParts}
use Rattle.tables.specs.declared.tables.Owner.{Owner}
use Rattle.tables.specs.declared.tables.Owner.TheVariants as owner
use Rattle.tables.specs.declared.tables.Definition.{Definition}
use Rattle.tables.specs.declared.tables.Interface.{Interface}
use Rattle.tables.specs.declared.tables.World.{World}
use Rattle.tables.specs.declared.tables.Resolve.{Resolve}
use Rattle.tables.proofs.ClosedTypesRowByRow.{split}
use Rattle.package_form.specs.Closed.{IsAlone, own_package, is_same_package, is_closed}
use Rattle.package_form.specs.Ends.{interfaces_end}
use Rattle.package_form.specs.Form.{IsInPackageForm}
use Rattle.package_sets.specs.Attached.{IsAttached, IsOwn}
use Rattle.package_sets.specs.Joining.{before_own, import_count, imports, own_interfaces, import_rows, row_places, all_places, place_in, joined}
use Rattle.set_rows.specs.Moved.{Renaming, put_interface, put_world, put_row}
use Rattle.set_rows.specs.Owners.{owners}
use Rattle.tables.specs.Names.{owner_of}
use Rattle.package_sets.specs.BehindImports.{IsBehindImports}
use Rattle.package_sets.specs.Imports.{IsImportsOf}
use Rattle.package_sets.specs.NamedIn.{AreMarksOf, NamesIn}
use Rattle.package_sets.specs.One.{AttachesAlone}
use Rattle.set_rows.specs.Reaches.{Marks, is_marked, padded, given_marks, OfInterfaces, Reaches, of_start, of_row, AreReached}
use Rattle.set_rows.specs.declared.moved.Moved.{Moved}
use Rattle.package_sets.specs.Set.{ArePackageByPackage, behind_all, HasRowsInForm}
use Rattle.package_sets.specs.Tower.{IsInTower}
use Rattle.package_sets.specs.SetForm.{IsEmpty}
use Rattle.package_sets.proofs.MovedRows.SameInPlace.{rows-here, interfaces-here, worlds-here}
use Rattle.package_sets.proofs.GrowingLists.{behind-place, one-there}
use Rattle.package_sets.proofs.AttachedSets.RowsKeepTheirMeaning.{own-owned}
use Rattle.package_sets.proofs.OwnedRows.RowsAreOwned.{IsOwnedFrom, IsOfWorlds}
use Rattle.package_sets.proofs.MovedRows.MovedRowsKeepMeaning.{in_place}
use Rattle.package_sets.proofs.MovedRows.MovedBackIsSame.{IsBack}

-- ---- lists

-- places from the first on
place-here : (count k : ℕ) → k < count → place_in (all_places [] 0 count) k ≡ k
place-here count k l =
    let here : k ≡ length {A = ℕ} [] + k = omega arith in
    let last : 0 + k ≡ k = omega arith in
    ap (λ n. get_or (all_places [] 0 count) n 0) here ∙ (behind-place [] 0 count k (omega (arith, l)) ∙ last)

-- interfaces of one package are its own
pub first-own : (is : List Interface) → are_grouped 1 0 is ≡ true → before_own 0 is ≡ 0
first-own [] h = refl
first-own (i ∷ is) h =
    let p = split (nat_le 0 i.«package».0 && nat_lt i.«package».0 1) (are_grouped 1 i.«package».0 is) h in
    let l = ltb-true i.«package».0 1 (split (nat_le 0 i.«package».0) (nat_lt i.«package».0 1) p.0).1 in
    ap (λ (b : Bool). if b then 0 else 1 + before_own 0 is) (eq-eqb i.«package».0 0 (omega (arith, l)))

module _ (c : Resolve) (alone : IsAlone c) where
  pub own-first : own_package c.packages ≡ 0
  own-first = omega (arith, alone)

  no-import : import_count c ≡ 0
  no-import = ap (λ n. before_own n c.interfaces) own-first ∙ first-own c.interfaces (subst (λ n. are_grouped n 0 c.interfaces ≡ true) alone c.grouped)

  pub imports-none : imports c ≡ []
  imports-none = ap (λ n. take n c.interfaces) no-import

  own-all : own_interfaces c ≡ c.interfaces
  own-all = ap (λ n. drop n c.interfaces) no-import

module _ (none c : Resolve) (e : IsEmpty none) (truncated : ∥ IsInPackageForm c ∥₁) (alone : IsAlone c) where
  form : HasRowsInForm c
  form = record {
    parted = ∥∥₁_elim truncated (Bool-set _ true) (λ f. f.parted);
    interfaces = ∥∥₁_elim truncated (Bool-set _ true) (λ f. f.interfaces);
    items = ∥∥₁_elim truncated (Bool-set _ true) (λ f. f.worlds);
  }

  closed : is_closed c ≡ true
  closed = ∥∥₁_elim truncated (Bool-set (is_closed c) true) (λ f. f.closed)

  abbrev to : Renaming
  to = joined none c []

  no-rows : import_rows none c [] ≡ []
  no-rows = ap (λ (is : List Interface). row_places none 0 is []) (imports-none c alone)

  -- ---- each place is what it was

  row-place : (t : ℕ) → t < length c.definitions → to.rows t ≡ t
  row-place t l =
      ap (λ ps. place_in (all_places ps (length none.definitions) (length c.definitions)) t) no-rows
      ∙ (ap (λ n. place_in (all_places [] n (length c.definitions)) t) (ap length e.definitions) ∙ place-here (length c.definitions) t l)

  interface-place : (t : ℕ) → t < length c.interfaces → to.interfaces t ≡ t
  interface-place t l = ap (λ n. place_in (all_places [] n (length c.interfaces)) t) (ap length e.interfaces) ∙ place-here (length c.interfaces) t l

  world-place : (t : ℕ) → t < length c.worlds → to.worlds t ≡ t
  world-place t l = ap (λ n. place_in (all_places [] n (length c.worlds)) t) (ap length e.worlds) ∙ place-here (length c.worlds) t l

  package-place : (t : ℕ) → t < length c.packages → to.packages t ≡ t
  package-place t l = ap length e.packages ∙ omega (arith, l, alone)

  -- ---- owners

  back : (o : Option Owner) → IsOwnedFrom (import_count c) (length c.interfaces) o ⊎ IsOfWorlds (length c.worlds) o → IsBack to in_place o
  back None h = tt
  back (Some (owner.Interface i)) (inl h) = interface-place i.0 h.1
  back (Some (owner.Interface i)) (inr h) = absurd h
  back (Some (owner.World w)) (inl h) = absurd h
  back (Some (owner.World w)) (inr h) = world-place w.0 h

  owned : (k : ℕ) (d : Definition) → slice_get c.definitions k ≡ Some d → IsBack to in_place (owner_of d)
  owned k d h = back (owner_of d) (own-owned c form closed k d (omega (arith, ap (interfaces_end 0) (imports-none c alone))) h)

  -- ---- the set of the package alone is its table

  pub attached-alone : IsAttached none c c 0
  attached-alone =
      let one = one-there c.packages 0 (omega (arith, alone)) in
      let own : IsOwn c one.0 = ap (slice_get c.packages) (own-first c alone) ∙ one.1 in
      let kept : drop (length (import_rows none c [])) c.definitions ≡ c.definitions = ap (λ (ps : List ℕ). drop (length ps) c.definitions) no-rows in
      record {
        room = omega (arith, ap length e.packages);
        new = λ p h. ap (λ (ps : List PackageParts). list_any (is_same_package p) ps) e.packages;
        have = λ k q h. absurd (omega (arith, (own-first c alone), slice_get_within _ k q h, length-take-own));
        fits = record {
          own = one.0;
          own_is = own;
          imports = record {
            places = [];
            found = record { count = sym (ap length (imports-none c alone)); each = λ k i h. absurd (none-there k i (sym (ap (λ (is : List Interface). slice_get is k) (imports-none c alone)) ∙ h)) };
            rows = λ k d h. absurd (no-row k d (sym (ap (λ (ps : List ℕ). slice_get (take (length ps) c.definitions) k) no-rows) ∙ h));
            ids = λ k i h. absurd (none-there k i (sym (ap (λ (is : List Interface). slice_get is k) (imports-none c alone)) ∙ h));
          };
        };
        packages_are = single c.packages one.0 one.1 alone ∙ sym (ap (λ (ps : List PackageParts). ps ++ one.0 ∷ []) e.packages);
        id_is = sym (ap length e.packages);
        own_behind = record {
          interfaces = sym (interfaces-here c to row-place (λ t l. refl) interface-place package-place owned) ∙ (sym (ap (map (put_interface to)) (own-all c alone)) ∙ sym (ap (λ (is : List Interface). is ++ map (put_interface to) (own_interfaces c)) e.interfaces));
          worlds = sym (worlds-here c to row-place (λ t l. refl) interface-place package-place owned) ∙ sym (ap (λ (ws : List World). ws ++ map (put_world to) c.worlds) e.worlds);
          rows = sym (rows-here c to row-place (λ t l. refl) interface-place package-place owned)
              ∙ (sym (ap (map (put_row to)) kept) ∙ sym (ap (λ (ds : List Definition). ds ++ map (put_row to) (drop (length (import_rows none c [])) c.definitions)) e.definitions));
        };
      }
    where
      length-take-own : length (take (own_package c.packages) c.packages) ≡ 0
      length-take-own = ap (λ n. length (take n c.packages)) (own-first c alone)

      none-there : (k : ℕ) (i : Interface) → slice_get [] k ≡ Some i → ⊥
      none-there k i h = cc

      no-row : (k : ℕ) (d : Definition) → slice_get [] k ≡ Some d → ⊥
      no-row k d h = cc

      single : {A : Type 0} (xs : List A) (x : A) → slice_get xs 0 ≡ Some x → length xs ≡ 1 → xs ≡ x ∷ []
      single [] x h l = absurd (omega (arith, l))
      single (y ∷ []) x h l = let same : y ≡ x = cc in ap (λ z. z ∷ []) same
      single (y ∷ z ∷ xs) x h l = absurd (omega (arith, l))

-- ---- a set of no package has nothing

no-interfaces : (first : ℕ) (is : List Interface) → are_grouped 0 first is ≡ true → is ≡ []
no-interfaces first [] h = refl
no-interfaces first (i ∷ is) h =
    let p = split (nat_le first i.«package».0 && nat_lt i.«package».0 0) (are_grouped 0 i.«package».0 is) h in
    absurd (omega (arith, ltb-true i.«package».0 0 (split (nat_le first i.«package».0) (nat_lt i.«package».0 0) p.0).1))

no-worlds : (first : ℕ) (ws : List World) → are_worlds_grouped 0 first ws ≡ true → ws ≡ []
no-worlds first [] h = refl
no-worlds first (w ∷ ws) h =
    let p = split (nat_le first w.«package».0 && nat_lt w.«package».0 0) (are_worlds_grouped 0 w.«package».0 ws) h in
    absurd (omega (arith, ltb-true w.«package».0 0 (split (nat_le first w.«package».0) (nat_lt w.«package».0 0) p.0).1))

no-elements : {A : Type 0} (xs : List A) → length xs ≡ 0 → xs ≡ []
no-elements [] h = refl
no-elements (x ∷ xs) h = absurd (omega (arith, h))

ends-there : (rows : List Definition) (start k j : ℕ) → ArePackageByPackage rows start k [] j [] → start ≡ length rows
ends-there rows _ _ _ (behind_all start k j e) = e

module _ (s : Resolve) (tower : ∥ IsInTower s ∥₁) (no-package : length s.packages ≡ 0) where
  interfaces : s.interfaces ≡ []
  interfaces = no-interfaces 0 s.interfaces (subst (λ n. are_grouped n 0 s.interfaces ≡ true) no-package s.grouped)

  worlds : s.worlds ≡ []
  worlds = no-worlds 0 s.worlds (subst (λ n. are_worlds_grouped n 0 s.worlds ≡ true) no-package s.worlds_grouped)

  count : IsInTower s → 0 ≡ length s.definitions
  count t =
      ends-there s.definitions 0 0 0 (subst (λ (ws : List World). ArePackageByPackage s.definitions 0 0 [] 0 ws) worlds
      (subst (λ (is : List Interface). ArePackageByPackage s.definitions 0 0 is 0 s.worlds) interfaces t.form.rows.stands))

  pub is-empty : IsEmpty s
  is-empty = record {
    packages = no-elements s.packages no-package;
    interfaces = interfaces;
    worlds = worlds;
    definitions = no-elements s.definitions (eqb-true (length s.definitions) 0 (∥∥₁_elim tower (Bool-set (length s.definitions == 0) true) (λ t. eq-eqb (length s.definitions) 0 (sym (count t)))));
  }

-- ---- what a package that stands alone imports of no package

abbrev nothing-kept : Moved
nothing-kept = record { packages = []; interfaces = []; worlds = []; rows = [] }

abbrev no-marks : Marks
no-marks = record { interfaces = []; worlds = [] }

module _ (s : Resolve) (e : IsEmpty s) where
  no-row-there : (k : ℕ) (d : Definition) → slice_get s.definitions k ≡ Some d → ⊥
  no-row-there k d h = omega (arith, slice_get_within s.definitions k d h, ap length e.definitions)

  no-interface-there : (k : ℕ) (i : Interface) → slice_get s.interfaces k ≡ Some i → ⊥
  no-interface-there k i h = omega (arith, slice_get_within s.interfaces k i h, ap length e.interfaces)

  pub no-package-there : (k : ℕ) (q : PackageParts) → slice_get s.packages k ≡ Some q → ⊥
  no-package-there k q h = omega (arith, slice_get_within s.packages k q h, ap length e.packages)

  none-given : given_marks s [] ≡ no-marks
  none-given = ap (λ (n : ℕ). record { interfaces = padded n []; worlds = padded (length s.worlds) [] }) (ap length e.interfaces) ∙ ap (λ (n : ℕ). record { interfaces = []; worlds = padded n [] }) (ap length e.worlds)

  none-reached : AreReached s (OfInterfaces []) no-marks
  none-reached = record { count = sym (ap length e.interfaces); sound = λ o h. of_start o (subst (λ (m : Marks). is_marked m o ≡ true) (sym none-given) h); complete = by }
    where
      by : (o : Option Owner) → Reaches s (OfInterfaces []) o → is_marked no-marks o ≡ true
      by o (of_start _ h) = subst (λ (m : Marks). is_marked m o ≡ true) none-given h
      by o (of_row k d _ at from c) = absurd (no-row-there k d at)

  pub no-imports-of : IsImportsOf s [] [] s
  no-imports-of = record {
    to = nothing-kept;
    kept = record {
      marks = no-marks;
      are_reached = none-reached;
      packages_are = record {
        count = sym (ap length e.packages);
        given = λ k l h. absurd (omega (arith, l, ap length e.packages));
        others = λ k h. absurd (no-interface-there h.0 h.1 h.2);
        only = λ k h. absurd (true≢false (sym h));
      };
      interfaces_are = refl;
      worlds_are = sym (ap (λ (n : ℕ). padded n []) (ap length e.worlds));
      rows_are = sym (ap (λ (ds : List Definition). map (is_marked no-marks) (owners ds)) e.definitions);
    };
    table = record { packages = e.packages; interfaces = e.interfaces; worlds = e.worlds; definitions = e.definitions };
  }

  pub no-marks-of : (names : PackageParts → List ℕ → Type 0) → AreMarksOf names s [] []
  no-marks-of names = record {
    each_package = sym (ap length e.packages);
    each_interface = sym (ap length e.interfaces);
    packages_are = λ k q h. absurd (no-package-there k q h);
    interfaces_are = λ k i q h g. absurd (no-interface-there k i h);
  }

  pub behind-alone : (c : Resolve) → IsAlone c → IsBehindImports s c
  behind-alone c alone = record {
    packages = [];
    interfaces = [];
    named = no-marks-of (NamesIn c);
    imports = s;
    are = no-imports-of;
    stands = record {
      packages = ap (λ n. take n c.packages) (own-first c alone) ∙ sym e.packages;
      interfaces = imports-none c alone ∙ sym e.interfaces;
      rows = ap (λ n. take n c.definitions) (ap length e.definitions) ∙ sym e.definitions;
    };
  }

pub attaches-alone : (s c : Resolve) → AttachesAlone s c
attaches-alone s c tower none form alone = let e = is-empty s tower none in record { attached = attached-alone s c e form alone; behind = behind-alone s e c alone }
