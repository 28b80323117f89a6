-- Worked examples of sets by names: tables that are the set with a file's package more, and tables that aren't. The set `m`, the file `g`, which uses its
-- interface, and the file `w`, whose world imports it, are those of the examples of `tree_meaning`.
use Rattle.std.proofs.Common.{◌≡◌, ◌<◌, ℕ, zero, suc, true, List, [], ◌∷◌, ◌++◌, map, flat_map, length, slice_get, slice_index, Option, Some, None, codes, refl, ap, sym, subst, ◌∙◌, arith, All, Contains, true≢false}
use Rattle.package_form.specs.Closed.{are_of_a_set}
use Rattle.package_form.specs.Naming.{interface_labels_of, world_labels_of, world_scopes}
use Rattle.package_form.specs.Scope.{AreDistinct}
use Rattle.package_form.proofs.AllAndContains.{all_flat-at}
use Rattle.package_form.proofs.Examples.{all-distinct}
use Rattle.package_sets.specs.Set.{ArePackageByPackage, behind_all, an_interface, a_world}
use Rattle.package_sets.specs.SetScopes.{HasDistinctScopes, set_interface_scopes}
use Rattle.placement.specs.Order.{IsPlacement}
use Rattle.placement.proofs.Examples.{placement-by-test}
use Rattle.tables.specs.Package.{IsType, IsUse, Meaning, NamedDefinition, Package, PrimTree, Reference, WithInterface, WorldMeaning, worlds}
use Rattle.tables.specs.PackageNames.{PackageParts}
use Rattle.tables.specs.declared.tables.Definition.{Definition}
use Rattle.tables.specs.declared.tables.Direction.TheVariants as direction
use Rattle.tables.specs.declared.tables.Interface.{Interface}
use Rattle.tables.specs.declared.tables.Primitive.TheVariants as primitive
use Rattle.tables.specs.declared.tables.Resolve.{Resolve}
use Rattle.tables.specs.declared.tables.TypeDefKind.TheVariants as kind
use Rattle.tables.specs.declared.tables.ValType.TheVariants as val
use Rattle.tables.specs.declared.tables.World.{World}
use Rattle.tables.proofs.Examples.{a_b, c_d, function_in, function_of_world, imports_function, imports_interface, interface_of, key, money, named_row, q, till, type_id, u32, used_rows, world_of}
use Rattle.tree_meaning.specs.Declarations.{full_interfaces, interface_at, package_named}
use Rattle.tree_meaning.specs.Resolved.{interface_meaning}
use Rattle.tree_meaning.specs.Resolves.{type_uses}
use Rattle.tree_meaning.proofs.Examples.{defines, file_in, g, m, use_as, uses, w}
use Rattle.wit_tokens.specs.declared.wit_syntax.ast.Primitive.TheVariants as keyword
use Rattle.wit_tokens.specs.Syntax.{Alias, AnInterface, File, Foreign, Prim}
use Rattle.opening.specs.Told.{AddsFile}

-- ---- names that differ

two-packages : (labels : ℕ → List (List ℕ)) → All AreDistinct (labels 0 ∷ labels 1 ∷ []) → (k : ℕ) → k < 2 → AreDistinct (labels k)
two-packages labels h zero l = h 0 [] (omega arith)
two-packages labels h (suc zero) l = h 1 [] (omega arith)
two-packages labels h (suc (suc k)) l = absurd (omega (arith, l))

three-packages : (labels : ℕ → List (List ℕ)) → All AreDistinct (labels 0 ∷ labels 1 ∷ labels 2 ∷ []) → (k : ℕ) → k < 3 → AreDistinct (labels k)
three-packages labels h zero l = h 0 [] (omega arith)
three-packages labels h (suc zero) l = h 1 [] (omega arith)
three-packages labels h (suc (suc zero)) l = h 2 [] (omega arith)
three-packages labels h (suc (suc (suc k))) l = absurd (omega (arith, l))

abbrev labels_of_package : Resolve → ℕ → List (List ℕ)
labels_of_package r k = interface_labels_of r.interfaces k ++ world_labels_of r.worlds k

-- the scopes of all interfaces
abbrev all_scopes : Resolve → List (List (List ℕ))
all_scopes r = flat_map (set_interface_scopes r.definitions) (map (λ (i : Interface). i) r.interfaces)

scopes-apart : (r : Resolve) → ((k : ℕ) → k < length r.packages → AreDistinct (labels_of_package r k)) → All AreDistinct (all_scopes r) → All AreDistinct (flat_map world_scopes (worlds r)) → HasDistinctScopes r
scopes-apart r labels scopes of_worlds = record {
  labels = labels;
  interfaces = λ i c. all_flat-at AreDistinct (set_interface_scopes r.definitions) (λ (x : Interface). x) r.interfaces c.0 i scopes c.1 (sym c.2);
  worlds = of_worlds;
}

-- ---- what is told

-- the interface whose type a used name means
abbrev used_in : Meaning → List ℕ
used_in (IsUse (Reference k)) = k.interface
used_in _ = []

abbrev used_by : Option NamedDefinition → List ℕ
used_by None = []
used_by (Some d) = used_in d.meaning

abbrev uses_type : List ℕ → List ℕ → List ℕ → List ℕ → NamedDefinition
uses_type i name other used = record { key = key i name; meaning = IsUse (Reference (key other used)) }

one-order : IsPlacement ([] ∷ []) (0 ∷ [])
one-order = placement-by-test ([] ∷ []) (0 ∷ []) refl

known-one : (p : PackageParts) → All (Contains (p ∷ [])) (p ∷ [])
known-one p zero d l = (0, omega arith, refl)
known-one p (suc k) d l = absurd (omega (arith, l))

-- ---- the set with g: package c:d; interface till { use a:b/money@1.2.0.{money}; }

g-is-added : AddsFile g m q
g-is-added = record {
  known = known-one a_b;
  told = record { interfaces = codes "c:d/till" ∷ []; worlds = []; definitions = uses_type (codes "c:d/till") (codes "money") (codes "a:b/money@1.2.0") (codes "money") ∷ [] };
  resolves = record { order = 0 ∷ []; placed = one-order; types = λ k. []; types_placed = of_types; names = refl; worlds = refl; definitions = refl };
  is = record {
    packages = refl;
    behind = record {
      interfaces = till ∷ [];
      worlds = [];
      rows = named_row 1 (codes "money") (kind.Use (type_id 0)) ∷ [];
      interfaces_are = refl;
      worlds_are = refl;
      rows_are = refl;
    };
    names = refl;
    apart = refl;
    distinct = scopes-apart q (two-packages (labels_of_package q) (all-distinct (labels_of_package q 0 ∷ labels_of_package q 1 ∷ []) refl)) (all-distinct (all_scopes q) refl) (all-distinct [] refl);
  };
}
  where
    of_types : (k : ℕ) → k < 1 → IsPlacement (type_uses (interface_at (full_interfaces g) k)) []
    of_types zero l = placement-by-test [] [] refl
    of_types (suc k) l = absurd (omega (arith, l))

-- ---- two packages whose versions differ: package a:b@2.0.0; interface money { type money = u64; }

abbrev a_b_2 : PackageParts
a_b_2 = record { namespace = codes "a"; name = codes "b"; version = Some (codes "2.0.0") }

abbrev second : File
second = file_in a_b_2 (AnInterface (codes "money") (defines (codes "money") (Alias (Prim keyword.U64)) ∷ []) ∷ [])

abbrev of_both : List Definition
of_both = named_row 0 (codes "money") (kind.Alias u32) ∷ named_row 1 (codes "money") (kind.Alias (val.Primitive primitive.U64)) ∷ []

abbrev both : Resolve
both = record {
  packages = a_b ∷ a_b_2 ∷ [];
  interfaces = money ∷ interface_of 1 (codes "money") [] (1 ∷ []) [] ∷ [];
  worlds = [];
  definitions = of_both;
  earlier = refl;
  typed = refl;
  standard = refl;
  placed = refl;
  grouped = refl;
  worlds_grouped = refl;
  worlds_placed = refl;
}

second-is-added : AddsFile second m both
second-is-added = record {
  known = λ k d l. absurd (omega (arith, l));
  told = record { interfaces = codes "a:b/money@2.0.0" ∷ []; worlds = []; definitions = record { key = key (codes "a:b/money@2.0.0") (codes "money"); meaning = IsType (PrimTree primitive.U64) } ∷ [] };
  resolves = record { order = 0 ∷ []; placed = one-order; types = λ k. 0 ∷ []; types_placed = of_types; names = refl; worlds = refl; definitions = refl };
  is = record {
    packages = refl;
    behind = record {
      interfaces = interface_of 1 (codes "money") [] (1 ∷ []) [] ∷ [];
      worlds = [];
      rows = named_row 1 (codes "money") (kind.Alias (val.Primitive primitive.U64)) ∷ [];
      interfaces_are = refl;
      worlds_are = refl;
      rows_are = refl;
    };
    names = refl;
    apart = refl;
    distinct = scopes-apart both (two-packages (labels_of_package both) (all-distinct (labels_of_package both 0 ∷ labels_of_package both 1 ∷ []) refl)) (all-distinct (all_scopes both) refl) (all-distinct [] refl);
  };
}
  where
    of_types : (k : ℕ) → k < 1 → IsPlacement (type_uses (interface_at (full_interfaces second) k)) (0 ∷ [])
    of_types zero l = one-order
    of_types (suc k) l = absurd (omega (arith, l))

-- a package of the same name and version is added to no set that has it
not-one-version-twice : (f : File) (r : Resolve) → package_named f ≡ a_b → AddsFile f m r → ⊥
not-one-version-twice f r e a =
    let two : r.packages ≡ a_b ∷ a_b ∷ [] = a.is.packages ∙ ap (λ (p : PackageParts). a_b ∷ p ∷ []) e in
    true≢false (sym (subst (λ (ps : List PackageParts). are_of_a_set ps ≡ true) two a.is.apart))

-- package c:d; interface till { use a:b/money@2.0.0.{money}; }
abbrev of_second : File
of_second = file_in c_d (AnInterface (codes "till") (uses (Foreign (codes "a") (codes "b") (Some (codes "2.0.0")) (codes "money")) (use_as (codes "money") None ∷ []) ∷ []) ∷ [])

abbrev till_of_three : Interface
till_of_three = interface_of 2 (codes "till") (2 ∷ []) [] []

abbrev uses_second : Resolve
uses_second = record {
  packages = a_b ∷ a_b_2 ∷ c_d ∷ [];
  interfaces = money ∷ interface_of 1 (codes "money") [] (1 ∷ []) [] ∷ till_of_three ∷ [];
  worlds = [];
  definitions = of_both ++ named_row 2 (codes "money") (kind.Use (type_id 1)) ∷ [];
  earlier = refl;
  typed = refl;
  standard = refl;
  placed = refl;
  grouped = refl;
  worlds_grouped = refl;
  worlds_placed = refl;
}

abbrev uses_first : Resolve
uses_first = record {
  packages = a_b ∷ a_b_2 ∷ c_d ∷ [];
  interfaces = money ∷ interface_of 1 (codes "money") [] (1 ∷ []) [] ∷ till_of_three ∷ [];
  worlds = [];
  definitions = of_both ++ named_row 2 (codes "money") (kind.Use (type_id 0)) ∷ [];
  earlier = refl;
  typed = refl;
  standard = refl;
  placed = refl;
  grouped = refl;
  worlds_grouped = refl;
  worlds_placed = refl;
}

uses-second-is-added : AddsFile of_second both uses_second
uses-second-is-added = record {
  known = known;
  told = record { interfaces = codes "c:d/till" ∷ []; worlds = []; definitions = uses_type (codes "c:d/till") (codes "money") (codes "a:b/money@2.0.0") (codes "money") ∷ [] };
  resolves = record { order = 0 ∷ []; placed = one-order; types = λ k. []; types_placed = of_types; names = refl; worlds = refl; definitions = refl };
  is = record {
    packages = refl;
    behind = record {
      interfaces = till_of_three ∷ [];
      worlds = [];
      rows = named_row 2 (codes "money") (kind.Use (type_id 1)) ∷ [];
      interfaces_are = refl;
      worlds_are = refl;
      rows_are = refl;
    };
    names = refl;
    apart = refl;
    distinct = scopes-apart uses_second
        (three-packages (labels_of_package uses_second) (all-distinct (labels_of_package uses_second 0 ∷ labels_of_package uses_second 1 ∷ labels_of_package uses_second 2 ∷ []) refl))
        (all-distinct (all_scopes uses_second) refl) (all-distinct [] refl);
  };
}
  where
    known : All (Contains (a_b ∷ a_b_2 ∷ [])) (a_b_2 ∷ [])
    known zero d l = (1, omega arith, refl)
    known (suc k) d l = absurd (omega (arith, l))

    of_types : (k : ℕ) → k < 1 → IsPlacement (type_uses (interface_at (full_interfaces of_second) k)) []
    of_types zero l = placement-by-test [] [] refl
    of_types (suc k) l = absurd (omega (arith, l))

-- a path means the version that it names
not-the-other-version : AddsFile of_second both uses_first → ⊥
not-the-other-version a =
    let e : codes "a:b/money@1.2.0" ≡ codes "a:b/money@2.0.0" =
    ap (λ (p : Package). used_by (slice_get p.definitions 2)) a.is.names ∙ (ap (λ (ds : List NamedDefinition). used_by (slice_get ds 0)) a.resolves.definitions ∙ of_order a.resolves.order a.resolves.types a.resolves.placed) in
    let n : 49 ≡ 50 = ap (λ (ns : List ℕ). slice_index ns 10) e in
    omega (arith, n)
  where
    of_order : (order : List ℕ) (types : ℕ → List ℕ) → IsPlacement ([] ∷ []) order
        → used_by (slice_get (flat_map (λ k. interface_meaning (interface_at (full_interfaces of_second) k) (types k)) order) 0) ≡ codes "a:b/money@2.0.0"
    of_order [] types placed = absurd (true≢false (sym (placed.complete 0 (omega arith))))
    of_order (zero ∷ order) types placed = refl
    of_order (suc k ∷ order) types placed = let l : suc k < 1 = (placed.next 0 (omega arith)).in_range in absurd (omega (arith, l))

-- ---- a use through a use: package e:f; interface box { use c:d/till.{money as coin}; }

abbrev e_f : PackageParts
e_f = record { namespace = codes "e"; name = codes "f"; version = None }

abbrev through : File
through = file_in e_f (AnInterface (codes "box") (uses (Foreign (codes "c") (codes "d") None (codes "till")) (use_as (codes "money") (Some (codes "coin")) ∷ []) ∷ []) ∷ [])

abbrev box : Interface
box = interface_of 2 (codes "box") (2 ∷ []) [] []

abbrev uses_the_use : Resolve
uses_the_use = record {
  packages = a_b ∷ c_d ∷ e_f ∷ [];
  interfaces = money ∷ till ∷ box ∷ [];
  worlds = [];
  definitions = used_rows ++ named_row 2 (codes "coin") (kind.Use (type_id 1)) ∷ [];
  earlier = refl;
  typed = refl;
  standard = refl;
  placed = refl;
  grouped = refl;
  worlds_grouped = refl;
  worlds_placed = refl;
}

abbrev uses_the_type : Resolve
uses_the_type = record {
  packages = a_b ∷ c_d ∷ e_f ∷ [];
  interfaces = money ∷ till ∷ box ∷ [];
  worlds = [];
  definitions = used_rows ++ named_row 2 (codes "coin") (kind.Use (type_id 0)) ∷ [];
  earlier = refl;
  typed = refl;
  standard = refl;
  placed = refl;
  grouped = refl;
  worlds_grouped = refl;
  worlds_placed = refl;
}

through-is-added : AddsFile through q uses_the_use
through-is-added = record {
  known = known;
  told = record { interfaces = codes "e:f/box" ∷ []; worlds = []; definitions = uses_type (codes "e:f/box") (codes "coin") (codes "c:d/till") (codes "money") ∷ [] };
  resolves = record { order = 0 ∷ []; placed = one-order; types = λ k. []; types_placed = of_types; names = refl; worlds = refl; definitions = refl };
  is = record {
    packages = refl;
    behind = record {
      interfaces = box ∷ [];
      worlds = [];
      rows = named_row 2 (codes "coin") (kind.Use (type_id 1)) ∷ [];
      interfaces_are = refl;
      worlds_are = refl;
      rows_are = refl;
    };
    names = refl;
    apart = refl;
    distinct = scopes-apart uses_the_use
        (three-packages (labels_of_package uses_the_use) (all-distinct (labels_of_package uses_the_use 0 ∷ labels_of_package uses_the_use 1 ∷ labels_of_package uses_the_use 2 ∷ []) refl))
        (all-distinct (all_scopes uses_the_use) refl) (all-distinct [] refl);
  };
}
  where
    known : All (Contains (a_b ∷ c_d ∷ [])) (c_d ∷ [])
    known zero d l = (1, omega arith, refl)
    known (suc k) d l = absurd (omega (arith, l))

    of_types : (k : ℕ) → k < 1 → IsPlacement (type_uses (interface_at (full_interfaces through) k)) []
    of_types zero l = placement-by-test [] [] refl
    of_types (suc k) l = absurd (omega (arith, l))

-- it means the name that was used, and not the type that this stands for
not-past-the-use : AddsFile through q uses_the_type → ⊥
not-past-the-use a =
    let e : codes "a:b/money@1.2.0" ≡ codes "c:d/till" =
    ap (λ (p : Package). used_by (slice_get p.definitions 2)) a.is.names ∙ (ap (λ (ds : List NamedDefinition). used_by (slice_get ds 0)) a.resolves.definitions ∙ of_order a.resolves.order a.resolves.types a.resolves.placed) in
    let n : 97 ≡ 99 = ap (λ (ns : List ℕ). slice_index ns 0) e in
    omega (arith, n)
  where
    of_order : (order : List ℕ) (types : ℕ → List ℕ) → IsPlacement ([] ∷ []) order
        → used_by (slice_get (flat_map (λ k. interface_meaning (interface_at (full_interfaces through) k) (types k)) order) 0) ≡ codes "c:d/till"
    of_order [] types placed = absurd (true≢false (sym (placed.complete 0 (omega arith))))
    of_order (zero ∷ order) types placed = refl
    of_order (suc k ∷ order) types placed = let l : suc k < 1 = (placed.next 0 (omega arith)).in_range in absurd (omega (arith, l))

-- ---- a world of a later package: package c:d; world w { import a:b/money@1.2.0; }

abbrev world_added : Resolve
world_added = record {
  packages = a_b ∷ c_d ∷ [];
  interfaces = money ∷ [];
  worlds = world_of 1 (codes "w") (imports_interface 0 ∷ []) ∷ [];
  definitions = named_row 0 (codes "money") (kind.Alias u32) ∷ [];
  earlier = refl;
  typed = refl;
  standard = refl;
  placed = refl;
  grouped = refl;
  worlds_grouped = refl;
  worlds_placed = refl;
}

abbrev world_of_the_first : Resolve
world_of_the_first = record {
  packages = a_b ∷ c_d ∷ [];
  interfaces = money ∷ [];
  worlds = world_of 0 (codes "w") (imports_interface 0 ∷ []) ∷ [];
  definitions = named_row 0 (codes "money") (kind.Alias u32) ∷ [];
  earlier = refl;
  typed = refl;
  standard = refl;
  placed = refl;
  grouped = refl;
  worlds_grouped = refl;
  worlds_placed = refl;
}

w-is-added : AddsFile w m world_added
w-is-added = record {
  known = known-one a_b;
  told = record { interfaces = []; worlds = record { name = codes "c:d/w"; items = WithInterface direction.Import (codes "a:b/money@1.2.0") ∷ [] } ∷ []; definitions = [] };
  resolves = record {
    order = [];
    placed = placement-by-test [] [] refl;
    types = λ k. [];
    types_placed = λ k l. absurd (omega (arith, l));
    names = refl;
    worlds = refl;
    definitions = refl;
  };
  is = record {
    packages = refl;
    behind = record {
      interfaces = [];
      worlds = world_of 1 (codes "w") (imports_interface 0 ∷ []) ∷ [];
      rows = [];
      interfaces_are = refl;
      worlds_are = refl;
      rows_are = refl;
    };
    names = refl;
    apart = refl;
    distinct = scopes-apart world_added (two-packages (labels_of_package world_added) (all-distinct (labels_of_package world_added 0 ∷ labels_of_package world_added 1 ∷ []) refl))
        (all-distinct (all_scopes world_added) refl) (all-distinct (flat_map world_scopes (worlds world_added)) refl);
  };
}

-- it is a world of its own package
not-a-world-of-the-first : AddsFile w m world_of_the_first → ⊥
not-a-world-of-the-first a =
    let e : codes "a:b/w@1.2.0" ≡ codes "c:d/w" = ap (λ (p : Package). first_name p.worlds) a.is.names ∙ ap first_name a.resolves.worlds in
    let n : 97 ≡ 99 = ap (λ (ns : List ℕ). slice_index ns 0) e in
    omega (arith, n)
  where
    first_name : List WorldMeaning → List ℕ
    first_name [] = []
    first_name (x ∷ xs) = x.name

-- rows of a world stand before those of an interface of a later package, and those of such an interface don't stand before them
abbrev world_first : List Definition
world_first = function_of_world 0 (codes "f") [] None ∷ function_in 0 (codes "f") [] None ∷ []

abbrev interface_first : List Definition
interface_first = function_in 0 (codes "f") [] None ∷ function_of_world 0 (codes "f") [] None ∷ []

abbrev later : ℕ → Interface
later n = interface_of 1 (codes "i") [] [] (n ∷ [])

abbrev earlier : ℕ → World
earlier n = world_of 0 (codes "w") (imports_function n ∷ [])

world-before-interface : ArePackageByPackage world_first 0 0 (later 1 ∷ []) 0 (earlier 0 ∷ [])
world-before-interface =
    a_world 0 0 (later 1 ∷ []) 0 (earlier 0) [] (record { begins = omega arith; ends = omega arith; items = refl; local = refl }) refl
    (an_interface 1 0 (later 1) [] 1 [] (record { begins = omega arith; ends = omega arith; ids = refl; local = refl }) refl (behind_all 2 1 1 refl))

not-interface-before-world : ArePackageByPackage interface_first 0 0 (later 0 ∷ []) 0 (earlier 1 ∷ []) → ⊥
not-interface-before-world (an_interface start k i is j ws a before rest) = true≢false (sym before)
not-interface-before-world (a_world start k is j v ws a after rest) = true≢false (sym a.items)

-- ---- a path to the own package: package c:d; interface x { type t = u8; } interface y { use c:d/x.{t}; }

abbrev own_path : File
own_path = file_in c_d
    (AnInterface (codes "x") (defines (codes "t") (Alias (Prim keyword.U8)) ∷ [])
    ∷ AnInterface (codes "y") (uses (Foreign (codes "c") (codes "d") None (codes "x")) (use_as (codes "t") None ∷ []) ∷ []) ∷ [])

-- it is not added to the set, which has no package of this name
not-its-own-package : (r : Resolve) → AddsFile own_path m r → ⊥
not-its-own-package r a = lacks (a.known 0 c_d (omega arith))
  where
    lacks : Contains (a_b ∷ []) c_d → ⊥
    lacks (zero, l, e) = let n : 97 ≡ 99 = ap (λ (x : PackageParts). slice_index x.namespace 0) e in omega (arith, n)
    lacks (suc k, l, e) = omega (arith, l)
